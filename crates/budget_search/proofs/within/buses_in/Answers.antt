-- `within::buses_in` meets its contract: what its invariant (Invariants.antt) leaves to show. Assumes nothing.
use Rattle.std.proofs.Common.{rules, arith, ◌≡◌, ◌∙◌, ◌+◌, ◌-◌, ◌≤◌, sym, ap, length, take, drop}
use Rattle.std.proofs.lemmas.List.{take_all}
use Rattle.units.specs.Places.{padded}
use Rattle.units.proofs.PlaceLaws.{padded-none}
use Rattle.budget_search.specs.Steps.{modules_max, buses_at}
use Rattle.budget_search.proofs.KeptLaws.{padded-next}
use Rattle.budget_search.proofs.within.buses_in.Goals as goal

pub loop-i-init : goal.loop-i-init
loop-i-init c = sym (padded-none modules_max 0)

pub loop-i-preserved : goal.loop-i-preserved
loop-i-preserved c =
    let l = c.loop-i in
    let xs = take (buses_at + c.args.n - buses_at) (drop buses_at c.args.best) in
    let few : length xs ≤ modules_max = search rules in
    rw (c.from.ensures, l.invariant) (padded-next modules_max xs l.i (omega arith) (omega arith))

pub returns : goal.returns
returns c =
    let e : buses_at + c.args.n - buses_at ≡ c.args.n = omega arith in
    c.loop-i.invariant ∙ ap (padded modules_max 0) (take_all _ _ (omega arith) ∙ ap (λ j. take j (drop buses_at c.args.best)) e)
