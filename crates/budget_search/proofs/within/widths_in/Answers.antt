-- `within::widths_in` meets its contract. Assumes nothing.
use Rattle.std.proofs.Common.{rules, arith, ◌≡◌, ◌+◌, ◌-◌, get_or, length}
use Rattle.budget_search.specs.Steps.{buses_max, best_places}
use Rattle.budget_search.proofs.KeptLaws.{front-padded}
use Rattle.budget_search.proofs.within.widths_in.Goals as goal

pub returns : goal.returns
returns c =
    let best = c.args.best in
    let n : get_or best 0 0 + 1 - 1 ≡ get_or best 0 0 = omega arith in
    let l : length best ≡ best_places = search rules in
    rw (c.copy_from_slice.ensures.after, n) (front-padded buses_max (get_or best 0 0) 1 best (omega arith))
