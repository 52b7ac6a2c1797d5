-- `place::keep_plan` meets its contract: the count, the widths and the bus numbers are put one behind the other. Assumes nothing.
use mathlib.Core.Path.{◌≡◌, sym, ap, ◌∙◌}
use lib.ListN.{length}
use Rattle.budget_search.specs.Steps.{buses_at, plan_in}
use Rattle.budget_search.proofs.KeptLaws.{kept, over, plan-kept, rooms-kept}
use Rattle.budget_search.proofs.place.keep_plan.Goals as goal

pub returns : goal.returns
returns c = let a = c.args in
    let ws = a.widths.now in
    let bs = a.buses.now in
    let last = c.put-2.new.to in
    let p = c.requires.2.places in
    let is : last ≡ kept ws bs a.best.now =
    c.put-2.ensures.0 ∙ ap (λ l. over bs l buses_at) c.put.ensures.0 in
    let n : length (kept ws bs a.best.now) ≡ length a.best.now = ap length (sym is) ∙ c.put-2.ensures.1 ∙ sym p in (
      ap (plan_in (length bs)) is ∙ plan-kept ws bs c.requires.0 a.best.now p,
      rw is (rooms-kept ws bs c.requires.0 a.best.now p n),
    )
