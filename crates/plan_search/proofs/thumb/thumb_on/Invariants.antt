-- `thumb_on` meets its contract. The loop's invariant is `Thumbed`: the loads are those of a placement of i modules. Assumes nothing.
use Rattle.plan_search.proofs.ThumbLaws.{Thumbed}
use Rattle.plan_search.proofs.thumb.thumb_on.Given as goal

abbrev pub invariant-loop-i : goal.invariant-loop-i
invariant-loop-i l = Thumbed l.table l.widths l.n l.i l.loads l.top.0
