-- `groups::widen` meets its contract. The loop's invariant: the widths before j stand, and those from j on are the widest for what is left
-- (`Widened`). Assumes nothing.
use Rattle.plan_search.proofs.GroupLaws.{Widened}
use Rattle.plan_search.proofs.groups.widen.Given as goal

abbrev pub invariant-loop-j : goal.invariant-loop-j
invariant-loop-j l = Widened l.initial.widths l.low.0 l.initial.left l.initial.j l.widths l.left l.j
