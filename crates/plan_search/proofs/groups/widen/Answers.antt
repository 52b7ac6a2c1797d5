-- `groups::widen` meets its contract: what its invariant (Invariants.antt) leaves to show. Assumes nothing.
use lib.ListN.{length-set}
use Rattle.plan_search.proofs.GroupLaws.{widened-next, widened-all, widened-wide}
use Rattle.plan_search.proofs.groups.widen.Goals as goal

pub loop-j-preserved : goal.loop-j-preserved
loop-j-preserved c = rw length-set at (widened-next c.loop-j.invariant (rw length-set c.loop-j-test.true))

pub returns : goal.returns
returns c = widened-wide c.requires (widened-all c.loop-j.invariant (rw length-set c.loop-j-test.false))
