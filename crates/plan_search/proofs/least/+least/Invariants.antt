-- `least::least`, which calls itself, meets its contract. The measure is how many modules have no bus yet. The loop's invariant is
-- `Left`: the least time at the start is that of the present best with the buses from b on, and the loads are those at the start.
-- Assumes nothing.
use Prim.Native.Nat.{◌-◌}
use lib.ListN.{length}
use Rattle.plan_search.proofs.LeastLaws.{Left}
use Rattle.plan_search.proofs.least.+least.Given as goal

abbrev pub decreases-least : goal.decreases-least
decreases-least l = length l.rest.now - l.i

abbrev pub invariant-loop-b : goal.invariant-loop-b
invariant-loop-b l = Left l.table l.widths l.rest l.i l.initial.r.0 l.initial.loads l.loads l.r.0 l.b
