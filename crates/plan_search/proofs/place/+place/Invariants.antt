-- `place::place`, which calls itself, meets its contract. The measure is the number of modules that have no bus yet. The loop's invariant,
-- `Left`: the best at the start, with all placements to come, gives what the present best gives with those whose next bus is b + 1 or
-- later; the loads and the bus numbers before i are those at the start. A turn is `left-tried` or `left_dropped`. Assumes nothing.
use Prim.Native.Nat.{◌-◌}
use lib.ListN.{length}
use Rattle.plan_search.proofs.PlaceLaws.{Left}
use Rattle.plan_search.proofs.place.+place.Given as goal

abbrev pub decreases-place : goal.decreases-place
decreases-place l = length l.buses.now - l.i

abbrev pub invariant-loop-b : goal.invariant-loop-b
invariant-loop-b l = Left l.table l.widths l.i l.initial.loads l.initial.buses l.initial.best l.loads l.buses l.best l.b
