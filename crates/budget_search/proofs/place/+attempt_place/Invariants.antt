-- The cycle of calls of `place::attempt` and `place::place` meets its contracts. The measure is twice the number of modules that are left,
-- and one more for `place`. The loop's invariant, `Left`: the definition from the start is what is left of it, over so many of the n buses,
-- at the present record and buffer; the busy figures and the bus numbers before i are those at the start. Assumes nothing.
use Prim.Native.Nat.{◌+◌, ◌-◌, ◌*◌}
use lib.ListN.{length}
use Rattle.budget_search.proofs.PlaceLaws.{Left}
use Rattle.budget_search.proofs.place.+attempt_place.Given as goal

abbrev pub decreases-attempt : goal.decreases-attempt
decreases-attempt l = (length l.buses.now - l.i) * 2

abbrev pub decreases-place : goal.decreases-place
decreases-place l = (length l.buses.now - l.i) * 2 + 1

abbrev pub invariant-place-loop-bus : goal.invariant-place-loop-bus
invariant-place-loop-bus l =
    Left l.table l.widths l.budget l.i l.initial.loads l.initial.buses l.initial.best l.initial.r l.loads l.buses l.best l.r l.bus
