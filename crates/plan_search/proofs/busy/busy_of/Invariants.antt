-- `plan_search::busy::busy_of` meets its contract. The loop's invariant: the sum is the busy figure of the modules before i, and at
-- most the largest time for each of them. Assumes nothing.
use Prim.Native.Nat.{◌*◌, ◌≤◌}
use mathlib.Core.Path.{◌≡◌}
use lib.ListN.{take}
use Rattle.plan_rules.specs.Plans.{busy_from}
use Rattle.plan_search.specs.Search.{table_time, time_bound}
use Rattle.plan_search.proofs.busy.busy_of.Given as goal

abbrev pub invariant-loop-i : goal.invariant-loop-i
invariant-loop-i l = (l.sum.0 ≡ busy_from (table_time l.table) 0 l.b l.w.0 (take l.i l.fn.buses)) × (l.sum.0 ≤ l.i * time_bound)
