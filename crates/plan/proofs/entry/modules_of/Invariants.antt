-- `plan::entry::modules_of` meets its contract. The loop's invariant: the list holds the first i placed modules, and behind them no
-- module. Assumes nothing.
use mathlib.Core.Path.{◌≡◌}
use lib.ListN.{take}
use Rattle.units.specs.Places.{padded}
use Rattle.plan_record.specs.Record.{module_places, no_placed}
use Rattle.plan.specs.Records.{placed_from}
use Rattle.plan.proofs.entry.modules_of.Given as goal

abbrev pub invariant-loop-i : goal.invariant-loop-i
invariant-loop-i l = l.list ≡ padded module_places no_placed (placed_from l.fn.p l.t l.f 0 (take l.i l.f.buses))
