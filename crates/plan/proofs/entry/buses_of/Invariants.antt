-- `plan::entry::buses_of` meets its contract. The loop's invariant: the list holds the records of the first b buses, and behind them no
-- bus. Assumes nothing.
use mathlib.Core.Path.{◌≡◌}
use lib.ListN.{take}
use Rattle.units.specs.Places.{padded}
use Rattle.plan_search.specs.Search.{table_time}
use Rattle.plan_record.specs.Record.{bus_places, no_bus}
use Rattle.plan.proofs.EntryLaws.{bus_front}
use Rattle.plan.proofs.entry.buses_of.Given as goal

abbrev pub invariant-loop-b : goal.invariant-loop-b
invariant-loop-b l = l.list ≡ padded bus_places no_bus (bus_front (table_time l.table) (take l.n l.fn.f.buses) l.fn.f.widths l.b)
