-- How the parts of a plan record are made from what the search found (document 01, "The plan"; document 02, item 1).
use Rattle.std.specs.Prelude.{ℕ, suc, ◌+◌, ◌-◌, ◌*◌, ◌≤◌, ◌<◌, List, [], ◌∷◌, get_or, take}
use Rattle.units.specs.Places.{padded}
use Rattle.soc.specs.declared.planned.Planned.{Planned}
use Rattle.wrapper_fit.specs.Counts.{wires, cycles}
use Rattle.wrapper_fit.specs.Maxima.{width_max}
use Rattle.plan_rules.specs.Plans.{busy_from, busies}
use Rattle.plan_record.specs.Record.{bus_places, module_places, no_bus, no_placed, bus_records}
use Rattle.plan_record.specs.declared.record.Bus.{Bus}
use Rattle.plan_record.specs.declared.record.PlacedModule.{PlacedModule}
use Rattle.plan_record.specs.declared.record.BusPlan.{BusPlan}
use Rattle.plan.specs.declared.tables.Tables.{Tables}
use Rattle.plan_search.specs.Search.{row_places, table_time}
use Rattle.plan_search.specs.declared.widths.Found.{Found}

-- the counts, widths and bus numbers of what was found keep their limits
pub record IsFound (f : Found) (n : ℕ) : Type 0 where
  pub few : f.count ≤ bus_places
  pub wide : (b : ℕ) → b < f.count → (1 ≤ get_or f.widths b 0) × (get_or f.widths b 0 ≤ width_max)
  pub placed : (i : ℕ) → i < n → (1 ≤ get_or f.buses i 0) × (get_or f.buses i 0 ≤ f.count)

unfoldable pub buses_is : (ℕ → ℕ → ℕ) → Found → ℕ → List Bus
buses_is time f n =
    padded bus_places no_bus (bus_records (take f.count f.widths) (busies time (take n f.buses) 1 (take f.count f.widths)))

-- the planned module i, from what the tables hold at its bus's width, and its start, the times there of the modules before it on that bus
abbrev pub placed_at : Planned → Tables → Found → ℕ → ℕ → PlacedModule
placed_at p t f i b =
    record {
      number = get_or p.numbers i 0;
      bus = b;
      wires = wires (get_or t.wires (i * row_places + (get_or f.widths (b - 1) 0 - 1)) 0);
      cycles = cycles (get_or t.cycles (i * row_places + (get_or f.widths (b - 1) 0 - 1)) 0);
      start = cycles (busy_from (table_time t.cycles) 0 b (get_or f.widths (b - 1) 0) (take i f.buses));
    }

unfoldable pub placed_from : Planned → Tables → Found → ℕ → List ℕ → List PlacedModule
placed_from p t f i [] = []
placed_from p t f i (b ∷ bs) = placed_at p t f i b ∷ placed_from p t f (suc i) bs

unfoldable pub modules_is : Planned → Tables → Found → List PlacedModule
modules_is p t f = padded module_places no_placed (placed_from p t f 0 (take p.count f.buses))

-- the record of what was found for W wires and limit B
abbrev pub record_from : Planned → Tables → ℕ → ℕ → Found → BusPlan
record_from p t W B f =
    record {
      wires = wires W;
      limit = B;
      bus_count = f.count;
      buses = buses_is (table_time t.cycles) f p.count;
      module_count = p.count;
      modules = modules_is p t f;
      time = f.time;
    }
