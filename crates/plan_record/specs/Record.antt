-- The plan record: what it holds of a plan (document 01, "The plan"; document 02, item 1). It is made of numbers, times and wires, and
-- knows nothing of how these were found.
use Rattle.std.specs.Prelude.{ℕ, suc, ◌+◌, ◌-◌, Bool, cond, ◌&&◌, List, [], ◌∷◌, map, length, get_or, take, replicate, eqb, ltb}
use Rattle.units.specs.Places.{padded}
use Rattle.wrapper_fit.specs.Counts.{wires, cycles}
use Rattle.plan_rules.specs.Plans.{Plan, busy_from, busies, time_of}
use Rattle.plan_record.specs.declared.record.Bus.{Bus}
use Rattle.plan_record.specs.declared.record.PlacedModule.{PlacedModule}
use Rattle.plan_record.specs.declared.record.BusPlan.{BusPlan}

-- the places of a record: for buses, and for planned modules
abbrev pub bus_places : ℕ
bus_places = 8

abbrev pub module_places : ℕ
module_places = 39

-- spare places are 0
abbrev pub no_bus : Bus
no_bus = record { width = wires 0; busy = cycles 0 }

abbrev pub no_placed : PlacedModule
no_placed = record { number = 0; bus = 0; wires = wires 0; cycles = cycles 0; start = cycles 0 }

abbrev pub no_plan : BusPlan
no_plan =
    record {
      wires = wires 0;
      limit = 0;
      bus_count = 0;
      buses = replicate bus_places no_bus;
      module_count = 0;
      modules = replicate module_places no_placed;
      time = cycles 0;
    }

-- the buses and the planned modules of a record
abbrev pub buses_of : BusPlan → List Bus
buses_of p = take p.bus_count p.buses

abbrev pub modules_of : BusPlan → List PlacedModule
modules_of p = take p.module_count p.modules

-- the widths of buses and their busy figures; the numbers of modules and their buses
abbrev pub widths_of : List Bus → List ℕ
widths_of bs = map (λ b. b.width.0) bs

abbrev pub busies_of : List Bus → List ℕ
busies_of bs = map (λ b. b.busy.0) bs

abbrev pub numbers_of : List PlacedModule → List ℕ
numbers_of ms = map (λ m. m.number) ms

abbrev pub places_of : List PlacedModule → List ℕ
places_of ms = map (λ m. m.bus) ms

-- the plan that a record holds
abbrev pub plan_of : BusPlan → Plan
plan_of r = record { widths = widths_of (buses_of r); buses = places_of (modules_of r) }

-- "A bus is busy for the sum of its modules' times": the cycles of the modules that name bus b
unfoldable pub cycles_on : ℕ → List PlacedModule → ℕ
cycles_on b [] = 0
cycles_on b (m ∷ ms) = cond (eqb m.bus b) m.cycles.0 0 + cycles_on b ms

-- "Modules on a bus run in ascending number": x runs on m's bus before m
abbrev pub runs_before : PlacedModule → PlacedModule → Bool
runs_before x m = eqb x.bus m.bus && ltb x.number m.number

-- "a module starts at the sum of the cycles of lower-numbered modules on its bus"
unfoldable pub start_of : List PlacedModule → PlacedModule → ℕ
start_of [] m = 0
start_of (x ∷ xs) m = cond (runs_before x m) x.cycles.0 0 + start_of xs m

-- each bus with its width and its busy figure
unfoldable pub bus_records : List ℕ → List ℕ → List Bus
bus_records [] bs = []
bus_records (w ∷ ws) [] = []
bus_records (w ∷ ws) (b ∷ bs) = record { width = wires w; busy = cycles b } ∷ bus_records ws bs

-- each planned module from place i on, with its bus, its wires and cycles there, and its start, the times of the modules before it on that
-- bus: `time i w` and `used i w` are the cycles and the wires of planned module i, from 0, on a bus of width w, and `all` has the bus of
-- every planned module
unfoldable pub module_records : List ℕ → (ℕ → ℕ → ℕ) → (ℕ → ℕ → ℕ) → List ℕ → List ℕ → ℕ → List ℕ → List PlacedModule
module_records numbers time used ws all i [] = []
module_records numbers time used ws all i (b ∷ bs) =
    record {
      number = get_or numbers i 0;
      bus = b;
      wires = wires (used i (get_or ws (b - 1) 0));
      cycles = cycles (time i (get_or ws (b - 1) 0));
      start = cycles (busy_from time 0 b (get_or ws (b - 1) 0) (take i all));
    }
    ∷ module_records numbers time used ws all (suc i) bs

-- the record of a plan for W wires and limit B; spare places are 0
unfoldable pub plan_record : List ℕ → (ℕ → ℕ → ℕ) → (ℕ → ℕ → ℕ) → ℕ → ℕ → Plan → BusPlan
plan_record numbers time used W B p =
    record {
      wires = wires W;
      limit = B;
      bus_count = length p.widths;
      buses = padded bus_places no_bus (bus_records p.widths (busies time p.buses 1 p.widths));
      module_count = length numbers;
      modules = padded module_places no_placed (module_records numbers time used p.widths p.buses 0 p.buses);
      time = cycles (time_of time p);
    }
