-- When a plan record is good (document 01, "The plan file"; document 02, items 1 and 6): its counts keep the limits, its buses and widths
-- obey the plan rules, busy and time are the sums and the maximum, starts are the sums before them, and spare places are 0.
use Rattle.std.specs.Prelude.{ℕ, suc, ◌-◌, Bool, true, ◌&&◌, List, [], ◌∷◌, get_or, drop, leb, eqb}
use Rattle.soc.specs.Limits.{modules_max}
use Rattle.units.specs.Places.{all_of}
use Rattle.wrapper_fit.specs.Maxima.{width_max, module_time_max}
use Rattle.plan_rules.specs.Plans.{sum, largest}
use Rattle.plan_record.specs.Record.{bus_places, module_places, no_bus, buses_of, modules_of, widths_of, busies_of, numbers_of, cycles_on, start_of}
use Rattle.plan_record.specs.declared.record.Bus.{Bus}
use Rattle.plan_record.specs.declared.record.PlacedModule.{PlacedModule}
use Rattle.plan_record.specs.declared.record.BusPlan.{BusPlan}

-- from low to high
abbrev pub within : ℕ → ℕ → ℕ → Bool
within low high n = leb low n && leb n high

-- "W 1 to 64, B 1 to 3, modules 1 to 12"
unfoldable pub good_counts : BusPlan → Bool
good_counts p = within 1 width_max p.wires.0 && (within 1 bus_places p.limit && within 1 module_places p.module_count)

-- "numbers 0 to 39 strictly ascending", from 1 on since "a plan record or plan file that names module 0 is 12": each at least low, and the
-- next one above it
unfoldable pub ascending_from : ℕ → List ℕ → Bool
ascending_from low [] = true
ascending_from low (n ∷ ns) = leb low n && (leb n (modules_max - 1) && ascending_from (suc n) ns)

-- "each bus from 1 to the number of buses, cycles 1 to the module maximum above, wires 1 to the bus's width"
unfoldable pub good_placed : BusPlan → PlacedModule → Bool
good_placed p m =
    within 1 p.bus_count m.bus
    && (within 1 module_time_max m.cycles.0 && within 1 (get_or p.buses (m.bus - 1) no_bus).width.0 m.wires.0)

-- "bus count and widths obey the plan rules": widths of at least 1, non-decreasing, summing to W
unfoldable pub rising_from : ℕ → List ℕ → Bool
rising_from low [] = true
rising_from low (w ∷ ws) = leb low w && rising_from w ws

unfoldable pub good_buses : BusPlan → Bool
good_buses p = within 1 p.limit p.bus_count && (rising_from 1 (widths_of (buses_of p)) && eqb (sum (widths_of (buses_of p))) p.wires.0)

-- "busy and time are the sums and the maximum"
unfoldable pub good_busies : List PlacedModule → ℕ → List Bus → Bool
good_busies ms b [] = true
good_busies ms b (x ∷ xs) = eqb x.busy.0 (cycles_on b ms) && good_busies ms (suc b) xs

unfoldable pub good_times : BusPlan → Bool
good_times p = good_busies (modules_of p) 1 (buses_of p) && eqb p.time.0 (largest (busies_of (buses_of p)))

-- "A good file or record has exactly these starts."
abbrev pub start_is : List PlacedModule → PlacedModule → Bool
start_is ms m = eqb m.start.0 (start_of ms m)

unfoldable pub good_starts : List PlacedModule → Bool
good_starts ms = all_of (start_is ms) ms

-- spare places are 0
unfoldable pub spare_bus : Bus → Bool
spare_bus b = eqb b.width.0 0 && eqb b.busy.0 0

unfoldable pub spare_placed : PlacedModule → Bool
spare_placed m = eqb m.number 0 && (eqb m.bus 0 && (eqb m.wires.0 0 && (eqb m.cycles.0 0 && eqb m.start.0 0)))

unfoldable pub spare_rest : BusPlan → Bool
spare_rest p = all_of spare_bus (drop p.bus_count p.buses) && all_of spare_placed (drop p.module_count p.modules)

unfoldable pub good_plan : BusPlan → Bool
good_plan p =
    good_counts p
    && (ascending_from 1 (numbers_of (modules_of p))
    && (all_of (good_placed p) (modules_of p) && (good_buses p && (good_times p && (good_starts (modules_of p) && spare_rest p)))))
