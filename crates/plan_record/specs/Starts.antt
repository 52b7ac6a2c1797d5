-- When the modules of a plan record run (document 02, item 1): "The test floor asks when each core begins."
use Rattle.std.specs.Prelude.{ℕ, ◌+◌, ◌-◌, ◌≤◌, ◌<◌, ◌≡◌, get_or}
use Rattle.plan_record.specs.Record.{no_bus, no_placed}
use Rattle.plan_record.specs.declared.record.Bus.{Bus}
use Rattle.plan_record.specs.declared.record.PlacedModule.{PlacedModule}
use Rattle.plan_record.specs.declared.record.BusPlan.{BusPlan}

-- a module runs from its start on for its cycles: where it ends, and that it runs at cycle t
abbrev pub end_of : PlacedModule → ℕ
end_of m = m.start.0 + m.cycles.0

pub record RunsAt (m : PlacedModule) (t : ℕ) : Type 0 where
  pub begun : m.start.0 ≤ t
  pub going : t < end_of m

-- the planned module i of a record, counted from 0, and the bus that it is on
abbrev pub module_of : BusPlan → ℕ → PlacedModule
module_of p i = get_or p.modules i no_placed

abbrev pub bus_of : BusPlan → ℕ → Bus
bus_of p i = get_or p.buses ((module_of p i).bus - 1) no_bus

-- module i is the last on its bus: none there has a higher number
abbrev pub IsLast : BusPlan → ℕ → Type 0
IsLast p i = (j : ℕ) → j < p.module_count → (module_of p j).bus ≡ (module_of p i).bus → (module_of p j).number ≤ (module_of p i).number
