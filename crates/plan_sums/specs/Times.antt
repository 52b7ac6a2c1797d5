-- What the sums of a record's cycles ask: few modules, each within the module maximum, so that no sum overflows. And what they are.
use Rattle.std.specs.Prelude.{ℕ, ◌≤◌, ◌<◌, Bool, cond, List, get_or, sum_by}
use Rattle.wrapper_fit.specs.Maxima.{module_time_max}
use Rattle.plan_record.specs.Record.{module_places, no_placed}
use Rattle.plan_record.specs.declared.record.PlacedModule.{PlacedModule}
use Rattle.plan_record.specs.declared.record.BusPlan.{BusPlan}

pub record CyclesFit (p : BusPlan) : Type 0 where
  pub few : p.module_count ≤ module_places
  pub each : (i : ℕ) → i < p.module_count → (get_or p.modules i no_placed).cycles.0 ≤ module_time_max

-- the cycles of the modules of which t holds
abbrev pub cycles_where : (PlacedModule → Bool) → List PlacedModule → ℕ
cycles_where t ms = sum_by (λ m. cond (t m) m.cycles.0 0) ms
