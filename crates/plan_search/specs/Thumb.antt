-- A rule of thumb: what its functions ask and leave. All that counts of its figure is that some plan takes that time.
use Rattle.std.specs.Prelude.{ℕ, ◌≤◌, ◌<◌, ◌≡◌, length, get_or}
use mathlib.Core.List.{List, Memᴰ}
use Rattle.plan_rules.specs.Plans.{busies}
use Rattle.plan_rules.specs.Listed.{placements}
use Rattle.plan_search.specs.Search.{search_buses, row_places, table_time, time_on}

-- some buses, of widths for which a table has places
pub record AreBuses (ws : List ℕ) : Type 0 where
  pub some : 1 ≤ length ws
  pub few : length ws ≤ search_buses
  pub wide : (b : ℕ) → b < length ws → (1 ≤ get_or ws b 0) × (get_or ws b 0 ≤ row_places)

-- the loads of some placement of the first i modules
pub record Partly (t ws : List ℕ) (i : ℕ) (loads : List ℕ) : Type 0 where
  pub buses : List ℕ
  pub listed : Memᴰ buses (placements i (length ws))
  pub loads_are : loads ≡ busies (table_time t) buses 1 ws

-- r is the time of some placement of n modules on buses of the widths ws
pub record Placeable (t ws : List ℕ) (n r : ℕ) : Type 0 where
  pub buses : List ℕ
  pub listed : Memᴰ buses (placements n (length ws))
  pub takes : time_on t ws buses ≡ r
