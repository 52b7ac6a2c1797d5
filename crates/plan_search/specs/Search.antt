-- The search for the first plan of least time over a table of times (document 01, "The plan"): what its buffers hold, and what each step
-- leaves in them.
use Rattle.std.specs.Prelude.{ℕ, ◌+◌, ◌-◌, ◌*◌, ◌≤◌, ◌<◌, ◌≡◌, List, ◌++◌, map, length, get_or, take, drop}
use Rattle.units.specs.Places.{padded}
use Rattle.plan_rules.specs.Plans.{Plan, busies, largest, time_of}
use Rattle.plan_rules.specs.Listed.{placements}
use Rattle.plan_rules.specs.Least.{cost_on, keep_all}
use Rattle.plan_rules.specs.Widths.{Rising}
use Rattle.plan_search.specs.declared.widths.Found.{Found}

-- the most buses and the most modules that the search has room for
abbrev pub search_buses : ℕ
search_buses = 3

abbrev pub search_modules : ℕ
search_modules = 12

-- the places of an answer for buses and for modules, whichever search gives it: those of a plan record
abbrev pub found_buses : ℕ
found_buses = 8

abbrev pub found_modules : ℕ
found_modules = 39

-- the places of each module in a table: one for each width
abbrev pub row_places : ℕ
row_places = 64

-- the time of module i, from 0, at width w
abbrev pub table_time : List ℕ → ℕ → ℕ → ℕ
table_time t i w = get_or t (i * row_places + (w - 1)) 0

-- no time of a table is above this, so that no sum of times overflows: 2⁴⁸
abbrev pub time_bound : ℕ
time_bound = 281474976710656

-- a search begins at no time above this, so that no product overflows: 2⁵⁶
abbrev pub best_max : ℕ
best_max = 72057594037927936

pub record TimeIn (t : List ℕ) (i w : ℕ) : Type 0 where
  pub low : 1 ≤ w
  pub high : w ≤ row_places
  pub entry : i * row_places + row_places ≤ length t

-- the time of a placement on buses of these widths
abbrev pub time_on : List ℕ → List ℕ → List ℕ → ℕ
time_on t = cost_on (time_of (table_time t))

-- module i is to be placed: the loads are those of the modules before it, and the largest is below the best time
pub record Ready (t ws : List ℕ) (i top : ℕ) (loads buses best : List ℕ) : Type 0 where
  pub table : length buses * row_places ≤ length t
  pub times : (j w : ℕ) → table_time t j w ≤ time_bound
  pub wide : (b : ℕ) → b < length ws → (1 ≤ get_or ws b 0) × (get_or ws b 0 ≤ row_places)
  pub modules : length buses ≤ search_modules
  pub at : i ≤ length buses
  pub loads_are : loads ≡ busies (table_time t) (take i buses) 1 ws
  pub top_is : top ≡ largest loads
  pub below : top < get_or best 0 0
  pub room : length best ≡ length buses + 1

-- all placements of the modules from i on were tried, and nothing but the best and the bus numbers from i on has changed
pub record Placed (t ws : List ℕ) (i : ℕ) (loads loads' buses buses' best best' : List ℕ) : Type 0 where
  pub loads_same : loads' ≡ loads
  pub buses_same : take i buses' ≡ take i buses
  pub best_is : best' ≡ keep_all (time_on t ws) best (map (λ bs. take i buses ++ bs) (placements (length buses - i) (length ws)))

-- a table of the times of n modules, no more than an answer has places for, which keep their limit
pub record AreTimes (t : List ℕ) (n : ℕ) : Type 0 where
  pub few : n ≤ found_modules
  pub long : n * row_places ≤ length t
  pub times : (i w : ℕ) → table_time t i w ≤ time_bound

-- a table of n modules, no more than there is room for, whose times keep their limit and do not rise with the width
pub record IsTable (t : List ℕ) (n : ℕ) : Type 0 where
  pub few : n ≤ search_modules
  pub long : n * row_places ≤ length t
  pub times : (i w : ℕ) → table_time t i w ≤ time_bound
  pub falls : (i v w : ℕ) → i < n → 1 ≤ v → v ≤ w → w ≤ row_places → table_time t i w ≤ table_time t i v

-- "widths of at least 1, non-decreasing", none wider than a table has places
pub record AreWidths (ws : List ℕ) : Type 0 where
  pub some : 1 ≤ length ws
  pub few : length ws ≤ search_buses
  pub rising : Rising 1 ws
  pub narrow : largest ws ≤ row_places

-- a plan that was found and its time, as an answer has them
abbrev pub found_as : ℕ → Plan → Found
found_as t p =
    record {
      count = length p.widths;
      widths = padded found_buses 0 p.widths;
      buses = padded found_modules 0 p.buses;
      time = record { 0 = t };
    }

abbrev pub found_of : (ℕ → ℕ → ℕ) → Plan → Found
found_of time p = found_as (time_of time p) p

-- what buffers hold of it: the time before the bus numbers, and how many widths before the widths
abbrev pub found_in : List ℕ → List ℕ → Found
found_in best found =
    record {
      count = get_or found 0 0;
      widths = padded found_buses 0 (take (get_or found 0 0) (drop 1 found));
      buses = padded found_modules 0 (drop 1 best);
      time = record { 0 = get_or best 0 0 };
    }

-- the buffers hold a plan that an answer has room for
pub record IsHeld (best found : List ℕ) : Type 0 where
  pub time : 1 ≤ length best
  pub modules : length best ≤ search_modules + 1
  pub counted : 1 ≤ length found
  pub few : get_or found 0 0 ≤ search_buses
  pub count : get_or found 0 0 < length found
