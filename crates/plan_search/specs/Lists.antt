-- The search over the lists of widths: the first list on which the time is least, in a lent buffer.
use Rattle.std.specs.Prelude.{ℕ, suc, ◌-◌, ◌*◌, ◌≤◌, ◌<◌, ◌≡◌, List, [], ◌∷◌, ◌++◌, map, length, get_or, take, drop}
use Rattle.plan_rules.specs.Plans.{largest}
use Rattle.plan_rules.specs.Listed.{upward, width_lists}
use Rattle.plan_rules.specs.Least.{least_on, Kept, keep_lists}
use Rattle.plan_rules.specs.Widths.{Rising}
use Rattle.plan_search.specs.Search.{search_buses, row_places, table_time, best_max, IsTable}

-- the least time so far, with the widths that a buffer holds: how many, and behind that the widths
abbrev pub kept : ℕ → List ℕ → Kept
kept best found = record { time = best; widths = take (get_or found 0 0) (drop 1 found) }

-- the buffer has places for c widths, and those that it holds lie within it
pub record Rooms (c : ℕ) (found : List ℕ) : Type 0 where
  pub places : c < length found
  pub count : get_or found 0 0 < length found

-- the lists of widths that begin with pre and w, with k widths behind it, where left wires are left for these and w
unfoldable pub starting_with : List ℕ → ℕ → ℕ → ℕ → List (List ℕ)
starting_with pre k left w = map (λ ws. (pre ++ w ∷ []) ++ ws) (width_lists k w (left - w))

-- those of which the width behind pre is from low to high
abbrev pub group : List ℕ → ℕ → ℕ → ℕ → ℕ → List (List ℕ)
group pre k low high left = upward (suc high - low) low (starting_with pre k left)

-- widths before place `at` are set, none wider than low; the next is from low to high, at most an equal share of the wires that are left
pub record Group (at low high left : ℕ) (ws : List ℕ) : Type 0 where
  pub at_most : suc at ≤ length ws
  pub few : length ws ≤ search_buses
  pub front : Rising 1 (take at ws)
  pub front_most : largest (take at ws) ≤ low
  pub some : 1 ≤ low
  pub upward : low ≤ high
  pub share : (length ws - at) * high ≤ left
  pub last : suc at ≡ length ws → high ≡ left
  pub narrow : left ≤ row_places

-- these lists were searched: the buffer holds the first of least time of what it held and of these
pub record Sought (t : List ℕ) (n : ℕ) (wss : List (List ℕ)) (best : ℕ) (found : List ℕ) (best' : ℕ) (found' : List ℕ) : Type 0 where
  pub is : kept best' found' ≡ keep_lists (least_on (table_time t) n) (kept best found) wss
  pub count : get_or found' 0 0 < length found'
  pub same_room : length found' ≡ length found

-- all lists of widths can be searched
pub record Listing (t : List ℕ) (W B n best : ℕ) (found : List ℕ) : Type 0 where
  pub table : IsTable t n
  pub wires : 1 ≤ W
  pub narrow : W ≤ row_places
  pub limit : B ≤ search_buses
  pub small : best ≤ best_max
  pub rooms : Rooms search_buses found
