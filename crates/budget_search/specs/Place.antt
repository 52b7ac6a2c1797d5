-- Placing the modules on buses of given widths within a budget of tries: what the buffers have to be, and what each step leaves in them.
use Rattle.std.specs.Prelude.{ℕ, ◌+◌, ◌*◌, ◌≤◌, ◌<◌, ◌≡◌, List, [], ◌∷◌, ◌++◌, length, get_or, take, set}
use Rattle.plan_rules.specs.Plans.{largest}
use Rattle.plan_search.specs.Search.{row_places, time_bound, AreTimes}
use Rattle.budget_rules.specs.Tries.{Sought, busy_with, tried, placed}
use Rattle.budget_search.specs.declared.steps.Progress.{Progress}
use Rattle.budget_search.specs.Steps.{buses_max, budget_max, best_places, held_in}

-- buses for which a table has places
pub record AreWidths (ws : List ℕ) : Type 0 where
  pub few : length ws ≤ buses_max
  pub wide : (b : ℕ) → b < length ws → (1 ≤ get_or ws b 0) × (get_or ws b 0 ≤ row_places)

-- the buffer of the best plan has its places, and the buses that it holds are no more than there is room for
pub record Rooms (best : List ℕ) : Type 0 where
  pub places : length best ≡ best_places
  pub count : get_or best 0 0 ≤ buses_max

-- module i is to be placed: loads are the busy figures of the buses
pub record Ready (t ws : List ℕ) (budget i top : ℕ) (loads buses best : List ℕ) : Type 0 where
  pub table : AreTimes t (length buses)
  pub widths : AreWidths ws
  pub limit : budget ≤ budget_max
  pub upto : i ≤ length buses
  pub room : length loads ≡ length ws
  pub rooms : Rooms best
  pub loads_most : (b : ℕ) → get_or loads b 0 ≤ i * time_bound
  pub top_most : top ≤ i * time_bound
  pub top_is : top ≡ largest loads

-- module i is tried on bus b, with k modules behind it
abbrev pub attempted : (ℕ → ℕ → ℕ) → List ℕ → ℕ → ℕ → ℕ → List ℕ → List ℕ → ℕ → Sought → Sought
attempted time ws budget k i l bs b =
    tried budget (busy_with time ws i l b) (λ r. placed time ws budget k (i + 1) (set l b (busy_with time ws i l b)) (bs ++ (b + 1) ∷ []) r)

-- the modules from i on were placed, or module i was tried: the busy figures and the bus numbers before i are as they were, and record and
-- buffer hold what is sought
pub record Placed (budget i : ℕ) (loads loads' buses buses' best' : List ℕ) (r : Progress) (sought : Sought) : Type 0 where
  pub loads_same : loads' ≡ loads
  pub buses_same : take i buses' ≡ take i buses
  pub rooms : Rooms best'
  pub is : held_in (length buses) budget r best' ≡ sought
