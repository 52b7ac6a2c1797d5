-- The least time on buses of given widths: what its search asks and leaves. The modules may stand in any order.
use Rattle.std.specs.Prelude.{ℕ, ◌-◌, ◌*◌, ◌≤◌, ◌<◌, ◌≡◌, List, length, get_or}
use Rattle.plan_rules.specs.Plans.{sum, largest}
use Rattle.plan_rules.specs.Bounds.{total}
use Rattle.plan_search.specs.Search.{table_time, time_bound, IsTable, AreWidths}

-- for each module and behind the last one, the times of the modules from there on at width w
abbrev pub RestIs : List ℕ → ℕ → List ℕ → Type 0
RestIs t w rest = (k : ℕ) → k < length rest → get_or rest k 0 ≡ total (length rest - 1 - k) k (λ i. table_time t i w)

-- the width of the last bus, the widest
abbrev pub last_of : List ℕ → ℕ
last_of ws = get_or ws (length ws - 1) 0

-- modules and buses of the widths ws; the modules from each on take at least what rest holds
pub record Board (t ws rest : List ℕ) : Type 0 where
  pub table : IsTable t (length rest - 1)
  pub some : 1 ≤ length rest
  pub widths : AreWidths ws
  pub rest_is : RestIs t (last_of ws) rest

-- the modules before i have their buses: the largest load, and the sum of the loads
pub record Loads (ws : List ℕ) (i top load : ℕ) (loads : List ℕ) : Type 0 where
  pub long : length loads ≡ length ws
  pub top_is : top ≡ largest loads
  pub load_is : load ≡ sum loads
  pub load_most : load ≤ i * time_bound

-- r is the least time, or is already enough and no less than the least
pub record Reaches (least enough r : ℕ) : Type 0 where
  pub lower : least ≤ r
  pub exact : enough < r → r ≡ least
