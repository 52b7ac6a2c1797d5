-- The whole search with a spending limit over a table of times: what it asks, and its answer (document 02, item 7).
use Rattle.std.specs.Prelude.{ℕ, ◌≤◌, Bool, true, false, cond, List, take, replicate}
use Rattle.plan_rules.specs.Listed.{plan}
use Rattle.budget_rules.specs.Tries.{Best, Sought}
use Rattle.budget_search.specs.Steps.{buses_max, modules_max, budget_max}
use Rattle.plan_search.specs.Search.{row_places, AreTimes, found_as}
use Rattle.plan_search.specs.declared.widths.Found.{Found}
use Rattle.budget_search.specs.declared.within.Spent.{Spent}

-- a table of n modules, W wires, a limit of B buses and a budget that the search has room for
pub record Limits (t : List ℕ) (W B n budget : ℕ) : Type 0 where
  pub table : AreTimes t n
  pub modules : 1 ≤ n
  pub narrow : W ≤ row_places
  pub limit : B ≤ buses_max
  pub spending : budget ≤ budget_max

-- nothing was found
abbrev pub none_found : Found
none_found = record { count = 0; widths = replicate buses_max 0; buses = replicate modules_max 0; time = record { 0 = 0 } }

-- the answer to a best plan, to whether the search was stopped, and to its tries
unfoldable pub spent_by : Best → Bool → ℕ → Spent
spent_by Best.unknown stopped tries =
    record { known = false; stopped = stopped; tries = tries; found = none_found }
spent_by (Best.known t p) stopped tries =
    record { known = true; stopped = stopped; tries = tries; found = found_as t p }

-- the answer to what was sought
abbrev pub spent_of : Sought → Spent
spent_of s = spent_by s.best s.stopped s.tries

-- what an answer for n modules holds: a law (`spent_back`) says that it is what was sought
abbrev pub sought_in : ℕ → Spent → Sought
sought_in n r =
    record {
      best = cond r.known (Best.known r.found.time.0 (plan (take r.found.count r.found.widths) (take n r.found.buses))) Best.unknown;
      stopped = r.stopped;
      tries = r.tries;
    }
