-- What goes along through the search with a spending limit, as the code has it: a record and a buffer, and what they hold of the
-- definition's `Sought` (document 02, item 7).
use Rattle.std.specs.Prelude.{ℕ, ◌+◌, min, Bool, cond, List, get_or, take, drop, leb, ltb}
use Rattle.plan_rules.specs.Plans.{Plan}
use Rattle.plan_rules.specs.Listed.{plan}
use Rattle.plan_search.specs.Search.{found_buses, found_modules}
use Rattle.budget_rules.specs.Tries.{Best, Sought}
use Rattle.budget_search.specs.declared.steps.Progress.{Progress}

-- the most buses, modules and tries that the search has room for
abbrev pub buses_max : ℕ
buses_max = found_buses

abbrev pub modules_max : ℕ
modules_max = found_modules

abbrev pub budget_max : ℕ
budget_max = 1099511627776

-- the best time while no plan is known: no plan takes so long
abbrev pub no_time : ℕ
no_time = 9223372036854775808

-- the steps on the record
abbrev pub reaches : Progress → ℕ → Bool
reaches s t = leb s.best t

abbrev pub counts : Progress → Progress
counts s = record { best = s.best; tries = s.tries + 1 }

abbrev pub halts : ℕ → Progress → Progress
halts budget s = record { best = s.best; tries = budget + 1 }

abbrev pub stops : ℕ → Progress → Bool
stops budget s = ltb budget s.tries

abbrev pub keeps : Progress → ℕ → Progress
keeps s t = cond (reaches s t) s (record { best = t; tries = s.tries })

-- the places of the buffer before the bus numbers: the count of the buses, and their widths
abbrev pub buses_at : ℕ
buses_at = 9

-- all its places
abbrev pub best_places : ℕ
best_places = 48

-- the plan of n modules that the buffer holds
abbrev pub plan_in : ℕ → List ℕ → Plan
plan_in n best = plan (take (get_or best 0 0) (drop 1 best)) (take n (drop buses_at best))

-- what record and buffer hold of n modules and a budget
abbrev pub held_in : ℕ → ℕ → Progress → List ℕ → Sought
held_in n budget s best =
    record {
      best = cond (ltb s.best no_time) (Best.known s.best (plan_in n best)) Best.unknown;
      stopped = stops budget s;
      tries = min budget s.tries;
    }
