-- How the planner with a spending limit makes its answer: the limits in their order, and the record of what the search found.
use Rattle.std.specs.Prelude.{ℕ, ◌≡◌, true, cond, ◌&&◌, leb, Option, None, Some, Result, Ok, Err}
use Rattle.units.specs.declared.Fault.{Fault}
use Rattle.units.specs.declared.Fault.TheVariants.{Width, Buses, NonePlanned, Capture, Budget}
use Rattle.soc.specs.declared.planned.Planned.{Planned}
use Rattle.wrapper_fit.specs.Maxima.{width_max, capture_max}
use Rattle.plan_record.specs.declared.record.BusPlan.{BusPlan}
use Rattle.plan.specs.Records.{IsFound, record_from}
use Rattle.plan.specs.declared.tables.Tables.{Tables}
use Rattle.plan_search.specs.Search.{AreTimes}
use Rattle.budget_search.specs.declared.within.Spent.{Spent}
use Rattle.budget.specs.BudgetAnswers.{limit_max, budget_max}

-- whether W wires, limit B, c capture cycles, n planned modules and the budget are within their limits; else the first fault of 7, 8, 16, 9, 18
unfoldable pub limits_kept : ℕ → ℕ → ℕ → ℕ → ℕ → Result Unit Fault
limits_kept W B c n budget =
    cond (leb 1 W && leb W width_max)
    (cond (leb 1 B && leb B limit_max)
    (cond (leb 1 c && leb c capture_max)
    (cond (leb 1 n) (cond (leb 1 budget && leb budget budget_max) (Ok tt) (Err Budget)) (Err NonePlanned))
    (Err Capture))
    (Err Buses))
    (Err Width)

-- the record of what was found, where a plan is known
abbrev pub met_in : Planned → Tables → ℕ → ℕ → Spent → Option BusPlan
met_in p t W B r = cond r.known (Some (record_from p t W B r.found)) None

-- the tables hold times, and what was found keeps the limits of a record
pub record Kept (p : Planned) (t : Tables) (r : Spent) : Type 0 where
  pub times : AreTimes t.cycles p.count
  pub found : r.known ≡ true → IsFound r.found p.count
