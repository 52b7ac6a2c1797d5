-- What the planner with a spending limit answers (document 02, item 7): "Refusals, in order: 14, 7, 8 with the new B, 16, 9, then 18 for a
-- budget of 0 or over 1,099,511,627,776; 10 is not given here."
use Rattle.std.specs.Prelude.{ℕ, Bool, cond, ◌&&◌, length, leb, Option, None, Some, Result, Ok, Err}
use Rattle.units.specs.Refusals.{refused}
use Rattle.units.specs.declared.Fault.TheVariants.{Width, Buses, NonePlanned, BadSoc, Capture, Budget}
use Rattle.units.specs.declared.Refusal.{Refusal}
use Rattle.soc.specs.Rules.{good_soc}
use Rattle.soc.specs.Planned.{planned_of}
use Rattle.soc.specs.declared.record.Soc.{Soc}
use Rattle.wrapper_fit.specs.Maxima.{width_max, capture_max}
use Rattle.plan_record.specs.declared.record.BusPlan.{BusPlan}
use Rattle.plan.specs.PlanAnswers.{time_in, record_of}
use Rattle.budget_rules.specs.Tries.{Best, Sought, searched}
use Rattle.budget.specs.declared.answer.Ended.{Ended}
use Rattle.budget.specs.declared.answer.Ended.TheVariants as ended
use Rattle.budget.specs.declared.answer.BudgetAnswer.{BudgetAnswer}

-- "B from 1 to 8"
abbrev pub limit_max : ℕ
limit_max = 8

-- "18 for a budget of 0 or over 1,099,511,627,776"
abbrev pub budget_max : ℕ
budget_max = 1099511627776

-- the search over the planned modules with c capture cycles
unfoldable pub sought_for : ℕ → Soc → ℕ → ℕ → ℕ → Sought
sought_for c s W B budget = searched (time_in c s) W B (length (planned_of s)) budget

-- "It answers finished .. exactly when the search needs no more tries than the budget; else unfinished": where it was stopped, a try was due
-- with the budget spent
abbrev pub ended_as : Bool → Ended
ended_as stopped = cond stopped ended.Unfinished ended.Finished

-- its record, where a plan is known
unfoldable pub record_met : ℕ → Soc → ℕ → ℕ → Best → Option BusPlan
record_met c s W B Best.unknown = None
record_met c s W B (Best.known t p) = Some (record_of c s W B p)

-- "The reported count equals the tries of this definition", and the plan is "the best plan met"
abbrev pub answer_of : ℕ → Soc → ℕ → ℕ → Sought → BudgetAnswer
answer_of c s W B r = record { ended = ended_as r.stopped; tries = r.tries; plan = record_met c s W B r.best }

unfoldable pub budget_answer : Soc → ℕ → ℕ → ℕ → ℕ → Result BudgetAnswer Refusal
budget_answer s W B c budget =
    cond (good_soc s)
    (cond (leb 1 W && leb W width_max)
    (cond (leb 1 B && leb B limit_max)
    (cond (leb 1 c && leb c capture_max)
    (cond (leb 1 (length (planned_of s)))
    (cond (leb 1 budget && leb budget budget_max) (Ok (answer_of c s W B (sought_for c s W B budget))) (Err (refused Budget 0)))
    (Err (refused NonePlanned 0)))
    (Err (refused Capture 0)))
    (Err (refused Buses 0)))
    (Err (refused Width 0)))
    (Err (refused BadSoc 0))
