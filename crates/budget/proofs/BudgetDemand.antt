-- What document 02, item 7, demands of the planner with a spending limit, of the answer itself: when it is finished, how many tries it
-- reports, when a plan is known and which, and what a larger budget changes. Assumes nothing.
use Prim.Native.Nat.{ℕ, ◌≤◌, ◌<◌, min}
use mathlib.Core.Path.{◌≡◌, sym, ap, ◌∙◌}
use mathlib.Core.Bool.{true}
use native.Mathlib.Omega.{arith}
use lib.ListN.{length}
use Rattle.std.specs.Prelude.{is_some, IsSome, Some, Result, Ok}
use Rattle.units.specs.declared.Refusal.{Refusal}
use Rattle.soc.specs.Planned.{planned_of}
use Rattle.soc.specs.declared.record.Soc.{Soc}
use Rattle.plan_rules.specs.Plans.{Plan, IsPlan, largest, time_of}
use Rattle.plan_rules.specs.First.{IsFirst}
use Rattle.plan_rules.proofs.Demand.{best_unique}
use Rattle.plan_record.specs.Record.{buses_of, modules_of, busies_of, numbers_of, plan_of, plan_record}
use Rattle.plan_record.specs.Good.{good_plan}
use Rattle.plan_record.specs.declared.record.BusPlan.{BusPlan}
use Rattle.plan_record.specs.Starts.{module_of}
use Rattle.plan_record.specs.Whole.{Whole}
use Rattle.plan_record.proofs.RecordLaws.{record_plan, record_numbers, record_time, record_bus_places, record_module_places}
use Rattle.plan_record.proofs.StartLaws.{good-number}
use Rattle.plan.specs.PlanAnswers.{time_in, wires_in, best_for, record_of, plan_answer}
use Rattle.plan.proofs.PlannerLaws.{answered, best_for-first, plan-good}
use Rattle.budget_rules.specs.Tries.{Best}
use Rattle.budget_rules.specs.Needed.{needed}
use Rattle.budget_rules.specs.NoSlower.{NoSlower}
use Rattle.budget_rules.proofs.BudgetLaws.{stopped-tries, finished_needed, needed_finished, tries-least, more-no_slower, finished_same}
use Rattle.budget_rules.proofs.BestLaws.{finished_best, known-plan}
use Rattle.budget_rules.proofs.KnownLaws.{enough_known, known_enough}
use Rattle.budget.specs.declared.answer.Ended.TheVariants as ended
use Rattle.budget.specs.declared.answer.BudgetAnswer.{BudgetAnswer}
use Rattle.budget.specs.BudgetAnswers.{sought_for, ended_as, record_met, answer_of, budget_answer}
use Rattle.budget.proofs.ToldLaws.{BudgetTold, budget_told, as_finished, as_unfinished, true_else}
use Rattle.budget.proofs.ToldLaws.{known_as, slower_time, slower_known, Holds}

-- there is one answer
pub budget_unique : (s : Soc) (W B c budget : ℕ) (r₁ r₂ : Result BudgetAnswer Refusal) → r₁ ≡ budget_answer s W B c budget
    → r₂ ≡ budget_answer s W B c budget → r₁ ≡ r₂
budget_unique s W B c budget r₁ r₂ p q = p ∙ sym q

-- an answer that is not refused
module _ (s : Soc) (W B c budget : ℕ) {a : BudgetAnswer} (h : budget_answer s W B c budget ≡ Ok a) where
  told : BudgetTold s W B c budget a
  told = budget_told s W B c budget h

  ended_is : a.ended ≡ ended_as (sought_for c s W B budget).stopped
  ended_is = ap (λ a. a.ended) told.is

  -- "It answers finished [..] exactly when the search needs no more tries than the budget"
  pub ended-needed : a.ended ≡ ended.Finished → needed (time_in c s) W B (length (planned_of s)) ≤ budget
  unfolding sought_for
  ended-needed e = finished_needed (time_in c s) W B (length (planned_of s)) budget (as_finished _ (sym ended_is ∙ e))

  pub needed-ended : needed (time_in c s) W B (length (planned_of s)) ≤ budget → a.ended ≡ ended.Finished
  unfolding sought_for
  needed-ended k = ended_is ∙ ap ended_as (needed_finished (time_in c s) W B (length (planned_of s)) budget k)

  -- "else unfinished"
  pub more_unfinished : budget < needed (time_in c s) W B (length (planned_of s)) → a.ended ≡ ended.Unfinished
  unfolding sought_for
  more_unfinished k =
      ended_is
      ∙ ap ended_as
      (true_else (sought_for c s W B budget).stopped
      (λ e. omega (arith, finished_needed (time_in c s) W B (length (planned_of s)) budget e)))

  -- "unfinished, with the budget as its count"
  pub unfinished_tries : a.ended ≡ ended.Unfinished → a.tries ≡ budget
  unfolding sought_for
  unfinished_tries e =
      ap (λ a. a.tries) told.is
      ∙ stopped-tries (time_in c s) W B (length (planned_of s)) budget (as_unfinished _ (sym ended_is ∙ e))

  -- "The reported count equals the tries of this definition": those that the search needs, or the budget where that is less
  pub answer-tries : a.tries ≡ min budget (needed (time_in c s) W B (length (planned_of s)))
  unfolding sought_for
  answer-tries = ap (λ a. a.tries) told.is ∙ tries-least (time_in c s) W B (length (planned_of s)) budget

  pub finished_tries : a.ended ≡ ended.Finished → a.tries ≡ needed (time_in c s) W B (length (planned_of s))
  finished_tries e = omega (arith, answer-tries, ended-needed e)

  plan_is : a.plan ≡ record_met c s W B (sought_for c s W B budget).best
  plan_is = ap (λ a. a.plan) told.is

  -- ---- "with demand 3 in full for these limits"
  module _ (e : a.ended ≡ ended.Finished) where
    best_is : (sought_for c s W B budget).best ≡ Best.known (time_of (time_in c s) (best_for c s W B)) (best_for c s W B)
    unfolding sought_for best_for
    best_is =
        finished_best (time_in c s) W B (length (planned_of s)) budget told.low told.limit (as_finished _ (sym ended_is ∙ e))

    -- the record is that of the first plan of least time
    pub finished_plan : a.plan ≡ Some (record_of c s W B (best_for c s W B))
    unfolding record_met
    finished_plan = plan_is ∙ ap (record_met c s W B) best_is

    pub finished_known : IsSome a.plan
    finished_known = ap is_some finished_plan

    -- "The first planner keeps its own limits": where it answers too, the plan is the same
    pub finished_planner : {r : BusPlan} → plan_answer s W B c ≡ Ok r → a.plan ≡ Some r
    finished_planner k = finished_plan ∙ ap Some (sym (answered s W B c k).is)

    module _ {r : BusPlan} (k : a.plan ≡ Some r) where
      plan-first : plan_of r ≡ best_for c s W B
      plan-first =
          let is : Some r ≡ Some (record_of c s W B (best_for c s W B)) = sym k ∙ finished_plan in
          let e : r ≡ record_of c s W B (best_for c s W B) = cc in
          ap plan_of e
          ∙ record_plan (planned_of s) (time_in c s) (wires_in c s) W B (best_for c s W B)
          (best_for-first c s W B told.low told.limit).is_plan

      -- "The answer is the first plan of least time."
      pub finished_first : IsFirst (time_of (time_in c s)) W B (length (planned_of s)) (plan_of r)
      finished_first = rw plan-first (best_for-first c s W B told.low told.limit)

      -- no other plan is so
      pub finished_only : (p : Plan) → IsFirst (time_of (time_in c s)) W B (length (planned_of s)) p → p ≡ plan_of r
      unfolding best_for
      finished_only p f = best_unique (time_of (time_in c s)) W B (length (planned_of s)) told.low told.limit p f ∙ sym plan-first

  -- ---- "which exists exactly when the budget is at least the number of planned modules"
  pub budget_known : length (planned_of s) ≤ budget → IsSome a.plan
  unfolding sought_for record_met
  budget_known k =
      ap is_some (plan_is
      ∙ ap (record_met c s W B) (enough_known (time_in c s) budget W B (length (planned_of s)) told.low told.limit k).2)

  pub known_budget : IsSome a.plan → length (planned_of s) ≤ budget
  unfolding sought_for
  known_budget k =
      let p = known_as c s W B (sought_for c s W B budget).best (rw plan_is at k) in
      known_enough (time_in c s) budget W B (length (planned_of s)) p.0 p.1 p.2

  -- ---- the plan that is known, finished or not
  module _ {r : BusPlan} (k : a.plan ≡ Some r) where
    holds : Holds s W B c budget r
    unfolding sought_for record_met
    holds =
        let p = known_as c s W B (sought_for c s W B budget).best (ap is_some (sym plan_is ∙ k)) in
        let q = known-plan (time_in c s) W B (length (planned_of s)) budget p.0 p.1 p.2 in
        let is : Some r ≡ Some (record_of c s W B p.1) = sym k ∙ plan_is ∙ ap (record_met c s W B) p.2 in
        record {
          met = p.1;
          is_plan = q.0;
          best = p.2 ∙ ap (λ t. Best.known t p.1) q.1;
          is = cc;
        }

    -- "A plan of the planner is always a good record": it can be written to a file
    pub known-good : good_plan r ≡ true
    known-good =
        rw holds.is
        (plan-good c told.first told.last s W B told.good told.low told.narrow told.limit told.some told.few
        told.most holds.met holds.is_plan)

    plan_met : plan_of r ≡ holds.met
    plan_met = ap plan_of holds.is ∙ record_plan (planned_of s) (time_in c s) (wires_in c s) W B holds.met holds.is_plan

    -- it is a plan of the planned modules
    pub known-plans : IsPlan W B (length (planned_of s)) (plan_of r)
    known-plans = rw plan_met holds.is_plan

    -- "the plan's time is the largest busy figure", and it is the time of the plan that the record holds
    pub known-time : r.time.0 ≡ largest (busies_of (buses_of r))
    known-time = rw holds.is (record_time (planned_of s) (time_in c s) (wires_in c s) W B holds.met)

    met_time : r.time.0 ≡ time_of (time_in c s) holds.met
    unfolding plan_record
    met_time = ap (λ r. r.time.0) holds.is

    pub known-time_of : r.time.0 ≡ time_of (time_in c s) (plan_of r)
    known-time_of = met_time ∙ ap (time_of (time_in c s)) (sym plan_met)

    -- "a bus for every planned module": the modules are the planned ones, ascending
    pub known-modules : numbers_of (modules_of r) ≡ planned_of s
    known-modules = rw holds.is (record_numbers (planned_of s) (time_in c s) (wires_in c s) W B holds.met holds.is_plan)

    whole : Whole r
    whole =
        let p = holds.met in
        rw holds.is (record {
          buses = record_bus_places (planned_of s) (time_in c s) (wires_in c s) W B p holds.is_plan told.few;
          modules = record_module_places (planned_of s) (time_in c s) (wires_in c s) W B p holds.is_plan told.most;
        })

    -- none is module 0
    pub known-number : (i : ℕ) → i < r.module_count → 1 ≤ (module_of r i).number
    known-number = good-number r whole known-good

-- ---- two budgets, the second no smaller, and neither is refused
module _ (s : Soc) (W B c budget larger : ℕ) (le : budget ≤ larger) {a b : BudgetAnswer} (h : budget_answer s W B c budget ≡ Ok a)
    (l : budget_answer s W B c larger ≡ Ok b) where
  no_slower : NoSlower (sought_for c s W B larger).best (sought_for c s W B budget).best
  unfolding sought_for
  no_slower = more-no_slower (time_in c s) W B (length (planned_of s)) budget larger le

  -- "A larger budget never gives a slower plan.": nor none where one was known
  pub larger_known : IsSome a.plan → IsSome b.plan
  larger_known k =
      rw (plan_is s W B c larger l) (slower_known c s W B no_slower (rw (plan_is s W B c budget h) at k))

  pub larger_time : {p q : BusPlan} → a.plan ≡ Some p → b.plan ≡ Some q → q.time.0 ≤ p.time.0
  larger_time k m =
      rw (met_time s W B c larger l m, met_time s W B c budget h k)
      (slower_time no_slower (holds s W B c larger l m).best (holds s W B c budget h k).best)

  -- a finished answer is that of every larger budget
  pub larger_same : a.ended ≡ ended.Finished → budget_answer s W B c larger ≡ budget_answer s W B c budget
  unfolding sought_for
  larger_same e =
      l
      ∙ ap Ok ((told s W B c larger l).is
      ∙ ap (answer_of c s W B)
      (finished_same (time_in c s) W B (length (planned_of s)) budget larger le (as_finished _ (sym (ended_is s W B c budget h) ∙ e)))
      ∙ sym (told s W B c budget h).is)
      ∙ sym h
