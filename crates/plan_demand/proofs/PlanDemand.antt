-- What document 01 demands of the planner's answer ("The plan"), of the answer itself: the plan that its record holds is the first of least
-- time, there is no other, its time is what its own buses come to, and its modules are the planned ones; and when these run (document 02,
-- item 1); none is module 0 (item 6). Assumes nothing.
use native.Mathlib.Omega.{arith}
use Prim.Native.Nat.{ℕ, suc, ◌≤◌, ◌<◌}
use mathlib.Core.Path.{◌≡◌, sym, ap, ◌∙◌}
use mathlib.Core.Bool.{true}
use lib.ListN.{length, get_or}
use Rattle.std.specs.Prelude.{Result, Ok}
use Rattle.units.specs.declared.Refusal.{Refusal}
use Rattle.soc.specs.Planned.{planned_of}
use Rattle.soc.specs.declared.record.Soc.{Soc}
use Rattle.plan_rules.specs.Plans.{Plan, largest, time_of}
use Rattle.plan_rules.specs.First.{IsFirst}
use Rattle.plan_rules.proofs.Demand.{best_unique}
use Rattle.plan_record.specs.Record.{buses_of, modules_of, busies_of, numbers_of, plan_of, cycles_on, start_of, plan_record}
use Rattle.plan_record.specs.declared.record.BusPlan.{BusPlan}
use Rattle.plan_record.specs.Good.{good_plan}
use Rattle.plan_record.specs.Starts.{end_of, RunsAt, module_of, bus_of, IsLast}
use Rattle.plan_record.specs.Whole.{Whole}
use Rattle.plan_record.proofs.RecordLaws.{record_plan, record_numbers, record_time, record_busy, record_bus_places, record_module_places}
use Rattle.plan_record.proofs.StartLaws.{good-number, good_start, good-alone, good-last, good-end}
use Rattle.plan.specs.PlanAnswers.{time_in, wires_in, best_for, plan_answer}
use Rattle.plan.proofs.PlannerLaws.{Answered, answered, best_for-first, planner_answers_good}

-- there is one answer
pub plan_unique : (s : Soc) (W B c : ℕ) (r₁ r₂ : Result BusPlan Refusal) → r₁ ≡ plan_answer s W B c → r₂ ≡ plan_answer s W B c → r₁ ≡ r₂
plan_unique s W B c r₁ r₂ p q = p ∙ sym q

-- an answer that is not refused
module _ (s : Soc) (W B c : ℕ) {r : BusPlan} (h : plan_answer s W B c ≡ Ok r) where
  told : Answered s W B c r
  told = answered s W B c h

  best : IsFirst (time_of (time_in c s)) W B (length (planned_of s)) (best_for c s W B)
  best = best_for-first c s W B told.low told.limit

  holds : plan_of r ≡ best_for c s W B
  holds = ap plan_of told.is ∙ record_plan (planned_of s) (time_in c s) (wires_in c s) W B (best_for c s W B) best.is_plan

  -- "The answer is the first plan of least time.": it is a plan, no plan takes less time, and no plan of its time stands before it
  pub answer-first : IsFirst (time_of (time_in c s)) W B (length (planned_of s)) (plan_of r)
  answer-first = rw holds best

  -- no other plan is so
  pub answer_only : (p : Plan) → IsFirst (time_of (time_in c s)) W B (length (planned_of s)) p → p ≡ plan_of r
  unfolding best_for
  answer_only p f = best_unique (time_of (time_in c s)) W B (length (planned_of s)) told.low told.limit p f ∙ sym holds

  -- "the plan's time is the largest busy figure", and it is the time of the plan that the record holds
  pub answer-time : r.time.0 ≡ largest (busies_of (buses_of r))
  answer-time = rw told.is (record_time (planned_of s) (time_in c s) (wires_in c s) W B (best_for c s W B))

  pub answer-time_of : r.time.0 ≡ time_of (time_in c s) (plan_of r)
  unfolding plan_record
  answer-time_of = ap (λ x. x.time.0) told.is ∙ ap (time_of (time_in c s)) (sym holds)

  -- "A bus is busy for the sum of its modules' times": bus j + 1 for the cycles of the modules that name it
  pub answer-busy : (j : ℕ) → j < r.bus_count
      → get_or (busies_of (buses_of r)) j 0 ≡ cycles_on (suc j) (modules_of r)
  answer-busy j k =
      rw told.is (record_busy (planned_of s) (time_in c s) (wires_in c s) W B (best_for c s W B) best.is_plan j (rw told.is at k))

  -- "a bus for every planned module": the modules are the planned ones, ascending
  pub answer-modules : numbers_of (modules_of r) ≡ planned_of s
  answer-modules = rw told.is (record_numbers (planned_of s) (time_in c s) (wires_in c s) W B (best_for c s W B) best.is_plan)

  -- its record is good, and its arrays have their places
  good : good_plan r ≡ true
  good = planner_answers_good s W B c h

  whole : Whole r
  whole =
      let p = best_for c s W B in
      rw told.is (record {
        buses = record_bus_places (planned_of s) (time_in c s) (wires_in c s) W B p best.is_plan (omega (arith, told.few));
        modules = record_module_places (planned_of s) (time_in c s) (wires_in c s) W B p best.is_plan (omega (arith, told.most));
      })

  -- "the top module's terminals are the SOC's pins and need no access mechanism": it names no module 0
  pub answer-number : (i : ℕ) → i < r.module_count → 1 ≤ (module_of r i).number
  answer-number = good-number r whole good

  -- "a module starts at the sum of the cycles of lower-numbered modules on its bus"
  pub answer-start : (i : ℕ) → i < r.module_count →
      (module_of r i).start.0 ≡ start_of (modules_of r) (module_of r i)
  answer-start = good_start r whole good

  -- so on one bus no two modules run at the same cycle, the last of a bus ends at its busy figure, and every module ends by the plan's time
  pub answer-alone : (i j t : ℕ) →
      i < r.module_count → j < r.module_count → (module_of r i).bus ≡ (module_of r j).bus
      → RunsAt (module_of r i) t → RunsAt (module_of r j) t → i ≡ j
  answer-alone = good-alone r whole good

  pub answer-last : (i : ℕ) →
      i < r.module_count → IsLast r i → end_of (module_of r i) ≡ (bus_of r i).busy.0
  answer-last = good-last r whole good

  pub answer-end : (i : ℕ) → i < r.module_count → end_of (module_of r i) ≤ r.time.0
  answer-end = good-end r whole good
