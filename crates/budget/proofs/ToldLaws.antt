-- An answer within a budget that is not refused (document 02, item 7): the limits that it keeps, and what its parts say of the search.
-- Assumes nothing.
use Prim.Native.Nat.{ℕ, ◌≤◌}
use mathlib.Core.Path.{◌≡◌, refl, ap}
use mathlib.Core.Bool.{Bool, true, false, cond, ◌&&◌, false≢true}
use native.Mathlib.Omega.{arith}
use borrow.Author.Tests.{leb-true}
use lib.ListN.{length}
use lib.Dec.{leb}
use Rattle.std.specs.Prelude.{IsSome, Result, Ok, Err}
use Rattle.units.specs.Refusals.{refused}
use Rattle.units.specs.declared.Fault.{Fault}
use Rattle.units.specs.declared.Fault.TheVariants.{Width, Buses, NonePlanned, BadSoc, Capture, Budget}
use Rattle.units.specs.declared.Refusal.{Refusal}
use Rattle.units.proofs.TestLaws.{and_both, clash}
use Rattle.soc.specs.Rules.{good_soc}
use Rattle.soc.specs.Planned.{planned_of}
use Rattle.soc.specs.declared.record.Soc.{Soc}
use Rattle.soc.proofs.PinsLaws.{planned-most}
use Rattle.wrapper_fit.specs.Maxima.{width_max, capture_max}
use Rattle.plan_rules.specs.Plans.{Plan, IsPlan, time_of}
use Rattle.plan_record.specs.Record.{module_places}
use Rattle.plan_record.specs.declared.record.BusPlan.{BusPlan}
use Rattle.plan.specs.PlanAnswers.{time_in, record_of}
use Rattle.budget_rules.specs.Tries.{Best}
use Rattle.budget_rules.specs.NoSlower.{NoSlower}
use Rattle.budget_rules.proofs.TryLaws.{unknown_not}
use Rattle.budget.specs.declared.answer.Ended.TheVariants as ended
use Rattle.budget.specs.declared.answer.BudgetAnswer.{BudgetAnswer}
use Rattle.budget.specs.BudgetAnswers.{limit_max, budget_max, sought_for, ended_as, record_met, answer_of, budget_answer}

-- what is answered where nothing is refused: the limits hold, and the answer is that of the search
pub record BudgetTold (s : Soc) (W B c budget : ℕ) (a : BudgetAnswer) : Type 0 where
  pub good : good_soc s ≡ true
  pub low : 1 ≤ W
  pub narrow : W ≤ width_max
  pub limit : 1 ≤ B
  pub few : B ≤ limit_max
  pub first : 1 ≤ c
  pub last : c ≤ capture_max
  pub some : 1 ≤ length (planned_of s)
  pub most : length (planned_of s) ≤ module_places
  pub spends : 1 ≤ budget
  pub bounded : budget ≤ budget_max
  pub is : a ≡ answer_of c s W B (sought_for c s W B budget)

-- what is said, by what each test says
abbrev said_by : BudgetAnswer → Bool → Bool → Bool → Bool → Bool → Bool → Result BudgetAnswer Refusal
said_by found v w x u y z =
    let no : Fault → Result BudgetAnswer Refusal = λ f. Err (refused f 0) in
    cond v (cond w (cond x (cond u (cond y (cond z (Ok found) (no Budget)) (no NonePlanned)) (no Capture)) (no Buses)) (no Width)) (no BadSoc)

pub budget_told : (s : Soc) (W B c budget : ℕ) {a : BudgetAnswer} → budget_answer s W B c budget ≡ Ok a → BudgetTold s W B c budget a
unfolding budget_answer
budget_told s W B c budget {a} e =
    go (good_soc s) (leb 1 W && leb W width_max) (leb 1 B && leb B limit_max) (leb 1 c && leb c capture_max) (leb 1 (length (planned_of s)))
    (leb 1 budget && leb budget budget_max) refl refl refl refl refl refl e
  where
    go : (v w x u y z : Bool) → good_soc s ≡ v → (leb 1 W && leb W width_max) ≡ w → (leb 1 B && leb B limit_max) ≡ x
        → (leb 1 c && leb c capture_max) ≡ u → leb 1 (length (planned_of s)) ≡ y → (leb 1 budget && leb budget budget_max) ≡ z
        → said_by (answer_of c s W B (sought_for c s W B budget)) v w x u y z ≡ Ok a → BudgetTold s W B c budget a
    go true true true true true true g b l k d e h =
        let w = and_both (leb 1 W) (leb W width_max) b in
        let l = and_both (leb 1 B) (leb B limit_max) l in
        let k = and_both (leb 1 c) (leb c capture_max) k in
        let e = and_both (leb 1 budget) (leb budget budget_max) e in
        record {
          good = g;
          low = leb-true 1 W w.0;
          narrow = leb-true W width_max w.1;
          limit = leb-true 1 B l.0;
          few = leb-true B limit_max l.1;
          first = leb-true 1 c k.0;
          last = leb-true c capture_max k.1;
          some = leb-true 1 _ d;
          most = planned-most s g;
          spends = leb-true 1 budget e.0;
          bounded = leb-true budget budget_max e.1;
          is = cc;
        }
    go true true true true true false g b l k d e h = clash cc
    go true true true true false z g b l k d e h = clash cc
    go true true true false y z g b l k d e h = clash cc
    go true true false u y z g b l k d e h = clash cc
    go true false x u y z g b l k d e h = clash cc
    go false w x u y z g b l k d e h = clash cc

-- ---- finished, or not
pub as_finished : (t : Bool) → ended_as t ≡ ended.Finished → t ≡ false
as_finished true e = clash cc
as_finished false e = refl

pub as_unfinished : (t : Bool) → ended_as t ≡ ended.Unfinished → t ≡ true
as_unfinished true e = refl
as_unfinished false e = clash cc

pub true_else : (t : Bool) → (t ≡ false → ⊥) → t ≡ true
true_else true h = refl
true_else false h = absurd (h refl)

-- ---- a plan is known
module _ (c : ℕ) (s : Soc) (W B : ℕ) where
  pub known_as : (b : Best) → IsSome (record_met c s W B b) → (t : ℕ) × (p : Plan) × (b ≡ Best.known t p)
  unfolding record_met
  known_as Best.unknown e = absurd (false≢true e)
  known_as (Best.known t p) e = (t, p, refl)

  pub slower_known : {a b : Best} → NoSlower a b → IsSome (record_met c s W B b) → IsSome (record_met c s W B a)
  unfolding record_met
  slower_known NoSlower.to_unknown e = absurd (false≢true e)
  slower_known (NoSlower.times h) e = refl

pub slower_time : {a b : Best} {t u : ℕ} {p q : Plan} → NoSlower a b → a ≡ Best.known t p → b ≡ Best.known u q → t ≤ u
slower_time NoSlower.to_unknown e f = absurd (unknown_not f)
slower_time (NoSlower.times h) e f = omega (arith, h, ap time_of_best e, ap time_of_best f)
  where
    time_of_best : Best → ℕ
    time_of_best Best.unknown = 0
    time_of_best (Best.known t p) = t

-- the plan that is known, and that this is its record
pub record Holds (s : Soc) (W B c budget : ℕ) (r : BusPlan) : Type 0 where
  pub met : Plan
  pub is_plan : IsPlan W B (length (planned_of s)) met
  pub best : (sought_for c s W B budget).best ≡ Best.known (time_of (time_in c s) met) met
  pub is : r ≡ record_of c s W B met
