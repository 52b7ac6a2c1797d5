-- Laws of the entry: the limits are refused in their order, and what is made of the search over the tables is the answer of the search over the
-- times of the planned modules. Assumes nothing.
use Prim.Native.Nat.{ℕ, ◌≤◌}
use mathlib.Core.Path.{◌≡◌, refl, sym, ap, ◌∙◌}
use mathlib.Core.Bool.{Bool, true, false, cond, ◌&&◌, false≢true}
use native.Mathlib.Omega.{arith}
use lib.ListN.{length}
use lib.Dec.{leb}
use Rattle.std.specs.Prelude.{Some, Result, Ok, Err}
use Rattle.units.specs.Refusals.{number_of, refused}
use Rattle.units.specs.declared.Fault.{Fault}
use Rattle.units.specs.declared.Fault.TheVariants.{Width, Buses, NonePlanned, BadSoc, Capture, Budget}
use Rattle.units.specs.declared.Refusal.{Refusal}
use Rattle.units.proofs.TestLaws.{clash}
use Rattle.soc.specs.Rules.{good_soc}
use Rattle.soc.specs.Planned.{planned_of, planned_is}
use Rattle.soc.specs.declared.planned.Planned.{Planned}
use Rattle.soc.specs.declared.record.Soc.{Soc}
use Rattle.wrapper_fit.specs.Maxima.{width_max, capture_max}
use Rattle.plan_rules.specs.Plans.{Plan, IsPlan, time_of}
use Rattle.plan_search.specs.Search.{table_time, AreTimes, found_as, found_of}
use Rattle.plan.specs.PlanAnswers.{time_in}
use Rattle.plan.specs.Records.{IsFound}
use Rattle.plan.specs.Tables.{TablesAre}
use Rattle.plan.specs.declared.tables.Tables.{Tables}
use Rattle.plan.proofs.TableLaws.{time-same}
use Rattle.plan.proofs.EntryLaws.{found-fits, record_is}
use Rattle.budget_rules.specs.Tries.{Best, Sought, searched}
use Rattle.budget_rules.proofs.BestLaws.{known-plan}
use Rattle.budget_rules.proofs.SameLaws.{searched-same}
use Rattle.budget_search.specs.Within.{spent_by, spent_of}
use Rattle.budget_search.specs.declared.within.Spent.{Spent}
use Rattle.budget.specs.declared.answer.BudgetAnswer.{BudgetAnswer}
use Rattle.budget.specs.BudgetAnswers.{limit_max, budget_max, sought_for, record_met, answer_of, budget_answer}
use Rattle.budget.specs.Met.{limits_kept, met_in, Kept}

-- ---- the limits

-- W wires, limit B, c capture cycles, n planned modules and a budget are within their limits
pub record Within (W B c n budget : ℕ) : Type 0 where
  pub wires : (leb 1 W && leb W width_max) ≡ true
  pub buses : (leb 1 B && leb B limit_max) ≡ true
  pub captures : (leb 1 c && leb c capture_max) ≡ true
  pub some : leb 1 n ≡ true
  pub spends : (leb 1 budget && leb budget budget_max) ≡ true

-- what is said, by what each test says
abbrev said_by : Bool → Bool → Bool → Bool → Bool → Result Unit Fault
said_by w b c s t =
    cond w (cond b (cond c (cond s (cond t (Ok tt) (Err Budget)) (Err NonePlanned)) (Err Capture)) (Err Buses)) (Err Width)

module _ (W B c n budget : ℕ) where
  pub none-refused : limits_kept W B c n budget ≡ Ok tt → Within W B c n budget
  unfolding limits_kept
  none-refused h =
      go (leb 1 W && leb W width_max) (leb 1 B && leb B limit_max) (leb 1 c && leb c capture_max) (leb 1 n) (leb 1 budget && leb budget budget_max)
      refl refl refl refl refl h
    where
      go : (w b x s t : Bool) → (leb 1 W && leb W width_max) ≡ w → (leb 1 B && leb B limit_max) ≡ b → (leb 1 c && leb c capture_max) ≡ x
          → leb 1 n ≡ s → (leb 1 budget && leb budget budget_max) ≡ t → said_by w b x s t ≡ Ok tt → Within W B c n budget
      go true true true true true d e g i j h = record { wires = d; buses = e; captures = g; some = i; spends = j }
      go true true true true false d e g i j h = clash cc
      go true true true false t d e g i j h = clash cc
      go true true false s t d e g i j h = clash cc
      go true false x s t d e g i j h = clash cc
      go false b x s t d e g i j h = clash cc

pub one-refused : (s : Soc) (W B c budget : ℕ) {f : Fault} → good_soc s ≡ true → limits_kept W B c (length (planned_of s)) budget ≡ Err f
    → Err (refused f 0) ≡ budget_answer s W B c budget
unfolding limits_kept budget_answer
one-refused s W B c budget {f} good h =
    rw good
    (go (leb 1 W && leb W width_max) (leb 1 B && leb B limit_max) (leb 1 c && leb c capture_max) (leb 1 (length (planned_of s)))
    (leb 1 budget && leb budget budget_max) h _)
  where
    no : Fault → Result BudgetAnswer Refusal
    no f = Err (refused f 0)

    go : (w b x s t : Bool) → said_by w b x s t ≡ Err f → (found : Result BudgetAnswer Refusal)
        → no f ≡ cond w (cond b (cond x (cond s (cond t found (no Budget)) (no NonePlanned)) (no Capture)) (no Buses)) (no Width)
    go true true true true true h found = clash cc
    go true true true true false h found = cc
    go true true true false t h found = cc
    go true true false s t h found = cc
    go true false x s t h found = cc
    go false b x s t h found = cc

-- ---- each refusal is one of document 02, item 7, and has no line
pub answer_told : (s : Soc) (W B c budget : ℕ) {r : Refusal} → budget_answer s W B c budget ≡ Err r → (number_of r.fault ≤ 18) × (r.line ≡ 0)
unfolding budget_answer
answer_told s W B c budget {r} e =
    go (good_soc s) (leb 1 W && leb W width_max) (leb 1 B && leb B limit_max) (leb 1 c && leb c capture_max) (leb 1 (length (planned_of s)))
    (leb 1 budget && leb budget budget_max) e
  where
    no : Fault → Result BudgetAnswer Refusal
    no f = Err (refused f 0)

    told : (f : Fault) → number_of f ≤ 18 → no f ≡ Err r → (number_of r.fault ≤ 18) × (r.line ≡ 0)
    told f h e = let is : r ≡ refused f 0 = cc in rw is (h, refl)

    go : (v w x u y z : Bool) →
        let planned = cond y (cond z (Ok (answer_of c s W B (sought_for c s W B budget))) (no Budget)) (no NonePlanned) in
        cond v (cond w (cond x (cond u planned (no Capture)) (no Buses)) (no Width)) (no BadSoc) ≡ Err r → (number_of r.fault ≤ 18) × (r.line ≡ 0)
    go true true true true true true e = clash cc
    go true true true true true false e = told Budget (omega arith) e
    go true true true true false z e = told NonePlanned (omega arith) e
    go true true true false y z e = told Capture (omega arith) e
    go true true false u y z e = told Buses (omega arith) e
    go true false x u y z e = told Width (omega arith) e
    go false w x u y z e = told BadSoc (omega arith) e

-- ---- what was found over the tables
module _ (c : ℕ) (s : Soc) (W B budget : ℕ) {t : Tables} {p : Planned} {r : Spent}
    (a : TablesAre c s W (length (planned_of s)) t) (numbers : p ≡ planned_is (planned_of s)) (narrow : W ≤ width_max) (few : B ≤ limit_max)
    (is : r ≡ spent_of (searched (table_time t.cycles) W B p.count budget)) where
  abbrev sought : Sought
  sought = sought_for c s W B budget

  count-is : p.count ≡ length (planned_of s)
  count-is = ap (λ x. x.count) numbers

  spent_is : r ≡ spent_of sought
  unfolding sought_for
  spent_is = is ∙ ap spent_of (rw count-is (searched-same a.cycles_are budget B))

  -- a plan that is known has its time over the tables too
  module _ (u : ℕ) (q : Plan) (e : sought.best ≡ Best.known u q) where
    plan_is : IsPlan W B (length (planned_of s)) q × (u ≡ time_of (time_in c s) q)
    unfolding sought_for
    plan_is = known-plan (time_in c s) W B (length (planned_of s)) budget u q e

    found_as_lem : found_as u q ≡ found_of (table_time t.cycles) q
    found_as_lem = ap (λ v. found_as v q) (plan_is.1 ∙ sym (time-same a.cycles_are plan_is.0))

  pub found-kept : AreTimes t.cycles p.count → Kept p t r
  unfolding spent_by
  found-kept times = record { times = times; found = rw spent_is (go sought.best refl) }
    where
      go : (b : Best) → sought.best ≡ b → let x = spent_by b sought.stopped sought.tries in x.known ≡ true → IsFound x.found p.count
      go Best.unknown e h = absurd (false≢true h)
      go (Best.known u q) e h = found-fits a numbers (plan_is u q e).0 (found_as_lem u q e) narrow few

  pub met_is : met_in p t W B r ≡ record_met c s W B sought.best
  unfolding spent_by record_met
  met_is = ap (met_in p t W B) spent_is ∙ go sought.best refl
    where
      go : (b : Best) → sought.best ≡ b → met_in p t W B (spent_by b sought.stopped sought.tries) ≡ record_met c s W B b
      go Best.unknown e = refl
      go (Best.known u q) e = ap Some (record_is a numbers (plan_is u q e).0 (found_as_lem u q e) narrow few)

  pub stopped-is : r.stopped ≡ sought.stopped
  unfolding spent_by
  stopped-is = ap (λ x. x.stopped) spent_is ∙ go sought.best
    where
      go : (b : Best) → (spent_by b sought.stopped sought.tries).stopped ≡ sought.stopped
      go Best.unknown = refl
      go (Best.known u q) = refl

  pub tries-is : r.tries ≡ sought.tries
  unfolding spent_by
  tries-is = ap (λ x. x.tries) spent_is ∙ go sought.best
    where
      go : (b : Best) → (spent_by b sought.stopped sought.tries).tries ≡ sought.tries
      go Best.unknown = refl
      go (Best.known u q) = refl
