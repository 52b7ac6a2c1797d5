-- "A plan of the planner is always a good record" (document 01, "The plan file"): the numbers of planned modules ascend, and their times and wires keep
-- the limits of a record. Assumes nothing.
use Prim.Native.Nat.{ℕ, zero, suc, ◌+◌, ◌-◌, ◌≤◌, ◌<◌}
use mathlib.Core.Path.{◌≡◌, refl}
use mathlib.Core.Bool.{Bool, true, false, cond, ◌&&◌}
use mathlib.Core.List.{List, [], ◌∷◌}
use native.Mathlib.Omega.{arith}
use borrow.Author.Tests.{leb-true, le-leb}
use lib.ListN.{length, get_or, drop, length-take, length-drop}
use lib.Seq.{get_or-take}
use lib.Dec.{leb}
use Rattle.std.specs.Prelude.{Result, Ok, Err}
use Rattle.units.specs.Refusals.{number_of, refused}
use Rattle.units.specs.declared.Fault.{Fault}
use Rattle.units.specs.declared.Fault.TheVariants.{Width, Buses, NonePlanned, ManyPlanned, BadSoc, Capture}
use Rattle.units.specs.declared.Refusal.{Refusal}
use Rattle.units.proofs.TestLaws.{clash, and_both}
use Rattle.soc.specs.Limits.{modules_max}
use Rattle.soc.specs.Record.{no_module, modules_of}
use Rattle.soc.specs.Rules.{good_soc}
use Rattle.soc.specs.Planned.{is_planned, planned_from, planned_of}
use Rattle.soc.proofs.GoodSocLaws.{soc-figures}
use Rattle.soc.proofs.PinsLaws.{planned-from-one}
use Rattle.soc.specs.declared.record.Module.{Module}
use Rattle.soc.specs.declared.record.Soc.{Soc}
use Rattle.wrapper_fit.specs.Maxima.{module_time_max, width_max, capture_max}
use Rattle.wrapper_times.proofs.BestLaws.{time-wires}
use Rattle.wrapper_times.proofs.PromisedTimes.{time-most, time-some}
use Rattle.plan_record.specs.Record.{bus_places, module_places}
use Rattle.plan_record.specs.declared.record.BusPlan.{BusPlan}
use Rattle.plan_record.specs.Good.{ascending_from, good_plan}
use Rattle.plan_record.proofs.RecordLaws.{Recordable, record_good}
use Rattle.plan.specs.PlanAnswers.{limit_max, planned_max, planned_module, time_in, wires_in, best_for, record_of, plan_answer}
use Rattle.plan.proofs.TableLaws.{planned-number}
use Rattle.plan_rules.specs.Plans.{Plan, IsPlan, time_of}
use Rattle.plan_rules.specs.First.{IsFirst}
use Rattle.plan_rules.proofs.Demand.{best-first}

-- the planned modules from number m on: their numbers are at least m, and each is planned
record PlannedAt (m : ℕ) (ds : List Module) (x : ℕ) : Type 0 where
  low : m ≤ x
  planned : is_planned (get_or ds (x - m) no_module) ≡ true

planned_later : (m x : ℕ) (d : Module) (ds : List Module) → PlannedAt (suc m) ds x → PlannedAt m (d ∷ ds) x
planned_later m x d ds p =
    let l : suc m ≤ x = p.low in
    let e : x - m ≡ suc (x - suc m) = omega arith in
    record { low = omega arith; planned = rw e p.planned }

planned-at : (m : ℕ) (ds : List Module) (i : ℕ) → i < length (planned_from m ds) → PlannedAt m ds (get_or (planned_from m ds) i 0)
unfolding planned_from
planned-at m [] i h = absurd (omega arith)
planned-at m (d ∷ ds) i h = go (is_planned d) refl i h (planned-at (suc m) ds)
  where
    go : (b : Bool) → is_planned d ≡ b → (i : ℕ) → i < length (cond b (m ∷ planned_from (suc m) ds) (planned_from (suc m) ds))
        → ((j : ℕ) → j < length (planned_from (suc m) ds) → PlannedAt (suc m) ds (get_or (planned_from (suc m) ds) j 0))
        → PlannedAt m (d ∷ ds) (get_or (cond b (m ∷ planned_from (suc m) ds) (planned_from (suc m) ds)) i 0)
    go true e zero h r = let z : m - m ≡ 0 = omega arith in record { low = omega arith; planned = rw z e }
    go true e (suc i) h r = planned_later m (get_or (planned_from (suc m) ds) i 0) d ds (r i (omega arith))
    go false e i h r = planned_later m (get_or (planned_from (suc m) ds) i 0) d ds (r i h)

-- "Planned modules are those with at least one test with TamUse 1."
pub planned-planned : (s : Soc) (i : ℕ) → i < length (planned_of s) → is_planned (planned_module s i) ≡ true
planned-planned s i h =
    let x = get_or (planned_of s) i 0 in
    let z : x - 0 ≡ x = omega arith in
    rw (get_or-take s.module_count s.modules x no_module (planned-number s i h).0) at (rw z at (planned-at 0 (modules_of s) i h).planned)

-- "cycles 1 to the module maximum"
pub time-within : (c : ℕ) → 1 ≤ c → c ≤ capture_max → (s : Soc) → good_soc s ≡ true → (i : ℕ) → i < length (planned_of s) → (w : ℕ) → 1 ≤ w
    → (1 ≤ time_in c s i w) × (time_in c s i w ≤ module_time_max)
unfolding time_in
time-within c first last s good i h w k =
    let x = get_or (planned_of s) i 0 in
    let n = (planned-number s i h).0 in
    (time-some c first last s x good n w k (planned-planned s i h), time-most c first last s x good n w k)

-- "wires 1 to the bus's width"
pub wires-within : (c : ℕ) (s : Soc) (i w : ℕ) → 1 ≤ w → (1 ≤ wires_in c s i w) × (wires_in c s i w ≤ w)
unfolding wires_in
wires-within c s i w k = time-wires c (planned_module s i) w k

-- numbers of planned modules ascend
ascending_planned : (low m : ℕ) (ds : List Module) → low ≤ m → m + length ds ≤ modules_max → ascending_from low (planned_from m ds) ≡ true
unfolding ascending_from planned_from
ascending_planned low m [] h k = refl
ascending_planned low m (d ∷ ds) h k =
    go (is_planned d) (ascending_planned (suc m) (suc m) ds (omega arith) (omega arith)) (ascending_planned low (suc m) ds (omega arith) (omega arith))
  where
    go : (b : Bool) → ascending_from (suc m) (planned_from (suc m) ds) ≡ true → ascending_from low (planned_from (suc m) ds) ≡ true
        → ascending_from low (cond b (m ∷ planned_from (suc m) ds) (planned_from (suc m) ds)) ≡ true
    go true f g = rw (le-leb low m h, le-leb m (modules_max - 1) (omega arith)) f
    go false f g = g

-- and the first is at least 1
pub planned_ascends : (s : Soc) → good_soc s ≡ true → ascending_from 1 (planned_of s) ≡ true
planned_ascends s good =
    rw (planned-from-one s good)
    (ascending_planned 1 1 (drop 1 (modules_of s)) (omega arith)
    (omega (arith, (soc-figures s good).module_count, length-drop 1 (modules_of s), length-take s.module_count s.modules)))

-- "The answer is the first plan of least time."
pub best_for-first : (c : ℕ) (s : Soc) (W B : ℕ) → 1 ≤ W → 1 ≤ B
    → IsFirst (time_of (time_in c s)) W B (length (planned_of s)) (best_for c s W B)
unfolding best_for
best_for-first c s W B some limit = best-first (time_of (time_in c s)) W B (length (planned_of s)) some limit

-- the planned modules of a good SOC make a record
recordable : (c : ℕ) → 1 ≤ c → c ≤ capture_max → (s : Soc) → good_soc s ≡ true → 1 ≤ length (planned_of s)
    → length (planned_of s) ≤ module_places → Recordable (planned_of s) (time_in c s) (wires_in c s)
recordable c first last s good some most =
    record {
      some = some;
      few = most;
      ascending = planned_ascends s good;
      times = λ i w h k. time-within c first last s good i h w k;
      wires = λ i w k. wires-within c s i w k;
    }

module _ (c : ℕ) (first : 1 ≤ c) (last : c ≤ capture_max) (s : Soc) (W B : ℕ) (good : good_soc s ≡ true) (low : 1 ≤ W) (narrow : W ≤ width_max)
    (limit : 1 ≤ B) (some : 1 ≤ length (planned_of s)) where
  -- the record of any plan of the planned modules is good, whichever planner gives it
  pub plan-good : B ≤ bus_places → length (planned_of s) ≤ module_places → (p : Plan) → IsPlan W B (length (planned_of s)) p
      → good_plan (record_of c s W B p) ≡ true
  plan-good few most p is =
      record_good (planned_of s) (time_in c s) (wires_in c s) W B p is (recordable c first last s good some most) low narrow limit few

  -- "A plan of the planner is always a good record"
  pub planner_good : B ≤ limit_max → length (planned_of s) ≤ planned_max → good_plan (record_of c s W B (best_for c s W B)) ≡ true
  planner_good few most = plan-good (omega arith) (omega arith) (best_for c s W B) (best_for-first c s W B low limit).is_plan

-- what the planner answers where it refuses nothing: the limits hold, and the plan is the best one's record
pub record Answered (s : Soc) (W B c : ℕ) (a : BusPlan) : Type 0 where
  pub good : good_soc s ≡ true
  pub low : 1 ≤ W
  pub narrow : W ≤ width_max
  pub limit : 1 ≤ B
  pub few : B ≤ limit_max
  pub first : 1 ≤ c
  pub last : c ≤ capture_max
  pub some : 1 ≤ length (planned_of s)
  pub most : length (planned_of s) ≤ planned_max
  pub is : a ≡ record_of c s W B (best_for c s W B)

-- what is said, by what each test says
abbrev said_by : BusPlan → Bool → Bool → Bool → Bool → Bool → Bool → Result BusPlan Refusal
said_by found v w x u y z =
    let no : Fault → Result BusPlan Refusal = λ f. Err (refused f 0) in
    cond v (cond w (cond x (cond u (cond y (cond z (Ok found) (no ManyPlanned)) (no NonePlanned)) (no Capture)) (no Buses)) (no Width)) (no BadSoc)

pub answered : (s : Soc) (W B c : ℕ) {a : BusPlan} → plan_answer s W B c ≡ Ok a → Answered s W B c a
unfolding plan_answer
answered s W B c {a} e =
    go (good_soc s) (leb 1 W && leb W width_max) (leb 1 B && leb B limit_max) (leb 1 c && leb c capture_max) (leb 1 (length (planned_of s)))
    (leb (length (planned_of s)) planned_max) refl refl refl refl refl refl e
  where
    go : (v w x u y z : Bool) → good_soc s ≡ v → (leb 1 W && leb W width_max) ≡ w → (leb 1 B && leb B limit_max) ≡ x
        → (leb 1 c && leb c capture_max) ≡ u → leb 1 (length (planned_of s)) ≡ y → leb (length (planned_of s)) planned_max ≡ z
        → said_by (record_of c s W B (best_for c s W B)) v w x u y z ≡ Ok a → Answered s W B c a
    go true true true true true true g b l k d e h =
        let w = and_both (leb 1 W) (leb W width_max) b in
        let l = and_both (leb 1 B) (leb B limit_max) l in
        let k = and_both (leb 1 c) (leb c capture_max) k in
        record {
          good = g;
          low = leb-true 1 W w.0;
          narrow = leb-true W width_max w.1;
          limit = leb-true 1 B l.0;
          few = leb-true B limit_max l.1;
          first = leb-true 1 c k.0;
          last = leb-true c capture_max k.1;
          some = leb-true 1 _ d;
          most = leb-true _ planned_max e;
          is = cc;
        }
    go true true true true true false g b l k d e h = clash cc
    go true true true true false z g b l k d e h = clash cc
    go true true true false y z g b l k d e h = clash cc
    go true true false u y z g b l k d e h = clash cc
    go true false x u y z g b l k d e h = clash cc
    go false w x u y z g b l k d e h = clash cc

-- an answer that is not refused is a good plan of a good record
module _ (s : Soc) (W B c : ℕ) {a : BusPlan} (e : plan_answer s W B c ≡ Ok a) where
  pub planner_answers_good : good_plan a ≡ true
  planner_answers_good =
      let r = answered s W B c e in
      rw r.is (planner_good c r.first r.last s W B r.good r.low r.narrow r.limit r.some r.few r.most)

  pub planner_accepts_good : good_soc s ≡ true
  planner_accepts_good = (answered s W B c e).good

-- each refusal is one of document 01 or 16, and has no line
pub answer_told : (s : Soc) (W B c : ℕ) {r : Refusal} → plan_answer s W B c ≡ Err r → (number_of r.fault ≤ 16) × (r.line ≡ 0)
unfolding plan_answer
answer_told s W B c {r} e =
    go (good_soc s) (leb 1 W && leb W width_max) (leb 1 B && leb B limit_max) (leb 1 c && leb c capture_max) (leb 1 (length (planned_of s)))
    (leb (length (planned_of s)) planned_max) e
  where
    told : (f : Fault) → number_of f ≤ 16 → ◌≡◌ {A = Result BusPlan Refusal} (Err (refused f 0)) (Err r) → (number_of r.fault ≤ 16) × (r.line ≡ 0)
    told f h e = let is : r ≡ refused f 0 = cc in rw is (h, refl)

    go : (v w x u y z : Bool) → said_by (record_of c s W B (best_for c s W B)) v w x u y z ≡ Err r → (number_of r.fault ≤ 16) × (r.line ≡ 0)
    go true true true true true true e = clash cc
    go true true true true true false e = told ManyPlanned (omega arith) e
    go true true true true false z e = told NonePlanned (omega arith) e
    go true true true false y z e = told Capture (omega arith) e
    go true true false u y z e = told Buses (omega arith) e
    go true false x u y z e = told Width (omega arith) e
    go false w x u y z e = told BadSoc (omega arith) e
