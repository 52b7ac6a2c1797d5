-- Laws of capture cycles in plans (document 02, item 5): with one of them the planner's answer is document 01's, and no plan's least time
-- falls as they become more. Assumes nothing.
use Prim.Native.Nat.{ℕ, suc, ◌+◌, ◌≤◌, ◌<◌}
use mathlib.Core.Path.{◌≡◌, refl}
use mathlib.Core.Bool.{Bool, true, false, cond, ◌&&◌}
use mathlib.Core.List.{List, [], ◌∷◌}
use native.Mathlib.Omega.{arith}
use lib.Dec.{leb, eqb}
use lib.ListN.{length, get_or}
use Rattle.std.specs.Prelude.{Result, Ok, Err}
use Rattle.units.specs.Refusals.{refused}
use Rattle.units.specs.declared.Fault.{Fault}
use Rattle.units.specs.declared.Fault.TheVariants.{Width, Buses, NonePlanned, ManyPlanned, BadSoc}
use Rattle.units.specs.declared.Refusal.{Refusal}
use Rattle.soc.specs.Rules.{good_soc}
use Rattle.soc.specs.Planned.{planned_of}
use Rattle.soc.specs.declared.record.Soc.{Soc}
use Rattle.wrapper_fit.specs.Maxima.{width_max}
use Rattle.wrapper.proofs.CaptureLaws.{time_rises}
use Rattle.plan_rules.specs.Plans.{Plan, IsPlan, busy_from, busies, largest, time_of}
use Rattle.plan.specs.PlanAnswers.{limit_max, planned_max, planned_module, time_in, best_for, record_of, plan_answer}
use Rattle.plan_record.specs.declared.record.BusPlan.{BusPlan}
use Rattle.plan_demand.proofs.PlanDemand.{answer-first, answer-time_of}

-- with one capture cycle, "Plan: 14, 7, 8, 9, 10.", and the plan is the best one for times with one (`one-capture` of the wrapper layer)
pub one-capture-plan : (s : Soc) (W B : ℕ) →
    let n = length (planned_of s) in
    let no : Fault → Result BusPlan Refusal = λ f. Err (refused f 0) in
    let found : Result BusPlan Refusal = Ok (record_of 1 s W B (best_for 1 s W B)) in
    let planned = cond (leb 1 n) (cond (leb n planned_max) found (no ManyPlanned)) (no NonePlanned) in
    plan_answer s W B 1
    ≡ cond (good_soc s)
    (cond (leb 1 W && leb W width_max) (cond (leb 1 B && leb B limit_max) planned (no Buses)) (no Width))
    (no BadSoc)
unfolding plan_answer
one-capture-plan s W B = refl

-- where no module's time is larger, no plan's is
module _ {f g : ℕ → ℕ → ℕ} (rises : (i w : ℕ) → 1 ≤ w → f i w ≤ g i w) where
  busy_rises : (i b w : ℕ) (xs : List ℕ) → 1 ≤ w → busy_from f i b w xs ≤ busy_from g i b w xs
  unfolding busy_from
  busy_rises i b w [] h = omega arith
  busy_rises i b w (x ∷ xs) h = go (eqb x b) (rises i w h) (busy_rises (suc i) b w xs h)
    where
      go : (t : Bool) → f i w ≤ g i w → busy_from f (suc i) b w xs ≤ busy_from g (suc i) b w xs
          → cond t (f i w) 0 + busy_from f (suc i) b w xs ≤ cond t (g i w) 0 + busy_from g (suc i) b w xs
      go true k l = omega arith
      go false k l = omega arith

  largest_rises : (bs : List ℕ) (b : ℕ) (ws : List ℕ) → ((i : ℕ) → i < length ws → 1 ≤ get_or ws i 0)
      → largest (busies f bs b ws) ≤ largest (busies g bs b ws)
  unfolding largest busies
  largest_rises bs b [] h = omega arith
  largest_rises bs b (w ∷ ws) h =
      omega (arith, busy_rises 0 b w bs (h 0 (omega arith)), largest_rises bs (suc b) ws (λ i k. h (suc i) (omega arith)))

  plan_rises : {W B n : ℕ} {p : Plan} → IsPlan W B n p → time_of f p ≤ time_of g p
  unfolding time_of
  plan_rises {p = p} r = largest_rises p.buses 1 p.widths r.wide

longer : (s : Soc) (c e : ℕ) → c ≤ e → (i w : ℕ) → 1 ≤ w → time_in c s i w ≤ time_in e s i w
unfolding time_in
longer s c e l i w h = time_rises l (planned_module s i) w h

-- more capture cycles never give a smaller least time
pub answer-plan_rises : (s : Soc) (W B c e : ℕ) {p q : BusPlan} → c ≤ e → plan_answer s W B c ≡ Ok p → plan_answer s W B e ≡ Ok q
    → p.time.0 ≤ q.time.0
answer-plan_rises s W B c e l h k =
    let r = (answer-first s W B e k).is_plan in
    rw (answer-time_of s W B c h, answer-time_of s W B e k)
    (omega (arith, (answer-first s W B c h).least _ r, plan_rises (longer s c e l) r))
