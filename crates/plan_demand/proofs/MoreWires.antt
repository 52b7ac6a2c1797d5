-- One more wire can't hurt (document 02, item 10), of what the first planner answers where nothing is refused: more wires or more buses
-- never give a larger least time, and what the least time is at least. Assumes nothing.
use Prim.Native.Nat.{ℕ, ◌+◌, ◌*◌, ◌≤◌, ◌<◌}
use mathlib.Core.Path.{◌≡◌, refl}
use native.Mathlib.Omega.{arith}
use borrow.Author.Tests.{le-leb}
use lib.ListN.{length, get_or}
use Rattle.std.specs.Prelude.{Ok}
use Rattle.soc.specs.Planned.{planned_of}
use Rattle.soc.specs.declared.record.Soc.{Soc}
use Rattle.wrapper_fit.specs.Maxima.{width_max, capture_max}
use Rattle.wrapper_times.specs.TimeAnswers.{module_time_answer}
use Rattle.wrapper_times.proofs.PromisedTimes.{time-is}
use Rattle.wrapper_times.specs.declared.asked.ModuleTime.{ModuleTime}
use Rattle.plan_record.specs.declared.record.BusPlan.{BusPlan}
use Rattle.plan_rules.specs.Bounds.{total, area_of}
use Rattle.plan_rules.proofs.BoundLaws.{plan_single, plan_shared, plan_area}
use Rattle.plan_rules.proofs.MoreLaws.{more-buses, more-wires}
use Rattle.plan.specs.PlanAnswers.{limit_max, planned_max, time_in, best_for, record_of, plan_answer}
use Rattle.plan.proofs.TableLaws.{planned-number, time_fall}
use Rattle.plan.proofs.PlannerLaws.{answered}
use Rattle.plan_demand.proofs.PlanDemand.{answer-first, answer-time_of}

-- times do not rise with the width
falls : (c : ℕ) (s : Soc) (top i v w : ℕ) → i < length (planned_of s) → 1 ≤ v → v ≤ w → w ≤ top → time_in c s i w ≤ time_in c s i v
falls c s top i v w h k l m = time_fall c s i v w k l

-- an answer that is not refused
module _ (s : Soc) (W B c : ℕ) {r : BusPlan} (h : plan_answer s W B c ≡ Ok r) where
  -- more wires never give a larger least time,
  pub answer-more-wires : (U : ℕ) {q : BusPlan} → W ≤ U → plan_answer s U B c ≡ Ok q → q.time.0 ≤ r.time.0
  answer-more-wires U l k =
      rw (answer-time_of s W B c h, answer-time_of s U B c k)
      (more-wires (time_in c s) (answer-first s W B c h) l (falls c s U) (answer-first s U B c k))

  -- nor do more buses
  pub answer-more-buses : (C : ℕ) {q : BusPlan} → B ≤ C → plan_answer s W C c ≡ Ok q → q.time.0 ≤ r.time.0
  answer-more-buses C l k =
      rw (answer-time_of s W B c h, answer-time_of s W C c k) (more-buses (time_in c s) (answer-first s W B c h) l (answer-first s W C c k))

  -- another number of wires or buses within the limits is not refused either
  answered_too : (U C : ℕ) → 1 ≤ U → U ≤ width_max → 1 ≤ C → C ≤ limit_max → plan_answer s U C c ≡ Ok (record_of c s U C (best_for c s U C))
  unfolding plan_answer
  answered_too U C a b l d =
      let r = answered s W B c h in
      let n = length (planned_of s) in
      let first = le-leb 1 c r.first in
      let last = le-leb c capture_max r.last in
      let some = le-leb 1 n r.some in
      let most = le-leb n planned_max r.most in
      rw (r.good, le-leb 1 U a, le-leb U width_max b, le-leb 1 C l, le-leb C limit_max d, first, last, some, most)

  -- "with W below 64, W + 1 wires never give a larger least time": they are not refused either
  pub answer-one_wire : W < width_max → (q : BusPlan) × (plan_answer s (W + 1) B c ≡ Ok q) × (q.time.0 ≤ r.time.0)
  answer-one_wire l =
      let r = answered s W B c h in
      let e = answered_too (W + 1) B (omega arith) (omega arith) r.limit r.few in
      (_, e, answer-more-wires (W + 1) (omega arith) e)

  -- "with B below 3, nor does B + 1"
  pub answer-one-bus : B < limit_max → (q : BusPlan) × (plan_answer s W (B + 1) c ≡ Ok q) × (q.time.0 ≤ r.time.0)
  answer-one-bus l =
      let r = answered s W B c h in
      let e = answered_too W (B + 1) r.low r.narrow (omega arith) (omega arith) in
      (_, e, answer-more-buses (B + 1) (omega arith) e)

  -- "the least time is at least every planned module's time on a bus of W wires"
  pub answer_single : (i : ℕ) → i < length (planned_of s) → time_in c s i W ≤ r.time.0
  answer_single i l = rw (answer-time_of s W B c h) (plan_single (time_in c s) (answer-first s W B c h).is_plan (falls c s W) i l)

  -- "B times it is at least the sum of those"
  pub answer_shared : total (length (planned_of s)) 0 (λ i. time_in c s i W) ≤ B * r.time.0
  answer_shared = rw (answer-time_of s W B c h) (plan_shared (time_in c s) (answer-first s W B c h).is_plan (falls c s W))

  -- W times it is at least the sum of the planned modules' areas
  pub answer_area : total (length (planned_of s)) 0 (area_of (time_in c s) W) ≤ W * r.time.0
  answer_area = rw (answer-time_of s W B c h) (plan_area (time_in c s) (answer-first s W B c h).is_plan)

  -- these times are what is answered for the modules alone
  pub answer-times : (i : ℕ) → i < length (planned_of s) → (w : ℕ) → 1 ≤ w → w ≤ width_max
      → (t : ModuleTime) × (module_time_answer s (get_or (planned_of s) i 0) w c ≡ Ok t) × (t.cycles.0 ≡ time_in c s i w)
  unfolding time_in
  answer-times i l w a b =
      let m = get_or (planned_of s) i 0 in
      let r = answered s W B c h in
      (_, time-is c r.first r.last s m r.good (planned-number s i l).0 w a b w a (omega arith), refl)
