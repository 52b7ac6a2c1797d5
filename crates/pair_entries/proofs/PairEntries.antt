-- Laws of the entries on a pair: one that is refused is refused before the entry looks at anything else, with its line and the text that
-- is meant; of one that is accepted each entry answers what it answers of the combined description, which is never 14. Assumes nothing.
use Prim.Native.Nat.{ℕ, ◌+◌, ◌≤◌}
use native.Mathlib.Omega.{arith}
use mathlib.Core.Path.{◌≡◌, refl}
use mathlib.Core.List.{List}
use mathlib.Core.Logic.{inl, inr}
use lib.ListN.{length}
use Rattle.std.specs.Prelude.{Result, Ok, Err, IfErr, MatchResult, ⊤}
use Rattle.units.specs.Refusals.{number_of}
use Rattle.units.specs.declared.Refusal.{Refusal}
use Rattle.soc.specs.Limits.{text_max}
use Rattle.text_writer.specs.WrittenSoc.{write_answer, write_leaves}
use Rattle.text_writer.proofs.SocWriterLaws.{write_fits}
use Rattle.wrapper_fit.specs.Maxima.{test_time_max, module_time_max, width_max}
use Rattle.wrapper_times.specs.TimeAnswers.{module_time_answer}
use Rattle.wrapper_layout.specs.LayoutAnswers.{layout_answer}
use Rattle.wrapper.proofs.WrapperAnswerLaws.{layout_told, module_time_told}
use Rattle.plan_record.specs.declared.record.BusPlan.{BusPlan}
use Rattle.plan.specs.PlanAnswers.{plan_answer}
use Rattle.plan.proofs.PlannerLaws.{answer_told}
use Rattle.pair.specs.Pair.{read_pair}
use Rattle.pair.specs.declared.read.PairRead.{PairRead}
use Rattle.pair.specs.declared.read.PairRefusal.{PairRefusal}
use Rattle.late_changes.proofs.PairOnly.{pair-good}
use Rattle.late_changes.proofs.PairRefused.{PairNumber, pair_told}
use Rattle.pair_entries.specs.OfPair.{its_own}
use Rattle.pair_entries.specs.LaidPair.{layout_pair}
use Rattle.pair_entries.specs.PlannedPair.{plan_pair}
use Rattle.pair_entries.specs.TimedPair.{module_time_pair}
use Rattle.pair_entries.specs.WrittenPair.{write_pair, leaves_of, write_pair_leaves}
use Rattle.pair_entries.proofs.EntryLaws.{Told, own_told, of_refused, of_accepted, of_either}
use Rattle.pair_entries.proofs.GoodAnswers as good

-- a pair that is refused
module _ (base overlay : List ℕ) {r : PairRefusal} (h : read_pair base overlay ≡ Err r) where
  pub write_refused : (buf : List ℕ) → (write_pair base overlay buf ≡ Err r) × (write_pair_leaves base overlay buf ≡ buf)
  unfolding write_pair write_pair_leaves leaves_of
  write_refused buf = (of_refused (λ s. write_answer s buf) h, rw h)

  pub layout_refused : (m i w c : ℕ) → layout_pair base overlay m i w c ≡ Err r
  unfolding layout_pair
  layout_refused m i w c = of_refused (λ s. layout_answer s m i w c) h

  pub module_time_refused : (m w c : ℕ) → module_time_pair base overlay m w c ≡ Err r
  unfolding module_time_pair
  module_time_refused m w c = of_refused (λ s. module_time_answer s m w c) h

  pub plan-refused : (W B c : ℕ) → plan_pair base overlay W B c ≡ Err r
  unfolding plan_pair
  plan-refused W B c = of_refused (λ s. plan_answer s W B c) h

-- a pair that is accepted
module _ (base overlay : List ℕ) {p : PairRead} (h : read_pair base overlay ≡ Ok p) where
  pub write_accepted : (buf : List ℕ)
      → (write_pair base overlay buf ≡ its_own (write_answer p.soc buf)) × (write_pair_leaves base overlay buf ≡ write_leaves p.soc buf)
  unfolding write_pair write_pair_leaves leaves_of
  write_accepted buf = (of_accepted (λ s. write_answer s buf) h, rw h)

  pub layout_accepted : (m i w c : ℕ) → layout_pair base overlay m i w c ≡ its_own (layout_answer p.soc m i w c)
  unfolding layout_pair
  layout_accepted m i w c = of_accepted (λ s. layout_answer s m i w c) h

  pub module_time_accepted : (m w c : ℕ) → module_time_pair base overlay m w c ≡ its_own (module_time_answer p.soc m w c)
  unfolding module_time_pair
  module_time_accepted m w c = of_accepted (λ s. module_time_answer s m w c) h

  pub plan-accepted : (W B c : ℕ) → plan_pair base overlay W B c ≡ its_own (plan_answer p.soc W B c)
  unfolding plan_pair
  plan-accepted W B c = of_accepted (λ s. plan_answer s W B c) h

-- not refused as 14
abbrev pub Not14 : {A : Type 0} → Result A PairRefusal → Type 0
Not14 a = IfErr a (λ r. number_of r.refusal.fault ≡ 14 → ⊥)

own_not_14 : {A : Type 0} (a : Result A Refusal) → good.Not14 a → Not14 (its_own a)
own_not_14 (Ok a) h = tt
own_not_14 (Err r) h = h

-- 14 is never answered: the combined description is good
module _ (base overlay : List ℕ) where
  refused_not_14 : (r : PairRefusal) → read_pair base overlay ≡ Err r → number_of r.refusal.fault ≡ 14 → ⊥
  refused_not_14 r h e = go (pair_told base overlay r h).0
    where
      go : PairNumber (number_of r.refusal.fault) → ⊥
      go (inl (inl k)) = omega (arith, k.1)
      go (inl (inr k)) = omega arith
      go (inr k) = omega arith

  pub write_pair_not_14 : (buf : List ℕ) → Not14 (write_pair base overlay buf)
  unfolding write_pair
  write_pair_not_14 buf =
      of_either (λ s. write_answer s buf) Not14 (read_pair base overlay) refused_not_14
      (λ p h. own_not_14 (write_answer p.soc buf) (good.write_not_14 p.soc (pair-good base overlay p h) buf))

  pub layout_pair_not_14 : (m i w c : ℕ) → Not14 (layout_pair base overlay m i w c)
  unfolding layout_pair
  layout_pair_not_14 m i w c =
      of_either (λ s. layout_answer s m i w c) Not14 (read_pair base overlay) refused_not_14
      (λ p h. own_not_14 (layout_answer p.soc m i w c) (good.layout_not_14 p.soc (pair-good base overlay p h) m w c i))

  pub module_time_pair_not_14 : (m w c : ℕ) → Not14 (module_time_pair base overlay m w c)
  unfolding module_time_pair
  module_time_pair_not_14 m w c =
      of_either (λ s. module_time_answer s m w c) Not14 (read_pair base overlay) refused_not_14
      (λ p h. own_not_14 (module_time_answer p.soc m w c) (good.module_time_not_14 p.soc (pair-good base overlay p h) m w c))

  pub plan-pair_not_14 : (W B c : ℕ) → Not14 (plan_pair base overlay W B c)
  unfolding plan_pair
  plan-pair_not_14 W B c =
      of_either (λ s. plan_answer s W B c) Not14 (read_pair base overlay) refused_not_14
      (λ p h. own_not_14 (plan_answer p.soc W B c) (good.plan_not_14 p.soc (pair-good base overlay p h) W B c))

  -- a number is at most 17, a line at most as many as a text may have, and a figure keeps its maximum
  pub told_number : (r : PairRefusal) → read_pair base overlay ≡ Err r
      → (number_of r.refusal.fault ≤ 17) × (r.refusal.line ≤ text_max + 1)
  told_number r h = let t = pair_told base overlay r h in (go t.0, t.1)
    where
      go : PairNumber (number_of r.refusal.fault) → number_of r.refusal.fault ≤ 17
      go (inl (inl k)) = omega (arith, k.1)
      go (inl (inr k)) = omega arith
      go (inr k) = omega arith

  pub write_pair_told : (buf : List ℕ) → Told (λ n. n ≤ length buf) (write_pair base overlay buf)
  unfolding write_pair
  write_pair_told buf =
      of_either (λ s. write_answer s buf) (Told (λ n. n ≤ length buf)) (read_pair base overlay) told_number
      (λ p h. own_told (λ n. n ≤ length buf) 14 (omega arith) (write_answer p.soc buf) (write_fits p.soc buf))

  pub layout_pair_told : (m i w c : ℕ) → Told (λ l. l.cycles.0 ≤ test_time_max) (layout_pair base overlay m i w c)
  unfolding layout_pair
  layout_pair_told m i w c =
      of_either (λ s. layout_answer s m i w c) (Told (λ l. l.cycles.0 ≤ test_time_max)) (read_pair base overlay) told_number
      (λ p h. own_told (λ l. l.cycles.0 ≤ test_time_max) 16 (omega arith) (layout_answer p.soc m i w c) (layout_told p.soc m i w c))

  pub module_time_pair_told : (m w c : ℕ)
      → Told (λ t. (t.cycles.0 ≤ module_time_max) × (t.wires.0 ≤ width_max)) (module_time_pair base overlay m w c)
  unfolding module_time_pair
  module_time_pair_told m w c =
      of_either (λ s. module_time_answer s m w c) (Told (λ t. (t.cycles.0 ≤ module_time_max) × (t.wires.0 ≤ width_max))) (read_pair base overlay)
      told_number
      (λ p h. own_told (λ t. (t.cycles.0 ≤ module_time_max) × (t.wires.0 ≤ width_max)) 16 (omega arith) (module_time_answer p.soc m w c)
      (module_time_told p.soc m w c))

  pub plan-pair_told : (W B c : ℕ) → Told (λ p. ⊤) (plan_pair base overlay W B c)
  unfolding plan_pair
  plan-pair_told W B c =
      of_either (λ s. plan_answer s W B c) (Told (λ p. ⊤)) (read_pair base overlay) told_number
      (λ p h. own_told (λ p. ⊤) 16 (omega arith) (plan_answer p.soc W B c) (each (plan_answer p.soc W B c) (λ r. answer_told p.soc W B c)))
    where
      each : (a : Result BusPlan Refusal) → ((r : Refusal) → a ≡ Err r → (number_of r.fault ≤ 16) × (r.line ≡ 0))
          → MatchResult a (λ p. ⊤) (λ r. (number_of r.fault ≤ 16) × (r.line ≡ 0))
      each (Ok p) h = tt
      each (Err r) h = h r refl
