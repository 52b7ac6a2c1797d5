-- Of a good record no entry answers 14. Assumes nothing.
use Prim.Native.Nat.{ℕ}
use native.Mathlib.Omega.{arith}
use mathlib.Core.Path.{◌≡◌}
use mathlib.Core.Bool.{Bool, true, false, cond, ◌&&◌}
use mathlib.Core.List.{List}
use lib.Dec.{leb, ltb}
use lib.ListN.{length}
use Rattle.std.specs.Prelude.{Result, Ok, Err, IfErr}
use Rattle.units.specs.Refusals.{number_of, refused}
use Rattle.units.specs.declared.Fault.TheVariants.{Width, Buses, NonePlanned, ManyPlanned, ShortBuffer, NotThere, Capture}
use Rattle.units.specs.declared.Refusal.{Refusal}
use Rattle.soc.specs.Planned.{planned_of}
use Rattle.soc.specs.Rules.{good_soc}
use Rattle.soc.specs.declared.record.Soc.{Soc}
use Rattle.text_writer.specs.WrittenSoc.{written_soc, write_answer}
use Rattle.wrapper_fit.specs.Maxima.{width_max, capture_max}
use Rattle.wrapper_scans.specs.Asked.{module_at, asked_module, refused_here}
use Rattle.wrapper_times.specs.Times.{module_best}
use Rattle.wrapper_times.specs.TimeAnswers.{module_time_of, module_time_answer}
use Rattle.wrapper_layout.specs.Laid.{test_at}
use Rattle.wrapper_layout.specs.LayoutAnswers.{asked_test, layout_of, layout_answer}
use Rattle.plan.specs.PlanAnswers.{limit_max, planned_max, record_of, best_for, plan_answer}

-- not refused as 14
abbrev pub Not14 : {A : Type 0} → Result A Refusal → Type 0
Not14 a = IfErr a (λ r. number_of r.fault ≡ 14 → ⊥)

module _ (s : Soc) (good : good_soc s ≡ true) where
  pub write_not_14 : (buf : List ℕ) → Not14 (write_answer s buf)
  unfolding write_answer
  write_not_14 buf = rw good (go (leb (length (written_soc s)) (length buf)))
    where
      go : (t : Bool) → Not14 (cond t (Ok (length (written_soc s))) (Err (refused ShortBuffer 0)))
      go true = tt
      go false = λ e. omega arith

  module _ (m w c : ℕ) where
    pub layout_not_14 : (i : ℕ) → Not14 (layout_answer s m i w c)
    unfolding layout_answer asked_module asked_test
    layout_not_14 i =
        rw good (go (leb 1 w && leb w width_max) (leb 1 c && leb c capture_max) (ltb m s.module_count) (leb 1 i && leb i (module_at s m).test_count))
      where
        go : (y x z t : Bool) →
            let found = layout_of c (module_at s m) w (test_at (module_at s m) i) in
            Not14 (cond y (cond x (cond z (cond t (Ok found) (refused_here NotThere)) (refused_here NotThere)) (refused_here Capture)) (refused_here Width))
        go true true true true = tt
        go true true true false = λ e. omega arith
        go true true false t = λ e. omega arith
        go true false z t = λ e. omega arith
        go false x z t = λ e. omega arith

    pub module_time_not_14 : Not14 (module_time_answer s m w c)
    unfolding module_time_answer asked_module
    module_time_not_14 = rw good (go (leb 1 w && leb w width_max) (leb 1 c && leb c capture_max) (ltb m s.module_count))
      where
        go : (y x z : Bool) →
            let found = module_time_of (module_best c (module_at s m) w) in
            Not14 (cond y (cond x (cond z (Ok found) (refused_here NotThere)) (refused_here Capture)) (refused_here Width))
        go true true true = tt
        go true true false = λ e. omega arith
        go true false z = λ e. omega arith
        go false x z = λ e. omega arith

  pub plan_not_14 : (W B c : ℕ) → Not14 (plan_answer s W B c)
  unfolding plan_answer
  plan_not_14 W B c =
      rw good
      (go (leb 1 W && leb W width_max) (leb 1 B && leb B limit_max) (leb 1 c && leb c capture_max) (leb 1 (length (planned_of s))) (leb (length (planned_of s)) planned_max))
    where
      go : (w x v y z : Bool) →
          let found = record_of c s W B (best_for c s W B) in
          Not14 (cond w (cond x (cond v (cond y (cond z (Ok found) (Err (refused ManyPlanned 0))) (Err (refused NonePlanned 0)))
          (Err (refused Capture 0))) (Err (refused Buses 0))) (Err (refused Width 0)))
      go true true true true true = tt
      go true true true true false = λ e. omega arith
      go true true true false z = λ e. omega arith
      go true true false y z = λ e. omega arith
      go true false v y z = λ e. omega arith
      go false x v y z = λ e. omega arith
