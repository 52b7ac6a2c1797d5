-- What the layers above know of times: what is answered for a module of a good SOC, width by width, and that its time keeps the module
-- maximum and is at least 1 where it is planned. (`time-falls` and `time-wires` of BestLaws hold of every module.) Assumes nothing.
use Prim.Native.Nat.{ℕ, zero, suc, ◌+◌, ◌-◌, ◌≤◌, ◌<◌}
use mathlib.Core.Path.{◌≡◌, refl, sym, ap, ◌∙◌}
use mathlib.Core.Bool.{Bool, true}
use mathlib.Core.List.{List, [], ◌∷◌, map}
use native.Mathlib.Omega.{arith}
use borrow.Author.Tests.{le-leb, lt-ltb}
use lib.Dec.{leb}
use lib.ListN.{get_or}
use lib.Seq.{get_or-take}
use Rattle.std.specs.Prelude.{Ok}
use Rattle.units.proofs.TestLaws.{and_both}
use Rattle.soc.specs.Limits.{level_max}
use Rattle.units.specs.Places.{all_of, padded}
use Rattle.soc.specs.Record.{modules_of, no_module}
use Rattle.soc.specs.Planned.{is_planned}
use Rattle.soc.specs.Rules.{spare_test, level_rule, good_terminals, good_chains, good_position, good_tests, good_module, good_modules, good_soc}
use Rattle.soc.specs.declared.record.Module.{Module}
use Rattle.soc.specs.declared.record.Soc.{Soc}
use Rattle.units.proofs.PlaceLaws.{padded-at}
use Rattle.wrapper_fit.specs.Maxima.{module_time_max, width_max, capture_max}
use Rattle.wrapper_fit.specs.Counts.{wires, cycles}
use Rattle.wrapper_scans.specs.Asked.{module_at, asked_module}
use Rattle.wrapper_scans.proofs.KeptLaws.{good_parts, good-kept}
use Rattle.wrapper_times.specs.Times.{Best, module_best}
use Rattle.wrapper_times.specs.TimeAnswers.{module_time_of, module_time_answer, bests_from, cycles_in, wires_in, times_of, module_times_answer}
use Rattle.wrapper_times.specs.declared.asked.ModuleTime.{ModuleTime}
use Rattle.wrapper_times.specs.declared.times.Times.{Times}
use Rattle.wrapper_times.proofs.BestLaws.{time-at, planned-least, good-patterns}
use Rattle.wrapper_times.proofs.TimeLaws.{module_most}

-- a module's times and wires at the widths from u on
module _ {A : Type 0} (f : Best → A) (z : A) (c : ℕ) (d : Module) where
  bests_at : (n u j : ℕ) → j < n → get_or (map f (bests_from c d n u)) j z ≡ f (module_best c d (u + j))
  unfolding bests_from
  bests_at zero u j h = absurd (omega arith)
  bests_at (suc n) u zero h = let e : u + 0 ≡ u = omega arith in rw e
  bests_at (suc n) u (suc j) h = let e : u + suc j ≡ suc u + j = omega arith in rw e (bests_at n (suc u) j (omega arith))

  bests_past : (n u j : ℕ) → n ≤ j → get_or (map f (bests_from c d n u)) j z ≡ z
  unfolding bests_from
  bests_past zero u j h = refl
  bests_past (suc n) u zero h = absurd (omega arith)
  bests_past (suc n) u (suc j) h = bests_past n (suc u) j (omega arith)

  held_at : (W w : ℕ) → 1 ≤ w → w ≤ W → get_or (padded width_max z (map f (bests_from c d W 1))) (w - 1) z ≡ f (module_best c d w)
  held_at W w h k =
      let e : 1 + (w - 1) ≡ w = omega arith in
      padded-at width_max z (map f (bests_from c d W 1)) (w - 1) ∙ bests_at W 1 (w - 1) (omega arith) ∙ rw e

  held-past : (W j : ℕ) → W ≤ j → get_or (padded width_max z (map f (bests_from c d W 1))) j z ≡ z
  held-past W j h = padded-at width_max z (map f (bests_from c d W 1)) j ∙ bests_past W 1 j h

-- the tests of each module in use of a good record are good
module_tests_lem : (power xy : Bool) (m last : ℕ) (d : Module) → good_module power xy m last d ≡ true → good_tests m power d ≡ true
unfolding good_module
module_tests_lem power xy m last d h =
    let a = and_both (leb d.level level_max) _ h in
    let b = and_both (level_rule m last d.level) _ a.1 in
    let f = and_both (good_terminals d) _ b.1 in
    let g = and_both (good_chains d) _ f.1 in
    (and_both (good_position xy d.x d.y) (good_tests m power d) g.1).1

none-tests : (m : ℕ) (power : Bool) → good_tests m power no_module ≡ true
unfolding good_tests all_of spare_test
none-tests m power = refl

modules-tests : (power xy : Bool) (m last : ℕ) (ds : List Module) → good_modules power xy m last ds ≡ true → (i : ℕ)
    → good_tests (m + i) power (get_or ds i no_module) ≡ true
unfolding good_modules
modules-tests power xy m last [] h i = none-tests (m + i) power
modules-tests power xy m last (d ∷ ds) h zero =
    let e : m + 0 ≡ m = omega arith in
    rw e (module_tests_lem power xy m last d (and_both (good_module power xy m last d) (good_modules power xy (suc m) d.level ds) h).0)
modules-tests power xy m last (d ∷ ds) h (suc i) =
    let rest = (and_both (good_module power xy m last d) (good_modules power xy (suc m) d.level ds) h).1 in
    let e : m + suc i ≡ suc m + i = omega arith in
    rw e (modules-tests power xy (suc m) d.level ds rest i)

-- of a module of a good SOC, with c capture cycles
module _ (c : ℕ) (first : 1 ≤ c) (last : c ≤ capture_max) (s : Soc) (m : ℕ) (good : good_soc s ≡ true) (there : m < s.module_count) where
  good-tests : good_tests m s.power (module_at s m) ≡ true
  good-tests =
      let e : 0 + m ≡ m = omega arith in
      rw (e, get_or-take s.module_count s.modules m no_module there)
      at (modules-tests s.power s.xy 0 0 (modules_of s) (good_parts s good).1 m)

  -- its time is at most the module maximum, and at least 1 where it is planned
  pub time-most : (w : ℕ) → 1 ≤ w → (module_best c (module_at s m) w).cycles ≤ module_time_max
  time-most w h =
      rw (← time-at c (module_at s m) w h)
      (module_most c (module_at s m) (module_best c (module_at s m) w).wires last (good-kept s m good there))

  pub time-some : (w : ℕ) → 1 ≤ w → is_planned (module_at s m) ≡ true → 1 ≤ (module_best c (module_at s m) w).cycles
  time-some w h p = planned-least c first (module_at s m) w p (good-patterns m s.power (module_at s m) good-tests) h

  -- what is answered for widths up to W
  module _ (W : ℕ) (low : 1 ≤ W) (high : W ≤ width_max) where
    pub times-are : module_times_answer s m W c ≡ Ok (times_of c (module_at s m) W)
    unfolding module_times_answer asked_module
    times-are =
        rw (good, le-leb 1 W low, le-leb W width_max high, le-leb 1 c first, le-leb c capture_max last, lt-ltb m s.module_count there)

    -- and what is answered at one width alone
    pub time-is : (w : ℕ) → 1 ≤ w → w ≤ W → module_time_answer s m w c ≡ Ok (module_time_of (module_best c (module_at s m) w))
    unfolding module_time_answer asked_module
    time-is w h k =
        let n : w ≤ width_max = omega arith in
        rw (good, le-leb 1 w h, le-leb w width_max n, le-leb 1 c first, le-leb c capture_max last, lt-ltb m s.module_count there)

    module _ {t : Times} (e : module_times_answer s m W c ≡ Ok t) where
      told : t ≡ times_of c (module_at s m) W
      told = let f : Ok t ≡ Ok (times_of c (module_at s m) W) = sym e ∙ times-are in cc

      -- at each width up to W the least figure, and 0 past W
      pub times-at : (w : ℕ) → 1 ≤ w → w ≤ W → get_or t.cycles (w - 1) (cycles 0) ≡ cycles (module_best c (module_at s m) w).cycles
      unfolding times_of
      times-at w h k = rw told (held_at cycles_in (cycles 0) c (module_at s m) W w h k)

      pub wires-at : (w : ℕ) → 1 ≤ w → w ≤ W → get_or t.wires (w - 1) (wires 0) ≡ wires (module_best c (module_at s m) w).wires
      unfolding times_of
      wires-at w h k = rw told (held_at wires_in (wires 0) c (module_at s m) W w h k)

      pub times-past : (j : ℕ) → W ≤ j → get_or t.cycles j (cycles 0) ≡ cycles 0
      unfolding times_of
      times-past j h = rw told (held-past cycles_in (cycles 0) c (module_at s m) W j h)

      pub wires-past : (j : ℕ) → W ≤ j → get_or t.wires j (wires 0) ≡ wires 0
      unfolding times_of
      wires-past j h = rw told (held-past wires_in (wires 0) c (module_at s m) W j h)

      -- the same figures as those of one width alone
      module _ (w : ℕ) (h : 1 ≤ w) (k : w ≤ W) {a : ModuleTime} (f : module_time_answer s m w c ≡ Ok a) where
        told_at : a ≡ module_time_of (module_best c (module_at s m) w)
        told_at = let g : Ok a ≡ Ok (module_time_of (module_best c (module_at s m) w)) = sym f ∙ time-is w h k in cc

        pub times-same : get_or t.cycles (w - 1) (cycles 0) ≡ a.cycles
        times-same = times-at w h k ∙ sym (ap (λ a. a.cycles) told_at)

        pub wires-same : get_or t.wires (w - 1) (wires 0) ≡ a.wires
        wires-same = wires-at w h k ∙ sym (ap (λ a. a.wires) told_at)
