-- Laws of times: what a module takes at most, the sum of a module's tests where each scan is computed at most once, and the least figure
-- width by width. Assumes nothing.
use Prim.Native.Nat.{ℕ, zero, suc, ◌*◌, ◌≤◌, ◌<◌, ◌+◌, ◌-◌}
use mathlib.Core.Path.{◌≡◌, refl, ap, ◌∙◌}
use mathlib.Core.Bool.{Bool, true, false, cond, ◌&&◌, ◌||◌, beq}
use mathlib.Core.List.{List, [], ◌∷◌, ◌++◌, map, map-append, append_assoc}
use native.Mathlib.Omega.{arith}
use native.Mathlib.Numerals.{add-one}
use lib.ListN.{length, get_or, drop, replicate, length-take, set, length-map, drop_of_length-le}
use lib.Seq.{get_or-take, drop-cons, get_or_at}
use lib.Dec.{ltb}
use borrow.Author.Tests.{lt-ltb, le-ltb}
use Rattle.std.specs.Prelude.{Some, None, IfSome}
use Rattle.units.specs.Places.{any_of, padded}
use Rattle.units.proofs.PlaceLaws.{padded-set}
use Rattle.soc.specs.Limits.{patterns_max}
use Rattle.soc.specs.Record.{no_test, tests_of}
use Rattle.soc.specs.declared.record.Test.{Test}
use Rattle.soc.specs.declared.record.Module.{Module}
use Rattle.wrapper_fit.specs.Maxima.{test_time_max, module_time_max, width_max, capture_max}
use Rattle.wrapper_scans.specs.Chains.{used_chains}
use Rattle.wrapper_scans.specs.Held.{chain_lengths, Measured}
use Rattle.wrapper_scans.specs.Scans.{scan_with, Short, Kept}
use Rattle.wrapper_scans.specs.TestTimes.{scan_in, scan_out, test_cycles, test_time}
use Rattle.wrapper_scans.specs.declared.scans.Scan.{Scan}
use Rattle.wrapper_scans.proofs.KeptLaws.{short-scan, kept_measured}
use Rattle.wrapper_scans.proofs.TestTimeLaws.{cycles-most, scan-is, test-most}
use Rattle.wrapper_times.specs.Sums.{needed, scan_if, scan_needed, planned_with, planned_cycles, sum_scans}
use Rattle.wrapper_times.specs.Times.{sum_times, figure, Best, best_to, module_best}
use Rattle.wrapper_times.specs.TimeAnswers.{bests_from}

pub short-scan_needed : (d : Module) (scan : Bool) (w : ℕ) → Kept d → Short (scan_needed d scan w)
unfolding scan_if
short-scan_needed d scan w k = go (any_of (planned_with scan) (tests_of d))
  where
    go : (x : Bool) → Short (scan_if d (cond x (Some (chain_lengths (used_chains d scan))) None) w)
    go true = short-scan d scan w k
    go false = record { si = omega arith; so = omega arith }

pub needed_measured : (d : Module) (scan : Bool) → Kept d → IfSome (needed d scan) Measured
needed_measured d scan k = go (any_of (planned_with scan) (tests_of d))
  where
    go : (x : Bool) → IfSome (cond x (Some (chain_lengths (used_chains d scan))) None) Measured
    go true = kept_measured d scan k
    go false = tt

pub planned-most : (c : ℕ) (a b : Scan) (t : Test) → c ≤ capture_max → Short a → Short b → t.patterns ≤ 16777215
    → planned_cycles c a b t ≤ test_time_max
unfolding planned_cycles
planned-most c a b t l h k m = go t.tam_use t.scan_use
  where
    go : (x y : Bool)
        → cond x (cond y (test_cycles c a.si a.so t.patterns) (test_cycles c b.si b.so t.patterns)) 0 ≤ test_time_max
    go true true = cycles-most c a.si a.so t.patterns l h.si h.so m
    go true false = cycles-most c b.si b.so t.patterns l k.si k.so m
    go false y = omega arith

-- the longest that a module can take
sum-most : (c : ℕ) (d : Module) (w : ℕ) (ts : List Test) → c ≤ capture_max → Kept d
    → ((i : ℕ) → i < length ts → (get_or ts i no_test).patterns ≤ patterns_max)
    → sum_times c d w ts ≤ length ts * test_time_max
unfolding sum_times
sum-most c d w [] l k h = omega arith
sum-most c d w (t ∷ ts) l k h =
    go t.tam_use (sum-most c d w ts l k (λ i m. h (suc i) (omega arith))) (test-most c d w t l k (h 0 (omega arith)))
  where
    go : (x : Bool) → sum_times c d w ts ≤ length ts * test_time_max → test_time c d w t ≤ test_time_max
        → cond x (test_time c d w t + sum_times c d w ts) (sum_times c d w ts) ≤ suc (length ts) * test_time_max
    go true a b = omega arith
    go false a b = omega arith

pub few-patterns : (d : Module) → Kept d → (i : ℕ) → i < length (tests_of d) → (get_or (tests_of d) i no_test).patterns ≤ patterns_max
few-patterns d k i h =
    let n : i < d.test_count = omega (arith, length-take d.test_count d.tests) in
    rw (get_or-take d.test_count d.tests i no_test n) (k.patterns i)

pub module_most : (c : ℕ) (d : Module) (w : ℕ) → c ≤ capture_max → Kept d → figure c d w ≤ module_time_max
unfolding figure
module_most c d w l k =
    omega (arith, sum-most c d w (tests_of d) l k (few-patterns d k), length-take d.test_count d.tests, k.tests)

-- the sum over the tests with TamUse 1, by the scan lengths with chains and without
sum_scans_lem : (c : ℕ) (d : Module) (w : ℕ) (ts : List Test)
    → sum_scans c (scan_with d true w) (scan_with d false w) ts ≡ sum_times c d w ts
unfolding sum_scans sum_times planned_cycles test_time
sum_scans_lem c d w [] = refl
sum_scans_lem c d w (t ∷ ts) = rw (sum_scans_lem c d w ts, scan-is d true w, scan-is d false w) (go t.tam_use t.scan_use)
  where
    go : (x y : Bool) → cond x (cond y (test_cycles c (scan_in d true w) (scan_out d true w) t.patterns)
        (test_cycles c (scan_in d false w) (scan_out d false w) t.patterns)) 0 + sum_times c d w ts
        ≡ cond x (test_cycles c (scan_in d y w) (scan_out d y w) t.patterns + sum_times c d w ts) (sum_times c d w ts)
    go true true = refl
    go true false = refl
    go false y = omega arith

-- a scan that no such test needs may be any
same-cycles : (c : ℕ) (a b a' b' : Scan) (t : Test) → (planned_with true t ≡ true → a ≡ a') → (planned_with false t ≡ true → b ≡ b')
    → planned_cycles c a b t ≡ planned_cycles c a' b' t
unfolding planned_cycles
same-cycles c a b a' b' t e f = go t.tam_use t.scan_use e f
  where
    cycles_of : Scan → ℕ
    cycles_of s = test_cycles c s.si s.so t.patterns

    go : (x y : Bool) → ((x && beq y true) ≡ true → a ≡ a') → ((x && beq y false) ≡ true → b ≡ b')
        → cond x (cond y (cycles_of a) (cycles_of b)) 0 ≡ cond x (cond y (cycles_of a') (cycles_of b')) 0
    go true true e f = ap cycles_of (e refl)
    go true false e f = ap cycles_of (f refl)
    go false y e f = refl

or_first : (a b : Bool) → a ≡ true → (a || b) ≡ true
or_first a b e = rw e

or_second : (a b : Bool) → b ≡ true → (a || b) ≡ true
or_second true b e = refl
or_second false b e = e

same_sum : (c : ℕ) (a b a' b' : Scan) (ts : List Test) → (any_of (planned_with true) ts ≡ true → a ≡ a')
    → (any_of (planned_with false) ts ≡ true → b ≡ b') → sum_scans c a b ts ≡ sum_scans c a' b' ts
unfolding sum_scans any_of
same_sum c a b a' b' [] e f = refl
same_sum c a b a' b' (t ∷ ts) e f =
    rw (
      same-cycles c a b a' b' t (λ h. e (or_first (planned_with true t) (any_of (planned_with true) ts) h))
          (λ h. f (or_first (planned_with false t) (any_of (planned_with false) ts) h)),
      same_sum c a b a' b' ts (λ h. e (or_second (planned_with true t) (any_of (planned_with true) ts) h))
          (λ h. f (or_second (planned_with false t) (any_of (planned_with false) ts) h)),
    )

if_needed : (d : Module) (scan : Bool) (w : ℕ) → any_of (planned_with scan) (tests_of d) ≡ true → scan_needed d scan w ≡ scan_with d scan w
unfolding scan_if
if_needed d scan w e = rw e

-- a module's figure, where each scan is computed only if a test needs it
pub figure_scans : (c : ℕ) (d : Module) (w : ℕ) → sum_scans c (scan_needed d true w) (scan_needed d false w) (tests_of d) ≡ figure c d w
unfolding figure
figure_scans c d w =
    same_sum c _ _ _ _ (tests_of d) (if_needed d true w) (if_needed d false w)
    ∙ sum_scans_lem c d w (tests_of d)

-- a loop over the tests
pub sum_step : (c : ℕ) (a b : Scan) (ts : List Test) (i : ℕ) → i < length ts
    → sum_scans c a b (drop i ts) ≡ planned_cycles c a b (get_or ts i no_test) + sum_scans c a b (drop (i + 1) ts)
unfolding sum_scans
sum_step c a b ts i h = rw (add-one, drop-cons ts i no_test h)

pub sum-end : (c : ℕ) (a b : Scan) (ts : List Test) (i : ℕ) → length ts ≤ i → sum_scans c a b (drop i ts) ≡ 0
unfolding sum_scans
sum-end c a b ts i h = rw (drop_of_length-le ts h)

-- the least figure at one width more
pub best-one : (c : ℕ) (d : Module) → module_best c d 1 ≡ record { cycles = figure c d 1; wires = 1 }
unfolding module_best best_to
best-one c d = refl

best-next : (c : ℕ) (d : Module) (w : ℕ) → 0 < w
    → module_best c d (w + 1)
    ≡ cond (ltb (figure c d (w + 1)) (module_best c d w).cycles) (record { cycles = figure c d (w + 1); wires = w + 1 }) (module_best c d w)
unfolding module_best best_to
best-next c d zero h = let no : ⊥ = omega arith in absurd no
best-next c d (suc w) h = rw (add-one (suc w))

pub best_less : (c : ℕ) (d : Module) (w : ℕ) → 0 < w → figure c d (w + 1) < (module_best c d w).cycles
    → module_best c d (w + 1) ≡ record { cycles = figure c d (w + 1); wires = w + 1 }
best_less c d w h k = best-next c d w h ∙ rw (lt-ltb (figure c d (w + 1)) (module_best c d w).cycles k)

pub best_stays : (c : ℕ) (d : Module) (w : ℕ) → 0 < w → (module_best c d w).cycles ≤ figure c d (w + 1)
    → module_best c d (w + 1) ≡ module_best c d w
best_stays c d w h k = best-next c d w h ∙ rw (le-ltb (figure c d (w + 1)) (module_best c d w).cycles k)

-- the times at the widths 1 to w
bests_length : (c : ℕ) (d : Module) (w u : ℕ) → length (bests_from c d w u) ≡ w
unfolding bests_from
bests_length c d zero u = refl
bests_length c d (suc w) u = ap suc (bests_length c d w (suc u))

bests_more : (c : ℕ) (d : Module) (w u : ℕ) → bests_from c d (suc w) u ≡ bests_from c d w u ++ module_best c d (w + u) ∷ []
unfolding bests_from
bests_more c d zero u = let e : 0 + u ≡ u = omega arith in rw e
bests_more c d (suc w) u = let e : w + suc u ≡ suc w + u = omega arith in ap (λ l. module_best c d u ∷ l) (bests_more c d w (suc u) ∙ rw e)

module _ {A : Type 0} (f : Best → A) (z : A) (c : ℕ) (d : Module) where
  pub bests_set : (w : ℕ) → w < width_max
      → set (padded width_max z (map f (bests_from c d w 1))) w (f (module_best c d (w + 1)))
      ≡ padded width_max z (map f (bests_from c d (w + 1) 1))
  bests_set w h =
      let n : length (map f (bests_from c d w 1)) ≡ w = length-map (bests_from c d w 1) f ∙ bests_length c d w 1 in
      let e : map f (bests_from c d (w + 1) 1) ≡ map f (bests_from c d w 1) ++ f (module_best c d (w + 1)) ∷ [] =
      rw (add-one w, bests_more c d w 1, map-append) (rw (add-one w))
      in
      rw e (rw n at (padded-set width_max z (f (module_best c d (w + 1))) (map f (bests_from c d w 1)) (rw n h)))

  pub bests_first : set (replicate width_max z) 0 (f (module_best c d 1)) ≡ padded width_max z (map f (bests_from c d 1 1))
  unfolding bests_from padded
  bests_first = refl

  pub bests_last : (w : ℕ) → 0 < w → w ≤ width_max → (y : A)
      → get_or (padded width_max z (map f (bests_from c d w 1))) (w - 1) y ≡ f (module_best c d w)
  unfolding padded
  bests_last zero h k y = let no : ⊥ = omega arith in absurd no
  bests_last (suc w) h k y =
      let n : length (map f (bests_from c d w 1)) ≡ w = length-map (bests_from c d w 1) f ∙ bests_length c d w 1 in
      let e : map f (bests_from c d (suc w) 1) ≡ map f (bests_from c d w 1) ++ f (module_best c d (suc w)) ∷ [] =
      rw (bests_more c d w 1, map-append) (rw (add-one w))
      in
      let m : suc w - 1 ≡ w = omega arith in
      rw (m, e, append_assoc) (get_or_at (map f (bests_from c d w 1)) (f (module_best c d (suc w))) _ y w n)
