-- Laws of the least figure over the widths 1 to w (`best_to`) and of a module's time and wires (`module_best`): the figure at its wires is
-- its time, no width up to w gives less, every smaller width gives more, and the time does not rise with the width. Assumes nothing.
use Prim.Native.Nat.{ℕ, zero, suc, ◌+◌, ◌*◌, ◌≤◌, ◌<◌, max}
use mathlib.Core.Path.{◌≡◌, refl}
use mathlib.Core.Bool.{Bool, true, false, cond, ◌&&◌, ◌||◌}
use mathlib.Core.List.{List, [], ◌∷◌}
use mathlib.Core.Logic.{⊎_elim}
use native.Mathlib.Omega.{arith}
use native.Mathlib.Nat.{one-mul, mul-le-mul_right, eq-or-lt_of_le}
use lib.Dec.{leb, ltb}
use lib.ListN.{length, get_or, drop}
use borrow.Author.Tests.{ltb-true, ltb-false, leb-true}
use Rattle.units.proofs.TestLaws.{clash}
use Rattle.soc.specs.Limits.{tests_max}
use Rattle.units.specs.Places.{all_of, any_of, filled}
use Rattle.soc.specs.Record.{no_test, tests_of}
use Rattle.soc.specs.Planned.{on_tam, is_planned}
use Rattle.soc.specs.Rules.{pins_rule, good_test, spare_test, good_tests}
use Rattle.soc.specs.declared.record.Test.{Test}
use Rattle.soc.specs.declared.record.Module.{Module}
use Rattle.wrapper_scans.specs.TestTimes.{scan_in, scan_out, test_cycles, test_time}
use Rattle.wrapper_times.specs.Times.{sum_times, figure, Best, best_to, module_best}

-- b is the least of the figures over the widths 1 to w, at the smallest width that gives it
record LeastAt (f : ℕ → ℕ) (w : ℕ) (b : Best) : Type 0 where
  at : f b.wires ≡ b.cycles
  low : 1 ≤ b.wires
  high : b.wires ≤ w
  least : (u : ℕ) → 1 ≤ u → u ≤ w → b.cycles ≤ f u
  first : (u : ℕ) → 1 ≤ u → u < b.wires → b.cycles < f u

-- what holds of each width up to w, and of the next, holds of each up to the next
up_to-next : (P : ℕ → Type 0) (w : ℕ) → ((u : ℕ) → 1 ≤ u → u ≤ w → P u) → P (suc w) → (u : ℕ) → 1 ≤ u → u ≤ suc w → P u
up_to-next P w all here u h k = ⊎_elim (λ e. rw e here) (λ l. all u h (omega arith)) (eq-or-lt_of_le k)

least_at : (f : ℕ → ℕ) (w : ℕ) → LeastAt f (suc w) (best_to f (suc w))
unfolding best_to
least_at f zero =
    record {
      at = refl;
      low = omega arith;
      high = omega arith;
      least = up_to-next (λ u. f 1 ≤ f u) 0 (λ u h k. absurd (omega arith)) (omega arith);
      first = λ u h k. absurd (omega arith);
    }
least_at f (suc w) = go (ltb (f (suc (suc w))) (best_to f (suc w)).cycles) refl (least_at f w)
  where
    go : (t : Bool) → ltb (f (suc (suc w))) (best_to f (suc w)).cycles ≡ t → LeastAt f (suc w) (best_to f (suc w))
        → LeastAt f (suc (suc w)) (cond t (record { cycles = f (suc (suc w)); wires = suc (suc w) }) (best_to f (suc w)))
    go true e b =
        record {
          at = refl;
          low = omega arith;
          high = omega arith;
          least = up_to-next (λ u. f (suc (suc w)) ≤ f u) (suc w) (λ u h k. omega (arith, ltb-true, b.least u h k)) (omega arith);
          first = λ u h k. omega (arith, ltb-true, b.least u h (omega arith));
        }
    go false e b =
        record {
          at = b.at;
          low = b.low;
          high = omega arith;
          least =
              up_to-next (λ u. (best_to f (suc w)).cycles ≤ f u) (suc w) b.least
              (ltb-false (f (suc (suc w))) (best_to f (suc w)).cycles e);
          first = b.first;
        }

least-from : (f : ℕ → ℕ) (w : ℕ) → 1 ≤ w → LeastAt f w (best_to f w)
least-from f zero h = absurd (omega arith)
least-from f (suc w) h = least_at f w

module _ (f : ℕ → ℕ) (w : ℕ) (h : 1 ≤ w) where
  pub best-at : f (best_to f w).wires ≡ (best_to f w).cycles
  best-at = (least-from f w h).at

  pub best-low : 1 ≤ (best_to f w).wires
  best-low = (least-from f w h).low

  pub best-high : (best_to f w).wires ≤ w
  best-high = (least-from f w h).high

  pub best-least : (u : ℕ) → 1 ≤ u → u ≤ w → (best_to f w).cycles ≤ f u
  best-least = (least-from f w h).least

  pub best-first : (u : ℕ) → 1 ≤ u → u < (best_to f w).wires → (best_to f w).cycles < f u
  best-first = (least-from f w h).first

pub best-falls : (f : ℕ → ℕ) (v w : ℕ) → 1 ≤ v → v ≤ w → (best_to f w).cycles ≤ (best_to f v).cycles
best-falls f v w h k =
    let n : 1 ≤ w = omega arith in
    let b : (best_to f v).wires ≤ w = omega (arith, best-high f v h) in
    rw (← best-at f v h) (best-least f w n (best_to f v).wires (best-low f v h) b)

-- "Its time on a bus of width w is the least figure over u = 1 to w, and its wires the smallest such u."
module _ (c : ℕ) (d : Module) (w : ℕ) (h : 1 ≤ w) where
  pub time-at : figure c d (module_best c d w).wires ≡ (module_best c d w).cycles
  unfolding module_best
  time-at = best-at (figure c d) w h

  pub time-wires : (1 ≤ (module_best c d w).wires) × ((module_best c d w).wires ≤ w)
  unfolding module_best
  time-wires = (best-low (figure c d) w h, best-high (figure c d) w h)

  pub time-least : (u : ℕ) → 1 ≤ u → u ≤ w → (module_best c d w).cycles ≤ figure c d u
  unfolding module_best
  time-least = best-least (figure c d) w h

  pub time-first : (u : ℕ) → 1 ≤ u → u < (module_best c d w).wires → (module_best c d w).cycles < figure c d u
  unfolding module_best
  time-first = best-first (figure c d) w h

pub time-falls : (c : ℕ) (d : Module) (v w : ℕ) → 1 ≤ v → v ≤ w → (module_best c d w).cycles ≤ (module_best c d v).cycles
unfolding module_best
time-falls c d v w h k = best-falls (figure c d) v w h k

and_left : (a b : Bool) → (a && b) ≡ true → a ≡ true
and_left true b e = refl
and_left false b e = e

and_right : (a b : Bool) → (a && b) ≡ true → b ≡ true
and_right true b e = e
and_right false b e = clash cc

-- a test takes at least as many cycles as it has patterns
cycles-patterns : (c si so p : ℕ) → 1 ≤ c → p ≤ test_cycles c si so p
unfolding test_cycles
cycles-patterns c si so p l = let one : 1 * p ≤ (c + max si so) * p = mul-le-mul_right p (omega arith) in omega (arith, one-mul p)

pub time-patterns : (c : ℕ) → 1 ≤ c → (d : Module) (k : ℕ) (t : Test) → t.patterns ≤ test_time c d k t
unfolding test_time
time-patterns c l d k t = cycles-patterns c (scan_in d t.scan_use k) (scan_out d t.scan_use k) t.patterns l

-- a test on the TAM with at least one pattern makes the sum at least 1
sum-least : (c : ℕ) → 1 ≤ c → (d : Module) (k : ℕ) (ts : List Test) → any_of on_tam ts ≡ true
    → ((i : ℕ) → i < length ts → 1 ≤ (get_or ts i no_test).patterns)
    → 1 ≤ sum_times c d k ts
unfolding sum_times any_of
sum-least c l d k [] e p = let z : ◌≡◌ {A = ℕ} 0 1 = cc in omega arith
sum-least c l d k (t ∷ ts) e p = go t.tam_use e (λ a. sum-least c l d k ts a (λ i h. p (suc i) (omega arith)))
  where
    go : (b : Bool) → (b || any_of on_tam ts) ≡ true → (any_of on_tam ts ≡ true → 1 ≤ sum_times c d k ts)
        → 1 ≤ cond b (test_time c d k t + sum_times c d k ts) (sum_times c d k ts)
    go true e f = omega (arith, time-patterns c l d k t, p 0 (omega arith))
    go false e f = f e

pub figure-least : (c : ℕ) → 1 ≤ c → (d : Module) (k : ℕ) → is_planned d ≡ true
    → ((i : ℕ) → i < length (tests_of d) → 1 ≤ (get_or (tests_of d) i no_test).patterns)
    → 1 ≤ figure c d k
unfolding figure is_planned
figure-least c l d k e p = sum-least c l d k (tests_of d) e p

-- "a planned module at least 1"
pub planned-least : (c : ℕ) → 1 ≤ c → (d : Module) (w : ℕ) → is_planned d ≡ true
    → ((i : ℕ) → i < length (tests_of d) → 1 ≤ (get_or (tests_of d) i no_test).patterns)
    → 1 ≤ w → 1 ≤ (module_best c d w).cycles
planned-least c l d w e p h = rw (← time-at c d w h) (figure-least c l d (module_best c d w).wires e p)

-- the tests of a good module have patterns
good-least : (m : ℕ) (power : Bool) (ts : List Test) (i : ℕ) → all_of (good_test m power) ts ≡ true → i < length ts
    → 1 ≤ (get_or ts i no_test).patterns
unfolding all_of good_test
good-least m power [] i e h = absurd (omega arith)
good-least m power (t ∷ ts) zero e h =
    let r = and_right (pins_rule m t.tam_use) _ (and_left (good_test m power t) (all_of (good_test m power) ts) e) in
    leb-true 1 t.patterns (and_left (leb 1 t.patterns) _ r)
good-least m power (t ∷ ts) (suc i) e h =
    good-least m power ts i (and_right (good_test m power t) (all_of (good_test m power) ts) e) (omega arith)

pub good-patterns : (m : ℕ) (power : Bool) (d : Module) → good_tests m power d ≡ true → (i : ℕ) → i < length (tests_of d)
    → 1 ≤ (get_or (tests_of d) i no_test).patterns
unfolding good_tests
good-patterns m power d e i h =
    good-least m power (tests_of d) i
    (and_left (all_of (good_test m power) (tests_of d)) (all_of spare_test (drop d.test_count d.tests))
    (and_right (leb d.test_count tests_max) (filled d.test_count (good_test m power) spare_test d.tests) e)) h

-- a module that is not planned takes no cycles, on one wire
sum-none : (c : ℕ) (d : Module) (k : ℕ) (ts : List Test) → any_of on_tam ts ≡ false → sum_times c d k ts ≡ 0
unfolding sum_times any_of
sum-none c d k [] e = refl
sum-none c d k (t ∷ ts) e = go t.tam_use e (λ a. sum-none c d k ts a)
  where
    go : (b : Bool) → (b || any_of on_tam ts) ≡ false → (any_of on_tam ts ≡ false → sum_times c d k ts ≡ 0)
        → cond b (test_time c d k t + sum_times c d k ts) (sum_times c d k ts) ≡ 0
    go true e f = let z : ◌≡◌ {A = ℕ} 0 1 = cc in omega arith
    go false e f = f e

pub figure-none : (c : ℕ) (d : Module) (k : ℕ) → is_planned d ≡ false → figure c d k ≡ 0
unfolding figure is_planned
figure-none c d k e = sum-none c d k (tests_of d) e

best_none : (f : ℕ → ℕ) (w : ℕ) → ((u : ℕ) → f u ≡ 0) → best_to f w ≡ record { cycles = 0; wires = 1 }
unfolding best_to
best_none f zero e = simp (e 1)
best_none f (suc zero) e = simp (e 1)
best_none f (suc (suc w)) e = simp (e (suc (suc w)), best_none f (suc w) e)

pub unplanned : (c : ℕ) (d : Module) (w : ℕ) → is_planned d ≡ false → 1 ≤ w → module_best c d w ≡ record { cycles = 0; wires = 1 }
unfolding module_best
unplanned c d w e h = best_none (figure c d) w (λ u. figure-none c d u e)
