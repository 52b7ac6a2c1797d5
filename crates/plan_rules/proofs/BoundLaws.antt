-- Lower bounds of the time of a plan (document 02, item 10: "the least time is at least every planned module's time on a bus of W wires,
-- and B times it is at least the sum of those"), of every plan, where times do not rise with the width; and the wires times the time are
-- at least the areas of the modules together, whatever the times. Assumes nothing.
use Prim.Native.Nat.{ℕ, zero, suc, ◌*◌, ◌≤◌, ◌<◌}
use mathlib.Core.Path.{◌≡◌}
use mathlib.Core.Logic.{⊎_elim}
use mathlib.Core.List.{List, [], ◌∷◌}
use native.Mathlib.Omega.{arith}
use native.Mathlib.Nat.{eq-or-lt_of_le, mul-le-mul_right, min-le_left}
use lib.ListN.{length, get_or}
use Rattle.plan_rules.specs.Plans.{Plan, IsPlan, sum, time_of}
use Rattle.plan_rules.specs.Bounds.{total, smallest, area_of, IsSmallest}
use Rattle.plan_rules.proofs.SkipLaws.{lower_single, lower_shared, lower_area}

-- `smallest` is at most each and is one of them
module _ (f : ℕ → ℕ) where
  smallest_le : (w u : ℕ) → 1 ≤ u → u ≤ w → smallest f w ≤ f u
  unfolding smallest
  smallest_le zero u l h = absurd (omega arith)
  smallest_le (suc w) u l h = ⊎_elim (λ e. rw e (omega arith)) (λ k. omega (arith, smallest_le w u l (omega arith))) (eq-or-lt_of_le h)

  smallest-at : (w : ℕ) → (u : ℕ) × (1 ≤ u) × (u ≤ suc w) × (f u ≡ smallest f (suc w))
  unfolding smallest
  smallest-at zero = (1, omega arith, omega arith, omega arith)
  smallest-at (suc w) =
      let r = smallest-at w in
      ⊎_elim
      (λ e. (r.0, r.1, omega (arith, r.2), omega (arith, r.3)))
      (λ l. (suc (suc w), omega arith, omega arith, omega arith))
      (eq-or-lt_of_le (min-le_left (smallest f (suc w)) (f (suc (suc w)))))

  pub smallest-is : (w : ℕ) → 1 ≤ w → IsSmallest f w (smallest f w)
  smallest-is zero h = absurd (omega arith)
  smallest-is (suc w) h =
      let r = smallest-at w in
      record { at = r.0; low = r.1; high = r.2; is = r.3; least = smallest_le (suc w) }

-- a bus is at most as wide as all of them
pub width-most : (ws : List ℕ) (j : ℕ) → get_or ws j 0 ≤ sum ws
unfolding sum
width-most [] j = omega arith
width-most (w ∷ ws) zero = omega arith
width-most (w ∷ ws) (suc j) = omega (arith, width-most ws j)

-- the buses of a plan have 1 to W wires
pub width_in : {W B n : ℕ} {p : Plan} → IsPlan W B n p → (j : ℕ) → j < length p.widths
    → (1 ≤ get_or p.widths j 0) × (get_or p.widths j 0 ≤ W)
width_in {p = p} r j h = (r.wide j h, omega (arith, width-most p.widths j, r.wires))

module _ (time : ℕ → ℕ → ℕ) {W B n : ℕ} {p : Plan} (r : IsPlan W B n p) where
  -- times that do not rise with the width
  module _ (falls : (i v w : ℕ) → i < n → 1 ≤ v → v ≤ w → w ≤ W → time i w ≤ time i v) where
    all-wires : (i j : ℕ) → i < n → j < length p.widths → time i W ≤ time i (get_or p.widths j 0)
    all-wires i j h k = let v = width_in r j k in falls i (get_or p.widths j 0) W h v.0 v.1 (omega arith)

    -- no plan takes less than a module does on all the wires
    pub plan_single : (i : ℕ) → i < n → time i W ≤ time_of time p
    plan_single i h =
        lower_single time p i (time i W) (omega (arith, r.placed)) (r.low i h) (r.high i h) (λ j k. all-wires i j h k)

    -- nor, on as many buses as there may be, less than all modules do there together
    pub plan_shared : total n 0 (λ i. time i W) ≤ B * time_of time p
    plan_shared =
        let e : length p.buses ≡ n = r.placed in
        let s = rw e at (lower_shared time p (λ i. time i W) (λ i h. r.low i (omega arith)) (λ i h. r.high i (omega arith))
        (λ i j h k. all-wires i j (omega arith) k)) in
        omega (arith, s, mul-le-mul_right (time_of time p) r.limit)

  -- nor, on all the wires, less than the areas of all modules together
  pub plan_area : total n 0 (area_of time W) ≤ W * time_of time p
  plan_area =
      let e : length p.buses ≡ n = r.placed in
      let s = rw e at (lower_area time p (area_of time W) (λ i h. r.low i (omega arith)) (λ i h. r.high i (omega arith))
      (λ i j h k. let v = width_in r j k in smallest_le (λ w. w * time i w) W (get_or p.widths j 0) v.0 v.1)) in
      rw r.wires at s
