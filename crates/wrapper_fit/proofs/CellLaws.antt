-- Cells over k wrapper chains, from the wrapper rule: the longest chain after n of them is the longest before, or the total shared out
-- evenly and rounded up, whichever is more. Assumes nothing.
use Prim.Native.Nat.{ℕ, zero, suc, ◌+◌, ◌*◌, ◌≤◌, ◌<◌, max}
use mathlib.Core.Path.{◌≡◌, refl, sym}
use mathlib.Core.Bool.{Bool, true, false}
use mathlib.Core.List.{List, [], ◌∷◌}
use mathlib.Core.Logic.{◌⊎◌, inl, inr, ⊎_elim}
use native.Mathlib.Omega.{arith}
use native.Mathlib.Nat.{suc-mul, mul-suc, mul_comm, mul-le-mul_left, div-eq_of_lt-le, div-lt_iff_lt-mul}
use lib.Dec.{leb}
use lib.ListN.{length, get_or}
use borrow.Author.Tests.{leb-true, leb-false}
use Rattle.wrapper_fit.specs.Fit.{longest, total, goes, placed, with_cells, longest_after}
use Rattle.wrapper_fit.specs.Cells.{ceil, evened}
use Rattle.wrapper_fit.proofs.FitLaws.{longest-set, none-fits, placed-length, cells_length, longest-placed, cells_longest}
use Rattle.wrapper_fit.proofs.FitLaws.{total-placed, total_cells}

-- k lengths of at most m are together at most k * m
total-within : (m : ℕ) (l : List ℕ) → longest l ≤ m → total l ≤ length l * m
unfolding longest total
total-within m [] h = omega arith
total-within m (x ∷ l) h = omega (arith, total-within m l (omega arith), suc-mul (length l) m)

-- k lengths of at least m are together at least k * m
total-over : (m : ℕ) (l : List ℕ) → ((j : ℕ) → j < length l → m ≤ get_or l j 0) → length l * m ≤ total l
unfolding total
total-over m [] h = omega arith
total-over m (x ∷ l) h = omega (arith, h 0 (omega arith), total-over m l (λ j k. h (suc j) (omega arith)), suc-mul (length l) m)

-- one cell leaves the longest as it is, or all are as long as the longest
one_cell : (l : List ℕ) → (longest (placed 1 l) ≤ longest l) ⊎ (length l * longest l ≤ total l)
unfolding placed
one_cell l = go (leb (get_or l (goes 1 l) 0 + 1) (longest l)) refl
  where
    go : (t : Bool) → leb (get_or l (goes 1 l) 0 + 1) (longest l) ≡ t → (longest (placed 1 l) ≤ longest l) ⊎ (length l * longest l ≤ total l)
    go true e =
        let h = leb-true (get_or l (goes 1 l) 0 + 1) (longest l) e in
        inl (omega (arith, h, longest-set l (goes 1 l) (get_or l (goes 1 l) 0 + 1)))
    go false e =
        let f = none-fits 1 l (leb-false (get_or l (goes 1 l) 0 + 1) (longest l) e) in
        inr (total-over (longest l) l (λ j k. omega (arith, f j k)))

-- n cells leave the longest as it is, or it is less than one more than an even share
cells_tight : (n : ℕ) (l : List ℕ) → 0 < length l
    → (longest (with_cells n l) ≤ longest l) ⊎ (length l * longest (with_cells n l) < total l + n + length l)
unfolding with_cells
cells_tight zero l h = inl (omega arith)
cells_tight (suc n) l h =
    ⊎_elim kept (λ a. inr (omega (arith, rw (placed-length 1 l, total-placed 1 l h) at a)))
    (cells_tight n (placed 1 l) (omega (arith, placed-length 1 l)))
  where
    r : ℕ
    r = longest (with_cells n (placed 1 l))

    kept : r ≤ longest (placed 1 l) → (r ≤ longest l) ⊎ (length l * r < total l + suc n + length l)
    kept a =
        let s : r ≤ suc (longest l) = omega (arith, longest-placed 1 l) in
        ⊎_elim
        (λ b. inl (omega arith))
        (λ b. inr (omega (arith, mul-le-mul_left (length l) s, mul-suc (length l) (longest l))))
        (one_cell l)

-- the least number that is at least m and k times which is at least t
evened_only : (m t k r : ℕ) → 0 < k → m ≤ r → t ≤ k * r → (r ≤ m) ⊎ (k * r < t + k) → r ≡ max m (ceil t k)
evened_only m t k r h a b =
    ⊎_elim
    (λ c. let s : ceil t k < suc r = (div-lt_iff_lt-mul h).1 (omega (arith, suc-mul r k, mul_comm r k)) in omega arith)
    (λ c.
    let s : ceil t k ≡ r = div-eq_of_lt-le k (omega (arith, mul_comm r k)) (omega (arith, suc-mul r k, mul_comm r k)) in
    omega arith)

-- "Placing n cells of length 1 over k chains gives the larger of the longest length before and the total length plus n, divided by k,
-- rounded up."
pub cells_evened : (n : ℕ) (l : List ℕ) → 0 < length l → longest_after n l ≡ evened (longest l) (total l) n (length l)
unfolding longest_after
cells_evened n l h =
    let w = rw (cells_length n l) at (total-within (longest (with_cells n l)) (with_cells n l) (omega arith)) in
    evened_only (longest l) (total l + n) (length l) (longest (with_cells n l)) h (cells_longest n l)
    (omega (arith, total_cells n l h, cells_length n l, w)) (cells_tight n l h)

-- so of k lengths it is enough to know the longest and the total
pub cells_known : (n k m t : ℕ) (l : List ℕ) → 0 < k → length l ≡ k → m ≡ longest l → t ≡ total l → evened m t n k ≡ longest_after n l
cells_known n k m t l h e a b = rw (a, b, ← e) (sym (cells_evened n l (omega arith)))
