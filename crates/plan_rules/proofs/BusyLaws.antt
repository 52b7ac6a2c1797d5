-- Laws of busy figures: of a placement that grows, of one bus among others, and how large they can be. Assumes nothing.
use Prim.Native.Nat.{ℕ, zero, suc, ◌+◌, ◌*◌, ◌≤◌, ◌<◌, max}
use mathlib.Core.Path.{◌≡◌, refl, ap, ◌∙◌}
use mathlib.Core.Bool.{Bool, true, false, cond}
use mathlib.Core.List.{List, [], ◌∷◌, ◌++◌}
use native.Mathlib.Omega.{arith}
use native.Mathlib.Nat.{add-zero}
use lib.ListN.{length, get_or, set, replicate}
use lib.Dec.{eqb}
use borrow.Author.Tests.{eq-eqb, ne_eqb}
use Rattle.plan_rules.specs.Plans.{busy_from, busies, largest}

-- the busy figures of a placement that is joined of two
module _ (t : ℕ → ℕ → ℕ) where
  pub busy-append : (i b w : ℕ) (xs ys : List ℕ) → busy_from t i b w (xs ++ ys) ≡ busy_from t i b w xs + busy_from t (i + length xs) b w ys
  unfolding busy_from
  busy-append i b w [] ys = let e : i + 0 ≡ i = omega arith in rw e (omega arith)
  busy-append i b w (x ∷ xs) ys =
      let e : i + suc (length xs) ≡ suc i + length xs = omega arith in
      rw e (omega (arith, busy-append (suc i) b w xs ys))

  pub largest_grows : (k : ℕ) (ws xs ys : List ℕ) → largest (busies t xs k ws) ≤ largest (busies t (xs ++ ys) k ws)
  unfolding busies largest
  largest_grows k [] xs ys = omega arith
  largest_grows k (w ∷ ws) xs ys = let h = largest_grows (suc k) ws xs ys in omega (arith, busy-append 0 k w xs ys)

  pub length-busies : (k : ℕ) (ws xs : List ℕ) → length (busies t xs k ws) ≡ length ws
  unfolding busies
  length-busies k [] xs = refl
  length-busies k (w ∷ ws) xs = ap suc (length-busies (suc k) ws xs)

  -- the busy figure of the bus that stands at place j
  pub busies-at : (bs : List ℕ) (k : ℕ) (ws : List ℕ) (j : ℕ) → j < length ws
      → get_or (busies t bs k ws) j 0 ≡ busy_from t 0 (k + j) (get_or ws j 0) bs
  unfolding busies
  busies-at bs k [] j h = absurd (omega arith)
  busies-at bs k (w ∷ ws) zero h = let e : k + 0 ≡ k = omega arith in rw e
  busies-at bs k (w ∷ ws) (suc j) h = let e : k + suc j ≡ suc k + j = omega arith in rw e (busies-at bs (suc k) ws j (omega arith))

  pub busies-none : (k : ℕ) (ws : List ℕ) → busies t [] k ws ≡ replicate (length ws) 0
  unfolding busies busy_from
  busies-none k [] = refl
  busies-none k (w ∷ ws) = ap (λ l. 0 ∷ l) (busies-none (suc k) ws)

  busy-same : (k w x : ℕ) (xs : List ℕ) → x ≡ k → busy_from t 0 k w (xs ++ x ∷ []) ≡ busy_from t 0 k w xs + t (length xs) w
  unfolding busy_from
  busy-same k w x xs e = let z : 0 + length xs ≡ length xs = omega arith in busy-append 0 k w xs (x ∷ []) ∙ rw (eq-eqb x k e, z, add-zero)

  busy_other : (k w x : ℕ) (xs : List ℕ) → (x ≡ k → ⊥) → busy_from t 0 k w (xs ++ x ∷ []) ≡ busy_from t 0 k w xs
  unfolding busy_from
  busy_other k w x xs n = busy-append 0 k w xs (x ∷ []) ∙ rw (ne_eqb x k n, add-zero (busy_from t 0 k w xs))

  -- a module on a bus before these buses
  busies_other : (k : ℕ) (ws xs : List ℕ) (x : ℕ) → x < k → busies t (xs ++ x ∷ []) k ws ≡ busies t xs k ws
  unfolding busies
  busies_other k [] xs x h = refl
  busies_other k (w ∷ ws) xs x h = rw (busy_other k w x xs (λ e. omega arith), busies_other (suc k) ws xs x (omega arith))

  -- one more module, on the bus that stands at place b
  pub busies-one : (k b : ℕ) (ws xs : List ℕ) (x : ℕ) → b < length ws → x ≡ k + b
      → busies t (xs ++ x ∷ []) k ws ≡ set (busies t xs k ws) b (get_or (busies t xs k ws) b 0 + t (length xs) (get_or ws b 0))
  unfolding busies
  busies-one k b [] xs x h e = absurd (omega arith)
  busies-one k zero (w ∷ ws) xs x h e = rw (busy-same k w x xs (omega arith), busies_other (suc k) ws xs x (omega arith))
  busies-one k (suc b) (w ∷ ws) xs x h e = rw (busy_other k w x xs (λ i. omega arith), busies-one (suc k) b ws xs x (omega arith) (omega arith))

  -- the time of a module is at most m
  module _ (m : ℕ) (h : (i w : ℕ) → t i w ≤ m) where
    one-most : (i w : ℕ) (c : Bool) → cond c (t i w) 0 ≤ m
    one-most i w true = h i w
    one-most i w false = omega arith

    busy-most : (i b w : ℕ) (xs : List ℕ) → busy_from t i b w xs ≤ length xs * m
    unfolding busy_from
    busy-most i b w [] = omega arith
    busy-most i b w (x ∷ xs) = let r = busy-most (suc i) b w xs in let o = one-most i w (eqb x b) in omega arith

    pub busies-most : (k b : ℕ) (ws xs : List ℕ) → get_or (busies t xs k ws) b 0 ≤ length xs * m
    unfolding busies
    busies-most k b [] xs = omega arith
    busies-most k zero (w ∷ ws) xs = busy-most 0 k w xs
    busies-most k (suc b) (w ∷ ws) xs = busies-most (suc k) b ws xs

pub largest-zeros : (n : ℕ) → largest (replicate n 0) ≡ 0
unfolding largest
largest-zeros zero = refl
largest-zeros (suc n) = rw (largest-zeros n)

pub largest-set : (l : List ℕ) (b v : ℕ) → b < length l → get_or l b 0 ≤ v → largest (set l b v) ≡ max (largest l) v
unfolding largest
largest-set [] b v h k = absurd (omega arith)
largest-set (x ∷ l) zero v h k = omega arith
largest-set (x ∷ l) (suc b) v h k = let r = largest-set l b v (omega arith) k in omega arith

-- none is above the largest
pub largest_le : (xs : List ℕ) (j : ℕ) → get_or xs j 0 ≤ largest xs
unfolding largest
largest_le [] j = omega arith
largest_le (x ∷ xs) zero = omega arith
largest_le (x ∷ xs) (suc j) = let t = largest_le xs j in omega arith

pub largest-append : (xs ys : List ℕ) → largest (xs ++ ys) ≡ max (largest xs) (largest ys)
unfolding largest
largest-append [] ys = omega arith
largest-append (x ∷ xs) ys = omega (arith, largest-append xs ys)
