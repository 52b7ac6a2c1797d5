-- Laws of `least_all`, for any key and any list. Assumes nothing.
use Prim.Native.Nat.{ℕ, ◌≤◌, min}
use mathlib.Core.Path.{◌≡◌, refl, ap}
use mathlib.Core.Logic.{⊎_elim}
use mathlib.Core.List.Memᴰ
use mathlib.Core.List.{List, [], ◌∷◌, ◌++◌, Memᴰ}
use native.Mathlib.Omega.{arith}
use Rattle.plan_rules.specs.Least.{least_all}

module _ {A : Type 0} (key : A → ℕ) where
  -- a list may be looked at in two stretches
  pub all_append : (t : ℕ) (xs ys : List A) → least_all key t (xs ++ ys) ≡ least_all key (least_all key t xs) ys
  unfolding least_all
  all_append t [] ys = refl
  all_append t (x ∷ xs) ys = all_append (min t (key x)) xs ys

  -- it is at most what it was
  pub all_le : (t : ℕ) (xs : List A) → least_all key t xs ≤ t
  unfolding least_all
  all_le t [] = omega arith
  all_le t (x ∷ xs) = omega (arith, all_le (min t (key x)) xs)

  -- and at most every element's
  pub all_in : (t : ℕ) (xs : List A) (x : A) → Memᴰ x xs → least_all key t xs ≤ key x
  unfolding least_all
  all_in t [] x m = absurd (Memᴰ.not-nil m)
  all_in t (y ∷ ys) x m = ⊎_elim (λ e. omega (arith, all_le (min t (key y)) ys, ap key e)) (all_in (min t (key y)) ys x) (Memᴰ.cases_cons m)

  -- and at least what all these are at least
  pub all_ge : (t s : ℕ) (xs : List A) → s ≤ t → ((x : A) → Memᴰ x xs → s ≤ key x) → s ≤ least_all key t xs
  unfolding least_all
  all_ge t s [] h k = h
  all_ge t s (x ∷ xs) h k = all_ge (min t (key x)) s xs (omega (arith, k x (Memᴰ.head refl))) (λ y m. k y (Memᴰ.tail m))

  -- from a lower time it is the smaller of that and of what it was
  pub all-lower : (t s : ℕ) (xs : List A) → t ≤ s → least_all key t xs ≡ min t (least_all key s xs)
  unfolding least_all
  all-lower t s [] h = omega arith
  all-lower t s (x ∷ xs) h = omega (arith, all-lower (min t (key x)) (min s (key x)) xs (omega arith), all_le (min s (key x)) xs)

-- two lists of which each has, for every element of the other, one that is as small
pub all_same : {A B : Type 0} (f : A → ℕ) (g : B → ℕ) (t : ℕ) (xs : List A) (ys : List B)
    → ((x : A) → Memᴰ x xs → (y : B) × Memᴰ y ys × (g y ≤ f x))
    → ((y : B) → Memᴰ y ys → (x : A) × Memᴰ x xs × (f x ≤ g y))
    → least_all f t xs ≡ least_all g t ys
all_same f g t xs ys there back =
    let a : least_all g t ys ≤ least_all f t xs = all_ge f t (least_all g t ys) xs (all_le g t ys) (λ x m. let u = there x m in omega (arith, all_in g t ys u.0 u.1, u.2)) in
    let b : least_all f t xs ≤ least_all g t ys = all_ge g t (least_all f t xs) ys (all_le f t xs) (λ y m. let u = back y m in omega (arith, all_in f t xs u.0 u.1, u.2)) in
    omega arith
