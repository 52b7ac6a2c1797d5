-- Laws of lists of anything: what stands in `upward`, and lists in which every element stands in a relation to every later one. Assumes
-- nothing.
use Prim.Native.Nat.{ℕ, zero, suc, ◌+◌, ◌≤◌, ◌<◌}
use mathlib.Core.Path.{◌≡◌, refl, subst}
use mathlib.Core.Logic.{◌⊎◌, inl, inr, ⊎_elim}
use mathlib.Core.List.Memᴰ
use mathlib.Core.List.{List, [], ◌∷◌, ◌++◌, map, Memᴰ}
use native.Mathlib.Omega.{arith}
use native.Mathlib.Nat.{eq-or-lt_of_le}
use Rattle.plan_rules.specs.Listed.{upward}

-- what f gives at some number from i on stands in `upward n i f`
pub upward_in : {A : Type 0} (n i : ℕ) (f : ℕ → List A) (j : ℕ) (a : A) → i ≤ j → j < i + n → Memᴰ a (f j) → Memᴰ a (upward n i f)
unfolding upward
upward_in zero i f j a h k m = absurd (omega arith)
upward_in (suc n) i f j a h k m = pick (upward_in n (suc i) f j a) (eq-or-lt_of_le h)
  where
    pick : (suc i ≤ j → j < suc i + n → Memᴰ a (f j) → Memᴰ a (upward n (suc i) f)) → (i ≡ j) ⊎ (i < j)
        → Memᴰ a (f i ++ upward n (suc i) f)
    pick ih (inl e) = Memᴰ.append_left {s = f i} (upward n (suc i) f) (rw e m)
    pick ih (inr l) = Memᴰ.append_right (f i) (ih l (omega arith) m)

-- and nothing else does
pub upward_of : {A : Type 0} (n i : ℕ) (f : ℕ → List A) (a : A) → Memᴰ a (upward n i f)
    → (j : ℕ) × (i ≤ j) × (j < i + n) × Memᴰ a (f j)
unfolding upward
upward_of zero i f a m = absurd (Memᴰ.not-nil m)
upward_of {A} (suc n) i f a m = pick (upward_of n (suc i) f a) (Memᴰ.append_cases (f i) m)
  where
    pick : (Memᴰ a (upward n (suc i) f) → (j : ℕ) × (suc i ≤ j) × (j < suc i + n) × Memᴰ a (f j))
        → Memᴰ a (f i) ⊎ Memᴰ a (upward n (suc i) f)
        → (j : ℕ) × (i ≤ j) × (j < i + suc n) × Memᴰ a (f j)
    pick ih (inl l) = (i, omega arith, omega arith, l)
    pick ih (inr r) = let s = ih r in (s.0, omega (arith, s.1), omega (arith, s.2), s.3)

-- every element stands in R to every later one
pub data Sorted {A : Type 0} (R : A → A → Type 0) : List A → Type 0 where
  none : Sorted R []
  more : {x : A} {xs : List A} → ((y : A) → Memᴰ y xs → R x y) → Sorted R xs → Sorted R (x ∷ xs)

module _ {A : Type 0} (R : A → A → Type 0) where
  pub append_sorted : (xs ys : List A) → Sorted R xs → Sorted R ys → ((x y : A) → Memᴰ x xs → Memᴰ y ys → R x y)
      → Sorted R (xs ++ ys)
  append_sorted [] ys none t c = t
  append_sorted (x ∷ xs) ys (more h s) t c =
      more (λ y m. ⊎_elim (h y) (c x y (Memᴰ.head refl)) (Memᴰ.append_cases xs m))
      (append_sorted xs ys s t (λ a b m. c a b (Memᴰ.tail m)))

  pub upward_sorted : (n i : ℕ) (f : ℕ → List A) → ((j : ℕ) → Sorted R (f j))
      → ((j k : ℕ) → j < k → (x y : A) → Memᴰ x (f j) → Memᴰ y (f k) → R x y) → Sorted R (upward n i f)
  unfolding upward
  upward_sorted zero i f s c = none
  upward_sorted (suc n) i f s c =
      append_sorted (f i) (upward n (suc i) f) (s i) (upward_sorted n (suc i) f s c)
      (λ x y m r. let u = upward_of n (suc i) f y r in c i u.0 u.1 x y m u.3)

pub map_sorted : {A B : Type 0} (R : A → A → Type 0) (S : B → B → Type 0) (f : A → B) → ((x y : A) → R x y → S (f x) (f y)) → (xs : List A)
    → Sorted R xs → Sorted S (map f xs)
map_sorted R S f c [] none = none
map_sorted R S f c (x ∷ xs) (more h s) =
    more (λ y m. let u = Memᴰ.of_map f xs m in subst (S (f x)) u.2 (c x u.0 (h u.0 u.1))) (map_sorted R S f c xs s)
