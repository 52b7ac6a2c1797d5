-- Laws of the places of an array: of every element and some element (`all_of`, `any_of`) as a loop walks them, and of what is filled from the
-- front (`padded`). Each is one law over any type of elements. Assumes nothing.
use Prim.Native.Nat.{ℕ, zero, suc, ◌+◌, ◌-◌, ◌≤◌, ◌<◌}
use mathlib.Core.Path.{◌≡◌, refl}
use mathlib.Core.Bool.{Bool, true, false}
use mathlib.Core.List.{List, [], ◌∷◌, ◌++◌, append_assoc}
use mathlib.Core.Logic.{◌⊎◌, inl, inr}
use native.Mathlib.Omega.{arith}
use native.Mathlib.Numerals.{add-one}
use lib.ListN.{length, get_or, take, drop, set, replicate, length-take, length-append, length-replicate, drop_of_length-le}
use lib.Seq.{drop-cons, get_or-take, take-append_seam, drop-append_seam, set-append_seam}
use Rattle.units.specs.Places.{all_of, any_of, padded}

pub all_step : {A : Type 0} (p : A → Bool) (l : List A) (i : ℕ) (d : A) → i < length l → p (get_or l i d) ≡ true → all_of p (drop i l) ≡ all_of p (drop (i + 1) l)
unfolding all_of
all_step p l i d h e = rw (add-one, drop-cons l i d) (simp e)

pub all_fails : {A : Type 0} (p : A → Bool) (l : List A) (i : ℕ) (d : A) → i < length l → p (get_or l i d) ≡ false → all_of p (drop i l) ≡ false
unfolding all_of
all_fails p l i d h e = rw (drop-cons l i d) (simp e)

pub all_end : {A : Type 0} (p : A → Bool) (l : List A) (i : ℕ) → length l ≤ i → all_of p (drop i l) ≡ true
unfolding all_of
all_end p l i h = rw (drop_of_length-le l h)

-- the same of the first n places of an array
pub front-has : {A : Type 0} (n : ℕ) (l : List A) (i : ℕ) → i < n → i < length l → i < length (take n l)
front-has n l i h k = simp length-take (omega arith)

pub front_ends : {A : Type 0} (n : ℕ) (l : List A) (i : ℕ) → (n ≤ i) ⊎ (length l ≤ i) → length (take n l) ≤ i
front_ends n l i (inl h) = simp length-take (omega arith)
front_ends n l i (inr h) = simp length-take (omega arith)

pub all-front_step : {A : Type 0} (p : A → Bool) (n : ℕ) (l : List A) (i : ℕ) (d : A) → i < n → i < length l → p (get_or l i d) ≡ true → all_of p (drop i (take n l)) ≡ all_of p (drop (i + 1) (take n l))
all-front_step p n l i d h k e = all_step p (take n l) i d (front-has n l i h k) (rw get_or-take e)

pub all-front_fails : {A : Type 0} (p : A → Bool) (n : ℕ) (l : List A) (i : ℕ) (d : A) → i < n → i < length l → p (get_or l i d) ≡ false → all_of p (drop i (take n l)) ≡ false
all-front_fails p n l i d h k e = all_fails p (take n l) i d (front-has n l i h k) (rw get_or-take e)

pub all-front-end : {A : Type 0} (p : A → Bool) (n : ℕ) (l : List A) (i : ℕ) → (n ≤ i) ⊎ (length l ≤ i) → all_of p (drop i (take n l)) ≡ true
all-front-end p n l i h = all_end p (take n l) i (front_ends n l i h)

pub all_replicate : {A : Type 0} (p : A → Bool) (n : ℕ) (z : A) → p z ≡ true → all_of p (replicate n z) ≡ true
unfolding all_of
all_replicate p zero z e = refl
all_replicate p (suc n) z e = simp (e, all_replicate p n z e)

pub any_step : {A : Type 0} (p : A → Bool) (l : List A) (i : ℕ) (d : A) → i < length l → p (get_or l i d) ≡ false → any_of p (drop i l) ≡ any_of p (drop (i + 1) l)
unfolding any_of
any_step p l i d h e = rw (add-one, drop-cons l i d) (simp e)

pub any_found : {A : Type 0} (p : A → Bool) (l : List A) (i : ℕ) (d : A) → i < length l → p (get_or l i d) ≡ true → any_of p (drop i l) ≡ true
unfolding any_of
any_found p l i d h e = rw (drop-cons l i d) (simp e)

pub any_end : {A : Type 0} (p : A → Bool) (l : List A) (i : ℕ) → length l ≤ i → any_of p (drop i l) ≡ false
unfolding any_of
any_end p l i h = rw (drop_of_length-le l h)

pub any_front_step : {A : Type 0} (p : A → Bool) (n : ℕ) (l : List A) (i : ℕ) (d : A) → i < n → i < length l → p (get_or l i d) ≡ false → any_of p (drop i (take n l)) ≡ any_of p (drop (i + 1) (take n l))
any_front_step p n l i d h k e = any_step p (take n l) i d (front-has n l i h k) (rw get_or-take e)

pub any_front_found : {A : Type 0} (p : A → Bool) (n : ℕ) (l : List A) (i : ℕ) (d : A) → i < n → i < length l → p (get_or l i d) ≡ true → any_of p (drop i (take n l)) ≡ true
any_front_found p n l i d h k e = any_found p (take n l) i d (front-has n l i h k) (rw get_or-take e)

pub any_front_end : {A : Type 0} (p : A → Bool) (n : ℕ) (l : List A) (i : ℕ) → (n ≤ i) ⊎ (length l ≤ i) → any_of p (drop i (take n l)) ≡ false
any_front_end p n l i h = any_end p (take n l) i (front_ends n l i h)

pub padded-none : {A : Type 0} (n : ℕ) (z : A) → padded n z [] ≡ replicate n z
unfolding padded
padded-none n z = let e : n - 0 ≡ n = omega arith in rw e

pub padded-length : {A : Type 0} (n : ℕ) (z : A) (xs : List A) → length xs ≤ n → length (padded n z xs) ≡ n
unfolding padded
padded-length n z xs h = simp (length-append, length-replicate) (omega arith)

pub padded-take : {A : Type 0} (n : ℕ) (z : A) (xs : List A) → take (length xs) (padded n z xs) ≡ xs
unfolding padded
padded-take n z xs = take-append_seam xs (replicate (n - length xs) z)

pub padded-drop : {A : Type 0} (n : ℕ) (z : A) (xs : List A) → drop (length xs) (padded n z xs) ≡ replicate (n - length xs) z
unfolding padded
padded-drop n z xs = drop-append_seam xs (replicate (n - length xs) z)

pub padded-set : {A : Type 0} (n : ℕ) (z v : A) (xs : List A) → length xs < n → set (padded n z xs) (length xs) v ≡ padded n z (xs ++ v ∷ [])
unfolding padded
padded-set n z v xs h =
    let e : n - length xs ≡ suc (n - (length xs + 1)) = omega arith in
    rw (e, set-append_seam, length-append, append_assoc)

-- a spare place holds what stands for nothing
spare-behind : {A : Type 0} (z : A) (xs : List A) (m i : ℕ) → get_or (xs ++ replicate m z) i z ≡ get_or xs i z
spare-behind z [] zero i = refl
spare-behind z [] (suc m) zero = refl
spare-behind z [] (suc m) (suc i) = spare-behind z [] m i
spare-behind z (x ∷ xs) m zero = refl
spare-behind z (x ∷ xs) m (suc i) = spare-behind z xs m i

pub padded-at : {A : Type 0} (n : ℕ) (z : A) (xs : List A) (i : ℕ) → get_or (padded n z xs) i z ≡ get_or xs i z
unfolding padded
padded-at n z xs i = spare-behind z xs (n - length xs) i
