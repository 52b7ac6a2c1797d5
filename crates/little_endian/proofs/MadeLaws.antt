-- Laws of rows that a closure reads or tests, which leaves what it holds as it is: an array made by its calls holds what is read at each place,
-- and a test of all of them is the definition's. Assumes nothing.
use Prim.Native.Nat.{ℕ, zero, suc, ◌+◌, ◌-◌, ◌*◌, ◌≤◌, ◌<◌}
use mathlib.Core.Path.{◌≡◌, refl, ap, sym, subst, fun_ext, ◌∙◌}
use mathlib.Core.Bool.{Bool, ◌&&◌, cond}
use mathlib.Core.List.{List, [], ◌∷◌, ◌++◌}
use native.Mathlib.Omega.{arith}
use native.Mathlib.Nat.{mul-suc}
use native.Mathlib.Numerals.{add-one}
use lib.ListN.{length, replicate, get_or, drop, drop_of_length-le}
use lib.Seq.{drop-cons}
use lib.Dec.{ltb}
use borrow.Author.Tests.{lt-ltb, le-ltb}
use Rattle.little_endian.proofs.RowLaws.{rows-length}
use denote.Param.Members.{Mut, Called}
use Rattle.std.specs.List.{FoldsTo, list_all, range_with_len}
use Rattle.std.specs.Iterator.{ActsAs}
use Rattle.std.specs.Array.{IsFromFnResult, IsFromFnResultFrom}
use Rattle.units.specs.Places.{all_of, padded}
use Rattle.little_endian.specs.Rows.{rows}

module _ {F A : Type 0} (g : Mut F (ℕ × Unit {0}) A) (f : F) (read : ℕ → A) (step from : ℕ) (acts : ActsAs g f (λ i. read (from + step * i))) where
  acts-at : (p : F) → p ≡ f → (i : ℕ) (y : A) (q : F) → Called g p (i, tt) y q → (q ≡ f) × (y ≡ read (from + step * i))
  acts-at p e i y q k = acts i y q (subst (λ (s : F). Called g s (i, tt) y q) e k)

  -- the calls so far
  pub calls-keep : (xs : List ℕ) (p q : F) → p ≡ f → FoldsTo (λ p x q. (y : A) × Called g p (x, tt) y q) p xs q → q ≡ f
  calls-keep [] p q e k = sym k ∙ e
  calls-keep (x ∷ xs) p q e k = calls-keep xs k.0 q (acts-at p e x k.1.0 k.0 k.1.1).0 k.2

  module _ (ys : List A) where
    made_from : (n i : ℕ) (p : F) → p ≡ f → length ys ≡ i + n → IsFromFnResultFrom g p ys i n → drop i ys ≡ rows read step n (from + step * i)
    unfolding rows
    made_from zero i p e l k = drop_of_length-le ys (omega arith)
    made_from (suc n) i p e l k =
        let a = acts-at p e i k.1 k.0 k.3 in
        let o : from + step * i + step ≡ from + step * (i + 1) = omega (arith, mul-suc step i) in
        let t : drop (i + 1) ys ≡ rows read step n (from + step * (i + 1)) = made_from n (i + 1) k.0 a.0 (omega arith) k.4 in
        let b : get_or ys i k.1 ≡ read (from + step * i) = k.2.0 ∙ a.1 in
        drop-cons ys i k.1 (omega arith) ∙ rw (o, b, ← add-one, t)

    pub made_rows : (n : ℕ) → IsFromFnResult g f ys n → ys ≡ rows read step n from
    made_rows n k =
        let o : from + step * 0 ≡ from = omega arith in
        rw o at (made_from n 0 f refl (omega (arith, k.long)) k.each)

-- the first n read, and behind them what stands for nothing
module _ {A : Type 0} (read : ℕ → A) (z : A) (step from n : ℕ) where
  abbrev pub place : ℕ → A
  place i = cond (ltb i n) (read (from + step * i)) z

  places-behind : (k i : ℕ) → n ≤ i → rows place 1 k i ≡ replicate k z
  unfolding rows
  places-behind zero i h = refl
  places-behind (suc k) i h = simp (le-ltb i n h) (ap (λ l. z ∷ l) (places-behind k (i + 1) (omega arith)))

  places-from : (m k i : ℕ) → n ≡ i + m → rows place 1 (m + k) i ≡ rows read step m (from + step * i) ++ replicate k z
  unfolding rows
  places-from zero k i h = let e : 0 + k ≡ k = omega arith in rw e (places-behind k i (omega arith))
  places-from (suc m) k i h =
      let e : suc m + k ≡ suc (m + k) = omega arith in
      let o : from + step * i + step ≡ from + step * (i + 1) = omega (arith, mul-suc step i) in
      let l : i < n = omega arith in
      rw (e, lt-ltb i n l, o) (ap (λ t. read (from + step * i) ∷ t) (places-from m k (i + 1) (omega arith)))

  pub padded-rows : (k : ℕ) → n ≤ k → rows place 1 k 0 ≡ padded k z (rows read step n from)
  unfolding padded
  padded-rows k h =
      let e : n + (k - n) ≡ k = omega arith in
      let o : from + step * 0 ≡ from = omega arith in
      rw (rows-length read step n from) (rw (e, o) at (places-from n (k - n) 0 (omega arith)))

module _ {F A : Type 0} (g : Mut F (ℕ × Unit {0}) A) (f : F) (read : ℕ → A) (z : A) (step from n : ℕ) (acts : ActsAs g f (place read z step from n)) where
  pub made_padded : (ys : List A) (k : ℕ) → n ≤ k → IsFromFnResult g f ys k → ys ≡ padded k z (rows read step n from)
  made_padded ys k h m =
      made_rows g f (place read z step from n) 1 0 (λ i y q c. let e : 0 + 1 * i ≡ i = omega arith in rw e (acts i y q c)) ys k m
      ∙ padded-rows read z step from n k h

-- the same from the front on
pub made_front : {F A : Type 0} (g : Mut F (ℕ × Unit {0}) A) (f : F) (read : ℕ → A) (z : A) (step n : ℕ) → ActsAs g f (λ i. cond (ltb i n) (read (step * i)) z)
    → (ys : List A) (k : ℕ) → n ≤ k → IsFromFnResult g f ys k → ys ≡ padded k z (rows read step n 0)
made_front g f read z step n acts =
    made_padded g f read z step 0 n (λ i y q c. let e : 0 + step * i ≡ step * i = omega arith in rw e (acts i y q c))

module _ (p : ℕ → Bool) (step from : ℕ) where
  tested_from : (n i : ℕ) → list_all (λ j. p (from + step * j)) (range_with_len i n) ≡ all_of p (rows (λ a. a) step n (from + step * i))
  unfolding rows all_of
  tested_from zero i = refl
  tested_from (suc n) i =
      let o : from + step * i + step ≡ from + step * (i + 1) = omega (arith, mul-suc step i) in
      ap (λ t. p (from + step * i) && t) (tested_from n (i + 1)) ∙ rw o

  -- every one of n rows
  pub tested_rows : (n : ℕ) → list_all (λ j. p (from + step * j)) (range_with_len 0 n) ≡ all_of p (rows (λ a. a) step n from)
  tested_rows n = let o : from + step * 0 ≡ from = omega arith in rw o at (tested_from n 0)

pub tested_front : (p : ℕ → Bool) (step n : ℕ) → list_all (λ j. p (step * j)) (range_with_len 0 n) ≡ all_of p (rows (λ a. a) step n 0)
tested_front p step n = ap (λ h. list_all h (range_with_len 0 n)) (fun_ext (λ j. let e : step * j ≡ 0 + step * j = omega arith in ap p e)) ∙ tested_rows p step 0 n
