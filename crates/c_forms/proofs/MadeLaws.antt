-- Laws of rows that a closure reads or tests, which leaves what it holds as it is: an array made by its calls holds what is read at each place,
-- and a test of all of them is the definition's. Assumes nothing.
use Prim.Native.Nat.{ℕ, zero, suc, ◌+◌, ◌*◌}
use mathlib.Core.Path.{◌≡◌, refl, ap, sym, subst, ◌∙◌}
use mathlib.Core.Bool.{Bool, ◌&&◌}
use mathlib.Core.List.{List, [], ◌∷◌}
use native.Mathlib.Omega.{arith}
use native.Mathlib.Nat.{mul-suc}
use native.Mathlib.Numerals.{add-one}
use lib.ListN.{length, get_or, drop, drop_of_length-le}
use lib.Seq.{drop-cons}
use denote.Param.Members.{Mut, Called}
use Rattle.std.specs.List.{FoldsTo, list_all, range_with_len}
use Rattle.std.specs.Iterator.{ActsAs}
use Rattle.std.specs.Array.{IsFromFnResult, IsFromFnResultFrom}
use Rattle.units.specs.Places.{all_of}
use Rattle.little_endian.specs.Rows.{rows}

module _ {F A : Type 0} (g : Mut F (ℕ × Unit {0}) A) (f : F) (read : ℕ → A) (step from : ℕ) (acts : ActsAs g f (λ i. read (from + step * i))) where
  acts-at : (p : F) → p ≡ f → (i : ℕ) (y : A) (q : F) → Called g p (i, tt) y q → (q ≡ f) × (y ≡ read (from + step * i))
  acts-at p e i y q k = acts i y q (subst (λ (s : F). Called g s (i, tt) y q) e k)

  -- the calls so far
  pub calls-keep : (xs : List ℕ) (p q : F) → p ≡ f → FoldsTo (λ p x q. (y : A) × Called g p (x, tt) y q) p xs q → q ≡ f
  calls-keep [] p q e k = sym k ∙ e
  calls-keep (x ∷ xs) p q e k = calls-keep xs k.0 q (acts-at p e x k.1.0 k.0 k.1.1).0 k.2

  module _ (ys : List A) where
    made_from : (n i : ℕ) (p : F) → p ≡ f → length ys ≡ i + n → IsFromFnResultFrom g p ys i n → drop i ys ≡ rows read step n (from + step * i)
    unfolding rows
    made_from zero i p e l k = drop_of_length-le ys (omega arith)
    made_from (suc n) i p e l k =
        let a = acts-at p e i k.1 k.0 k.3 in
        let o : from + step * i + step ≡ from + step * (i + 1) = omega (arith, mul-suc step i) in
        let t : drop (i + 1) ys ≡ rows read step n (from + step * (i + 1)) = made_from n (i + 1) k.0 a.0 (omega arith) k.4 in
        let b : get_or ys i k.1 ≡ read (from + step * i) = k.2.0 ∙ a.1 in
        drop-cons ys i k.1 (omega arith) ∙ rw (o, b, ← add-one, t)

    pub made_rows : (n : ℕ) → IsFromFnResult g f ys n → ys ≡ rows read step n from
    made_rows n k =
        let o : from + step * 0 ≡ from = omega arith in
        rw o at (made_from n 0 f refl (omega (arith, k.long)) k.each)

module _ (p : ℕ → Bool) (step from : ℕ) where
  tested_from : (n i : ℕ) → list_all (λ j. p (from + step * j)) (range_with_len i n) ≡ all_of p (rows (λ a. a) step n (from + step * i))
  unfolding rows all_of
  tested_from zero i = refl
  tested_from (suc n) i =
      let o : from + step * i + step ≡ from + step * (i + 1) = omega (arith, mul-suc step i) in
      ap (λ t. p (from + step * i) && t) (tested_from n (i + 1)) ∙ rw o

  -- every one of n rows
  pub tested_rows : (n : ℕ) → list_all (λ j. p (from + step * j)) (range_with_len 0 n) ≡ all_of p (rows (λ a. a) step n from)
  tested_rows n = let o : from + step * 0 ≡ from = omega arith in rw o at (tested_from n 0)
