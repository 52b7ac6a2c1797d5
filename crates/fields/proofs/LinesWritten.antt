-- Laws of written lines: those of two lists one behind the other, and of a text to which each element of a list adds its own. Assumes nothing.
use Prim.Native.Nat.{ℕ, ◌+◌, ◌-◌, ◌≤◌, ◌<◌}
use mathlib.Core.Path.{◌≡◌, refl, sym, ap, ◌∙◌}
use mathlib.Core.List.{List, [], ◌∷◌, ◌++◌, append_assoc}
use native.Mathlib.Omega.{arith}
use native.Mathlib.Numerals.{add-one}
use lib.ListN.{length, get_or, take, length-append}
use lib.Seq.{take-suc, take-add}
use Rattle.fields.specs.Bytes.{lf}
use Rattle.fields.specs.WrittenLines.{joined, written_lines}

pub written-append : (xs ys : List (List (List ℕ))) → written_lines (xs ++ ys) ≡ written_lines xs ++ written_lines ys
unfolding written_lines
written-append [] ys = refl
written-append (l ∷ xs) ys = ap (λ t. joined l ++ lf ∷ t) (written-append xs ys) ∙ sym (append_assoc (joined l) (lf ∷ written_lines xs) (written_lines ys))

-- a text of a list, to which more elements add text at the end: what those add behind xs is more xs
module _ {A : Type 0} (text : List A → List ℕ) (more : List A → List A → List ℕ) (adds : (xs ys : List A) → text (xs ++ ys) ≡ text xs ++ more xs ys) where
  pub front_fits : (k n : ℕ) (l : List A) → k ≤ n → length (text (take k l)) ≤ length (text (take n l))
  front_fits k n l h =
      let e : n ≡ k + (n - k) = omega arith in
      rw (e, take-add k (n - k) l, adds, length-append) (omega arith)

  pub front-more : (k : ℕ) (l : List A) (z : A) → k < length l → text (take (k + 1) l) ≡ text (take k l) ++ more (take k l) (get_or l k z ∷ [])
  front-more k l z h = rw (add-one, take-suc l k z, adds)
