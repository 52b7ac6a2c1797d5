-- Laws of bytes: the library's equality of two parts is that of the definition. Assumes nothing.
use Prim.Native.Nat.{ℕ, ◌≤◌}
use mathlib.Core.Path.{◌≡◌, refl, ap, ◌∙◌}
use mathlib.Core.Bool.{Bool, ◌&&◌}
use mathlib.Core.List.{List, [], ◌∷◌}
use lib.ListN.{length, take}
use lib.Dec.{eqb}
use Rattle.std.proofs.lemmas.List.{take_all}
use Rattle.std.specs.Str.{bytes_eq}
use Rattle.fields.specs.Bytes.{same_bytes}

same : (a b : List ℕ) → bytes_eq a b ≡ same_bytes a b
unfolding same_bytes
same [] [] = refl
same [] (y ∷ b) = refl
same (x ∷ a) [] = refl
same (x ∷ a) (y ∷ b) = ap (λ t. eqb x y && t) (same a b)

pub same_is : (a b : List ℕ) (t : Bool) → t ≡ bytes_eq a b → t ≡ same_bytes a b
same_is a b t h = h ∙ same a b

-- the same of a front that is all of b
pub same_front : (a b : List ℕ) (n : ℕ) (t : Bool) → length b ≤ n → t ≡ bytes_eq a (take n b) → t ≡ same_bytes a b
same_front a b n t k h = h ∙ ap (bytes_eq a) (take_all n b k) ∙ same a b
