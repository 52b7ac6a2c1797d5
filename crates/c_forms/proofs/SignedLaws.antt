-- Laws of a signed number in a word, as its bits, and of a flag in one: what the casts say is the word, and the word is read back. Assumes
-- nothing.
use Prim.Native.Nat.{ℕ, suc, ◌-◌, ◌<◌}
use mathlib.Core.Path.{◌≡◌, refl, sym, ap, ◌∙◌}
use mathlib.Core.Bool.{Bool, true, false}
use native.Mathlib.Omega.{arith}
use borrow.Author.Tests.{leb-true}
use lib.Dec.{leb}
use lib.IntN.{ℤ, pos, negsuc}
use mir.Syntax.{w32}
use mir.Val.{to_z, of_z, bool_byte, SFits}
use mir.Facts.{to_z-of_z}
use Rattle.c_forms.specs.Words.{signed_word, signed_in, flag_word, flag_in}
use Rattle.c_forms.specs.Fit.{Fits4}

-- the number in a word
pub signed-in : (w : ℕ) → to_z w32 w ≡ signed_in w
unfolding signed_in
signed-in w = let e : 4294967296 - suc w ≡ 4294967295 - w = omega arith in rw e

-- and one that is held
pub held_in : (w : ℕ) (z : ℤ) → SFits w32 z → z ≡ to_z w32 w → to_z w32 (of_z w32 z) ≡ signed_in w
held_in w z f e = to_z-of_z {w = w32} {z = z} f ∙ e ∙ signed-in w

-- the word of a number
signed-word : (z : ℤ) → SFits w32 z → of_z w32 z ≡ signed_word z
unfolding signed_word
signed-word (pos n) f = refl
signed-word (negsuc n) f = let h : n < 2147483648 = f.sfits in omega arith

module _ (z : ℤ) (f : SFits w32 z) where
  -- of one that is held
  pub word-back : of_z w32 (to_z w32 (of_z w32 z)) ≡ signed_word z
  word-back = rw (to_z-of_z {w = w32} {z = z} f) (signed-word z f)

  pub signed_back : signed_in (signed_word z) ≡ z
  signed_back = sym (signed-in (signed_word z)) ∙ ap (to_z w32) (sym (signed-word z f)) ∙ to_z-of_z {w = w32} {z = z} f

pub word_below : (z : ℤ) → SFits w32 z → signed_word z < 4294967296
unfolding signed_word
word_below (pos n) f = let h : n < 2147483648 = f.sfits in omega arith
word_below (negsuc n) f = omega arith

-- a flag in its word
pub flag-word : (f : Bool) → bool_byte f ≡ flag_word f
unfolding flag_word
flag-word false = refl
flag-word true = refl

pub flag_back : (f : Bool) → flag_in (flag_word f) ≡ f
unfolding flag_word
flag_back false = refl
flag_back true = refl

pub flag_small : (f : Bool) → leb (flag_word f) 1 ≡ true
unfolding flag_word
flag_small false = refl
flag_small true = refl

pub flag-fits : (f : Bool) → Fits4 (flag_word f)
flag-fits f = omega (arith, leb-true (flag_word f) 1 (flag_small f))
