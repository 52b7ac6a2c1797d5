-- Laws of a written flag, and of a figure that may be not given: what each is, and how long. Assumes nothing.
use mathlib.Core.Path.{◌≡◌, refl}
use mathlib.Core.Bool.{Bool, true, false, true≢false}
use native.Mathlib.Omega.{arith}
use borrow.Author.Tests.{ltb-true}
use lib.ListN.{length}
use lib.IntN.{ℤ, pos, negsuc, nat_abs}
use lib.Signed.{lt_z}
use mir.Val.{bool_byte}
use Rattle.fields.specs.Bytes.{bytes}
use Rattle.fields.specs.WrittenLines.{digits_of, decimal}
use Rattle.text_lines.specs.LineFields.{flag_field, given_field}

pub flag-length : (b : Bool) → length (flag_field b) ≡ 1
unfolding flag_field
flag-length true = refl
flag-length false = refl

-- a flag is written as its number
pub flag-number : (b : Bool) → decimal (bool_byte b) ≡ flag_field b
unfolding flag_field decimal digits_of
flag-number true = refl
flag-number false = refl

pub given_below : (z : ℤ) → lt_z z (pos 0) ≡ true → given_field z ≡ bytes "-1"
unfolding given_field
given_below (pos n) e = absurd (omega (arith, ltb-true n 0 e))
given_below (negsuc n) e = refl

pub given_above : (z : ℤ) → lt_z z (pos 0) ≡ false → given_field z ≡ decimal (nat_abs z)
unfolding given_field
given_above (pos n) e = refl
given_above (negsuc n) e = absurd (true≢false e)
