-- Laws of a figure that may be not given: what the test of its bits says of the number. Assumes nothing.
use Prim.Native.Nat.{zero, suc, ◌-◌, ◌<◌}
use mathlib.Core.Path.{◌≡◌, refl, sym, ◌∙◌}
use native.Mathlib.Omega.{arith}
use borrow.Author.Tests.{ne_eqb}
use lib.Dec.{eqb}
use lib.IntN.{ℤ, pos, negsuc}
use mir.Syntax.{w32}
use mir.Val.{to_z, of_z, SFits}
use mir.Facts.{to_z-of_z}
use Rattle.soc.specs.Rules.{is_not_given}

pub not_given_bits : (z : ℤ) → SFits w32 z → eqb (of_z w32 z) 4294967295 ≡ is_not_given z
not_given_bits (pos n) f = let h : n < 2147483648 = f.sfits in ne_eqb n 4294967295 (λ e. omega arith)
not_given_bits (negsuc zero) f = refl
not_given_bits (negsuc (suc n)) f = ne_eqb (4294967296 - suc (suc n)) 4294967295 (λ e. omega arith) ∙ sym (ne_eqb (suc n) 0 (λ e. omega arith))

-- the bits of a number that fits read back as the number
pub figure_back : (z : ℤ) → SFits w32 z → to_z w32 (of_z w32 z) ≡ z
figure_back z f = to_z-of_z {w = w32} {z = z} f
