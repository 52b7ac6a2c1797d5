-- Laws of tests: a chain of tests as code with early returns goes through it, and whether a number is in a range. Assumes nothing.
use Prim.Native.Nat.{ℕ, ◌≤◌, ◌<◌}
use mathlib.Core.Path.{◌≡◌, refl, ap}
use mathlib.Core.Bool.{Bool, true, false, ◌&&◌, and-false, false≢true}
use native.Mathlib.Omega.{arith}
use borrow.Author.Tests.{le-leb, lt-leb}
use lib.Dec.{leb}

-- no two constructors are equal: what `cc` finds of two that differ
pub clash : {A : Type 0} → ◌≡◌ {A = ℕ} 0 1 → A
clash e = absurd (omega (arith, e))

-- where one test fails the chain is false, and where it passes the rest decides
pub and_stops : (a b : Bool) → a ≡ false → (a && b) ≡ false
and_stops a b e = simp e

pub and_goes : (a b : Bool) → a ≡ true → (a && b) ≡ b
and_goes a b e = simp e

pub and_holds : {a b : Bool} → a ≡ true → b ≡ true → (a && b) ≡ true
and_holds p q = simp (p, q)

pub and_both : (a b : Bool) → (a && b) ≡ true → (a ≡ true) × (b ≡ true)
and_both true b h = (refl, h)
and_both false b h = absurd (false≢true h)

-- the third of a chain of tests may come first
pub and_third : (a b c d : Bool) → (a && (b && (c && d))) ≡ (c && (a && (b && d)))
and_third a b true d = refl
and_third a b false d = simp (and-false b, and-false a)

-- three tests of which one fails, and more behind them
pub and_fails : (a b c d : Bool) → (a && (b && c)) ≡ false → (a && (b && (c && d))) ≡ false
and_fails false b c d e = refl
and_fails true false c d e = refl
and_fails true true false d e = refl
and_fails true true true d e = ap (λ t. t && d) e

module _ (a b z : ℕ) where
  pub within_true : a ≤ b → b ≤ z → (leb a b && leb b z) ≡ true
  within_true h k = simp (le-leb a b h, le-leb b z k)

  pub below_false : b < a → (leb a b && leb b z) ≡ false
  below_false h = simp (lt-leb a b h)

  pub above_false : z < b → (leb a b && leb b z) ≡ false
  above_false h = simp (lt-leb b z h, and-false)
