-- Laws of arrays of zeros of which the front is lent. Assumes nothing.
use Prim.Native.Nat.{ℕ, zero, suc, ◌≤◌}
use mathlib.Core.Path.{◌≡◌, refl, ap}
use mathlib.Core.List.{List, ◌∷◌, ◌++◌}
use native.Mathlib.Omega.{arith}
use lib.ListN.{length, take, drop, replicate, length-replicate}
use lib.Seq.{length-take-le}
use Rattle.std.proofs.lemmas.List.{drop-replicate}
use Rattle.units.specs.Places.{padded}

pub take-replicate : (c m z : ℕ) → c ≤ m → take c (replicate m z) ≡ replicate c z
take-replicate zero m z h = refl
take-replicate (suc c) zero z h = absurd (omega arith)
take-replicate (suc c) (suc m) z h = ap (λ l. z ∷ l) (take-replicate c m z (omega arith))

-- the length of a part of zeros
pub lent_length : (n m : ℕ) → n ≤ m → length {A = ℕ} (take n (replicate m 0)) ≡ n
lent_length n m h = length-take-le n (replicate m 0) (omega (arith, length-replicate {A = ℕ} m 0))

-- what was copied to the front of zeros
pub padded_front : (n k : ℕ) (xs ys : List ℕ) → xs ≡ ys → length ys ≡ k → xs ++ drop k (replicate n 0) ≡ padded n 0 ys
unfolding padded
padded_front n k xs ys e l = rw (e, drop-replicate, ← l)
