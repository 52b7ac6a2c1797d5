-- Laws of how long written forms are: numbers, fields parted by single spaces, and names.
use Prim.Native.Nat.{ℕ, zero, suc, ◌+◌, ◌*◌, ◌/◌, ◌^◌, ◌≤◌, ◌<◌}
use mathlib.Core.Path.{◌≡◌, refl}
use mathlib.Core.Bool.{Bool, true, false, ◌&&◌}
use mathlib.Core.List.{List, [], ◌∷◌, ◌++◌}
use native.Mathlib.Nat.{pow-suc}
use native.Mathlib.Omega.{arith}
use borrow.Author.Tests.{ltb-true, ltb-false, leb-true}
use lib.ListN.{length, length-append}
use lib.Dec.{leb, ltb}
use Rattle.fields.specs.Names.{name_bytes, name_max, is_name}
use Rattle.fields.specs.WrittenLines.{decimal, joined}
use Rattle.units.proofs.TestLaws.{and_both}
use Rattle.fields.proofs.WrittenLaws.{decimal-small, length_large}

pub length-small : (n : ℕ) → n < 10 → length (decimal n) ≡ 1
length-small n h = rw (decimal-small n h)

pub decimal_size : (k n : ℕ) → n < 10 ^ suc k → length (decimal n) ≤ suc k
decimal_size zero n h = omega (arith, length-small n (omega arith))
decimal_size (suc k) n h = go (decimal_size k (n / 10)) (ltb n 10) refl
  where
    go : (n / 10 < 10 ^ suc k → length (decimal (n / 10)) ≤ suc k) → (t : Bool) → ltb n 10 ≡ t → length (decimal n) ≤ suc (suc k)
    go ih true e = omega (arith, length-small n (ltb-true n 10 e))
    go ih false e =
        let p : 10 ^ suc (suc k) ≡ 10 ^ suc k * 10 = pow-suc 10 (suc k) in
        omega (arith, length_large n (ltb-false n 10 e), ih (omega arith))

-- each field with one byte behind it
unfoldable pub size : List (List ℕ) → ℕ
size [] = 0
size (f ∷ fs) = length f + 1 + size fs

pub size_append : (xs ys : List (List ℕ)) → size (xs ++ ys) ≡ size xs + size ys
unfolding size
size_append [] ys = omega arith
size_append (f ∷ xs) ys = omega (arith, size_append xs ys)

pub joined_size : (fs : List (List ℕ)) → length (joined fs) ≤ size fs
unfolding joined size
joined_size [] = omega arith
joined_size (f ∷ []) = omega arith
joined_size (f ∷ g ∷ fs) = rw length-append (omega (arith, joined_size (g ∷ fs)))

pub name_size : (f : List ℕ) → is_name f ≡ true → length f ≤ 32
name_size f h =
    let p = and_both (leb 1 (length f)) (leb (length f) name_max && name_bytes f) h in
    leb-true (length f) name_max (and_both (leb (length f) name_max) (name_bytes f) p.1).0
