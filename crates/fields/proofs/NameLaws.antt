-- Laws of names: which bytes a name may have, and how its bytes are passed one by one.
use Prim.Native.Nat.{ℕ, ◌+◌, ◌≤◌, ◌<◌}
use mathlib.Core.Path.{◌≡◌}
use mathlib.Core.Bool.{true, false, ◌&&◌}
use mathlib.Core.List.{List}
use native.Mathlib.Numerals.{add-one}
use borrow.Author.Tests.{ne_eqb}
use lib.ListN.{length, get_or, drop, drop_of_length-le}
use lib.Dec.{leb}
use lib.Seq.{drop-cons}
use Rattle.fields.specs.Numbers.{digit}
use Rattle.fields.specs.Names.{name_byte, name_bytes}

pub name-byte-no : (b : ℕ) → (b ≡ 45 → ⊥) → (b ≡ 95 → ⊥) → (leb 65 b && leb b 90) ≡ false → (leb 97 b && leb b 122) ≡ false → digit b ≡ false → name_byte b ≡ false
name-byte-no b m u s l d = simp (s, l, d, ne_eqb b 95 u, ne_eqb b 45 m)

pub name-bytes-at : (f : List ℕ) (i : ℕ) → i < length f → name_bytes (drop i f) ≡ (name_byte (get_or f i 0) && name_bytes (drop (i + 1) f))
unfolding name_bytes
name-bytes-at f i h = rw (add-one, drop-cons f i 0)

pub name-bytes-end : (f : List ℕ) (i : ℕ) → length f ≤ i → name_bytes (drop i f) ≡ true
unfolding name_bytes
name-bytes-end f i h = rw (drop_of_length-le f h)
