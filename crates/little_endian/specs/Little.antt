-- Numbers in bytes (document 01, "The plan file"): "Little-endian".
use Rattle.std.specs.Prelude.{ℕ, zero, suc, ◌+◌, ◌*◌, ◌/◌, ◌%◌, List, [], ◌∷◌, get_or, take, drop}

-- v in n bytes, the lowest first
unfoldable pub little : ℕ → ℕ → List ℕ
little zero v = []
little (suc n) v = v % 256 ∷ little n (v / 256)

-- the number that bytes make, the lowest first
unfoldable pub number : List ℕ → ℕ
number [] = 0
number (b ∷ bs) = b + 256 * number bs

-- the byte at a place, and the number in the n bytes from a place on
abbrev pub byte : List ℕ → ℕ → ℕ
byte f at = get_or f at 0

abbrev pub number_at : ℕ → List ℕ → ℕ → ℕ
number_at n f at = number (take n (drop at f))
