-- Numbers in records of bytes, for callers in other languages, as `include/tallowwing.h` lays them out: words of 4 bytes or 8, the lowest
-- first; a signed number as its two's complement; a flag as 0 or 1.
use Rattle.std.specs.Prelude.{ℕ, ◌+◌, ◌-◌, ◌*◌, ◌≡◌, Bool, true, false, cond, List, length, eqb, ltb, ℤ, pos, negsuc}
use Rattle.little_endian.specs.Little.{little, number_at}
use Rattle.buffer.specs.Puts.{put_front, put_count, Put}
use Rattle.little_endian.specs.Rows.{each}

-- how many bytes a word has, and a long one
abbrev pub word_length : ℕ
word_length = 4

abbrev pub long_length : ℕ
long_length = 8

abbrev pub word : ℕ → List ℕ
word v = little word_length v

abbrev pub long : ℕ → List ℕ
long v = little long_length v

abbrev pub long_at : List ℕ → ℕ → ℕ
long_at b at = number_at long_length b at

-- words one behind the other, and the i-th of those from a place on, from 0
abbrev pub words : List ℕ → List ℕ
words vs = each word vs

abbrev pub word_at : List ℕ → ℕ → ℕ → ℕ
word_at b at i = number_at word_length b (at + word_length * i)

-- a number from -2,147,483,648 to 2,147,483,647
unfoldable pub signed_word : ℤ → ℕ
signed_word (pos n) = n
signed_word (negsuc n) = 4294967295 - n

unfoldable pub signed_in : ℕ → ℤ
signed_in w = cond (ltb w 2147483648) (pos w) (negsuc (4294967295 - w))

unfoldable pub flag_word : Bool → ℕ
flag_word false = 0
flag_word true = 1

abbrev pub flag_in : ℕ → Bool
flag_in w = eqb w 1

-- w, which has n bytes, is put at a place
pub record PutOf (n : ℕ) (w : List ℕ) (at : ℕ) (before after : List ℕ) (r : ℕ) : Type 0 where
  pub put : Put w at before after r
  pub long : length w ≡ n

-- w, which has n bytes, at the front of a buffer, where it has the room; else nothing is put, and the answer is 0
abbrev pub PutFront : ℕ → List ℕ → List ℕ → List ℕ → ℕ → Type 0
PutFront n w before after r = (r ≡ put_count w before) × (after ≡ put_front w before) × (length w ≡ n)
