-- Bytes, and which of them a text may have (document 01, "The SOC text" and refusal 2).
use Rattle.std.specs.Prelude.{ℕ, suc, Bool, true, false, cond, ◌&&◌, ◌||◌, List, [], ◌∷◌, Option, None, Some, eqb, leb}
use Prim.Native.String.{String}
use Prim.Native.Char.{code}

-- the bytes of a quoted text
abbrev pub bytes : String → List ℕ
bytes String.[] = []
bytes (String.◌∷◌ c s) = code c ∷ bytes s

abbrev pub tab : ℕ
tab = 9

abbrev pub lf : ℕ
lf = 10

abbrev pub cr : ℕ
cr = 13

abbrev pub space : ℕ
space = 32

-- is an LF next?
unfoldable pub lf_next : List ℕ → Bool
lf_next [] = false
lf_next (b ∷ bs) = eqb b lf

-- "tab, LF, CR before LF, or 32 to 126": is the byte b one of these, with bs behind it?
abbrev pub allowed : ℕ → List ℕ → Bool
allowed b bs = eqb b tab || (eqb b lf || (eqb b cr && lf_next bs || leb 32 b && leb b 126))

-- the line behind byte b of line n
abbrev pub line_behind : ℕ → ℕ → ℕ
line_behind n b = cond (eqb b lf) (suc n) n

-- the line of the first byte that is none of these, in a text that begins on line n
unfoldable pub bad_byte : ℕ → List ℕ → Option ℕ
bad_byte n [] = None
bad_byte n (b ∷ bs) = cond (allowed b bs) (bad_byte (line_behind n b) bs) (Some n)

-- the two are the same bytes
unfoldable pub same_bytes : List ℕ → List ℕ → Bool
same_bytes [] [] = true
same_bytes [] (y ∷ ys) = false
same_bytes (x ∷ xs) [] = false
same_bytes (x ∷ xs) (y ∷ ys) = eqb x y && same_bytes xs ys
