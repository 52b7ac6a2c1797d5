-- Names (document 01, "The SOC text"): "1 to 32 letters, digits, `_` or `-`".
use Rattle.std.specs.Prelude.{ℕ, Bool, true, ◌&&◌, ◌||◌, List, [], ◌∷◌, length, leb, eqb}
use Rattle.fields.specs.Numbers.{digit}

abbrev pub name_max : ℕ
name_max = 32

-- a letter, a digit, `_` or `-`
abbrev pub name_byte : ℕ → Bool
name_byte b = leb 65 b && leb b 90 || (leb 97 b && leb b 122 || (digit b || (eqb b 95 || eqb b 45)))

unfoldable pub name_bytes : List ℕ → Bool
name_bytes [] = true
name_bytes (b ∷ bs) = name_byte b && name_bytes bs

abbrev pub is_name : List ℕ → Bool
is_name f = leb 1 (length f) && (leb (length f) name_max && name_bytes f)
