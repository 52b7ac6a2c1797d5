-- A part of a text from a byte of a field to a byte of a field: what a part between two places is without the spaces, tabs and line ends at
-- its front and at its end.
use Rattle.std.specs.Prelude.{ℕ, zero, suc, ◌+◌, Bool, false, cond, not, ◌&&◌, ◌||◌, List, [], ◌∷◌, drop, eqb}
use Rattle.fields.specs.Bytes.{lf, cr, lf_next}
use Rattle.fields.specs.Fields.{gap}
use Rattle.module_part.specs.declared.Part.{Part}

-- is the byte b, with bs behind it, one of a field? "Lines end in LF or CRLF", "Fields are parted by one or more spaces or tabs"
abbrev pub of_field : ℕ → List ℕ → Bool
of_field b bs = not (gap b || (eqb b lf || (eqb b cr && lf_next bs)))

-- does a byte of a field stand first?
unfoldable pub in_field : List ℕ → Bool
in_field [] = false
in_field (b ∷ bs) = of_field b bs

-- how many bytes stand before the first byte of a field
unfoldable pub until_field : List ℕ → ℕ
until_field [] = 0
until_field (b ∷ bs) = cond (in_field (b ∷ bs)) 0 (suc (until_field bs))

-- how many of the first n bytes stand before the end of the last byte of a field among them
unfoldable pub last_field : ℕ → List ℕ → ℕ
last_field zero l = 0
last_field (suc n) [] = 0
last_field (suc n) (b ∷ bs) = cond (not (in_field (b ∷ bs)) && eqb (last_field n bs) 0) 0 (suc (last_field n bs))

-- from the first byte of a field at or behind a place to the end of the last one before another
unfoldable pub trimmed : List ℕ → ℕ → ℕ → Part
trimmed t from to = record { from = from + until_field (drop from t); to = last_field to t }
