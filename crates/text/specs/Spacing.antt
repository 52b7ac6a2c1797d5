-- Bytes that make no difference to a text (document 01, "The SOC text"): "Fields are parted by one or more spaces or tabs; such bytes
-- at either end of a line count for nothing."
use Rattle.std.specs.Prelude.{ℕ, Bool, true, false, ◌&&◌, ◌||◌, List, [], ◌∷◌, eqb}
use Rattle.units.specs.Places.{all_of}
use Rattle.fields.specs.Bytes.{lf, cr, lf_next}
use Rattle.fields.specs.Fields.{gap}

-- "spaces or tabs"
abbrev pub spaces : List ℕ → Bool
spaces g = all_of gap g

-- "one or more spaces or tabs"
unfoldable pub spacing : List ℕ → Bool
spacing [] = false
spacing (b ∷ bs) = gap b && spaces bs

-- does a line end here: "in LF or CRLF; the last may lack its end"?
unfoldable pub line_ends : List ℕ → Bool
line_ends [] = true
line_ends (b ∷ bs) = eqb b lf || eqb b cr && lf_next bs

-- is CR the last byte, so that an LF behind it would end the line with it?
unfoldable pub ends_in_cr : List ℕ → Bool
ends_in_cr [] = false
ends_in_cr (b ∷ []) = eqb b cr
ends_in_cr (b ∷ c ∷ bs) = ends_in_cr (c ∷ bs)
