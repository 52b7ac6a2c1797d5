-- Figures that are not given (document 01, "The SOC text"): "Only X, Y and Power may be -1, which means not given, the same as leaving
-- them out."
use Rattle.std.specs.Prelude.{ℕ, Bool, false, List, [], ◌∷◌, drop}
use Rattle.fields.specs.Bytes.{bytes}
use Rattle.fields.specs.Lines.{Line}
use Rattle.text_lines.specs.Parts.{is_next}
use Rattle.text_lines.specs.LineFields.{module_fields}

-- "`Module` m `X` x `Y` y", both -1
abbrev pub position_out : ℕ → List (List ℕ)
position_out m = module_fields m (bytes "X" ∷ bytes "-1" ∷ bytes "Y" ∷ bytes "-1" ∷ [])

-- "`Power` w", where w is -1
abbrev pub power_out : List (List ℕ)
power_out = bytes "Power" ∷ bytes "-1" ∷ []

-- does a line come next with `X` behind the module's number?
unfoldable pub position_next : List Line → Bool
position_next [] = false
position_next (l ∷ ls) = is_next (bytes "X") (drop 2 l.fields)
