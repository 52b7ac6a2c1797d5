-- How many lines a text has (document 01, "The SOC text"): "Lines end in LF or CRLF; the last may lack its end." A refusal's line is
-- "counted from 1".
use Rattle.std.specs.Prelude.{ℕ, suc, Bool, true, false, cond, List, [], ◌∷◌, eqb}
use Rattle.fields.specs.Bytes.{lf}

-- the lines from a place on, where a line has begun before it or not
unfoldable pub lines_behind : Bool → List ℕ → ℕ
lines_behind begun [] = cond begun 1 0
lines_behind begun (b ∷ bs) = cond (eqb b lf) (suc (lines_behind false bs)) (lines_behind true bs)

abbrev pub line_count : List ℕ → ℕ
line_count t = lines_behind false t
