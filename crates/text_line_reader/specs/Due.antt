-- A place among the lines of a text, and what it means that a line is due there (document 01, "The SOC text"): "The line reader holds the text and its
-- place in it."
use Rattle.std.specs.Prelude.{ℕ, ◌+◌, ◌≤◌, ◌≡◌, List, [], ◌∷◌, length, Option, None, Some}
use Rattle.fields.specs.Fields.{fields_of, part}
use Rattle.fields.specs.Lines.{Line, lines_from}
use Rattle.text_line_reader.specs.declared.line_reader.LineReader.{LineReader}
use Rattle.text_line_reader.specs.declared.place.Place.{Place}
use Rattle.text_line_reader.specs.declared.place.DueLine.{DueLine}

-- the place with a beginning and a line's number, and the place that a line reader holds
abbrev pub place_at : ℕ → ℕ → Place
place_at a n = record { at = a; line = n }

abbrev pub place_of : LineReader → Place
place_of r = place_at r.at r.line

-- the lines from a place on
abbrev pub lines_at : List ℕ → Place → List Line
lines_at t p = lines_from p.line t p.at

-- a place lies in the text, and each line before it has a byte at least
pub record Inside (t : List ℕ) (p : Place) : Type 0 where
  pub at : p.at ≤ length t
  pub line : p.line ≤ p.at + 1

-- the next line: its bytes lie in the text, and it stands first among the lines from here
pub record LineIs (t : List ℕ) (p : Place) (a e n : ℕ) (q : Place) : Type 0 where
  pub begin : a ≤ e
  pub end : e ≤ length t
  pub inside : Inside t q
  pub is : lines_at t p ≡ record { number = n; fields = fields_of (part t a e) } ∷ lines_at t q

abbrev pub DueIs : List ℕ → Place → Option DueLine → Type 0
DueIs t p (Some l) = LineIs t p l.from l.to l.number l.behind
DueIs t p None = lines_at t p ≡ []
