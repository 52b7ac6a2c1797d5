-- The first line of the printing program's input (document 01, "The printing program"; document 02, item 5): "a line `Plan W B` (at most
-- 32 bytes with its end), then a SOC text."
use Rattle.std.specs.Prelude.{ℕ, cond, List, [], ◌∷◌, take, drop, leb, Result, Err}
use Rattle.units.specs.declared.Fault.{Fault}
use Rattle.units.specs.declared.Fault.TheVariants.{WrongForm}
use Rattle.fields.specs.Fields.{fields_of}
use Rattle.fields.specs.Lines.{line_at}
use Rattle.fields.specs.Readers.{Reader, got, ◌>>=◌, ◌>>◌, give, word, between}
use Rattle.text_lines.specs.Parts.{whole}
-- what the line asks for
pub use Rattle.listing.specs.declared.asked.Wanted.{Wanted}

-- "at most 32 bytes with its end"
abbrev pub plan_line_max : ℕ
plan_line_max = 32

-- a number "over 4,294,967,295" is 4
abbrev pub asked_max : ℕ
asked_max = 4294967295

-- c is "chosen for the whole SOC by an optional third number on the `Plan` line, 1 if absent"
unfoldable pub capture_number : Reader ℕ
capture_number [] = got 1 []
capture_number (f ∷ fs) = between 0 asked_max (f ∷ fs)

-- "Its fields are parted and read left to right as in the text."
unfoldable pub plan_numbers : Reader Wanted
plan_numbers = do
  w ← between 0 asked_max
  b ← between 0 asked_max
  c ← capture_number
  give (record { wires = w; limit = b; capture = c })

unfoldable pub plan_line : Reader Wanted
plan_line = do
  word "Plan"
  plan_numbers

-- the line without its end, and the text behind it
abbrev pub first_line : List ℕ → List ℕ
first_line input = take (line_at input 0).to input

abbrev pub text_behind : List ℕ → List ℕ
text_behind input = drop (line_at input 0).next input

-- "a longer one is 3 before any other"
unfoldable pub asked : List ℕ → Result Wanted Fault
asked input = cond (leb (line_at input 0).next plan_line_max) (whole plan_line (fields_of (first_line input))) (Err WrongForm)
