-- How the lines of a text are read: from the top, up to the first refusal, which has its line (document 01, "Refusal numbers" and its order).
use Rattle.std.specs.Prelude.{ℕ, List, [], ◌∷◌, Result, Ok, Err}
use Rattle.units.specs.Refusals.{refused}
use Rattle.units.specs.declared.Fault.{Fault}
use Rattle.units.specs.declared.Fault.TheVariants.{WrongForm, EarlyEnd}
use Rattle.units.specs.declared.Refusal.{Refusal}
use Rattle.fields.specs.Lines.{Line}
use Rattle.fields.specs.Readers.{Got, no, got, Reads, Reader}
use Rattle.text_lines.specs.Parts.{whole}

abbrev pub LinesRead : Type 0 → Type 0
LinesRead A = Got Refusal (List Line) A

abbrev pub LinesReader : Type 0 → Type 0
LinesReader A = Reads Refusal (List Line) A

-- "2 to 5 with the line", and "17 with the line"
unfoldable pub judged : {A : Type 0} → ℕ → List Line → Result A Fault → LinesRead A
judged n ls (Err c) = no (refused c n)
judged n ls (Ok a) = got a ls

-- "the text ends while lines are still due" is 6, "with line 0"
unfoldable pub line : {A : Type 0} → Reader A → LinesReader A
line p [] = no (refused EarlyEnd 0)
line p (l ∷ ls) = judged l.number ls (whole p l.fields)

-- "a line after the last one due" is 3
unfoldable pub no_more : LinesReader (Unit {0})
no_more [] = got tt []
no_more (l ∷ ls) = no (refused WrongForm l.number)
