-- What the answers of the steps of reading mean: a refusal, or what was read and the lines behind it.
use Rattle.std.specs.Prelude.{ℕ, ◌≡◌, List, [], take, Result, Ok, Err, IfOk}
use Rattle.units.specs.Refusals.{refused}
use Rattle.units.specs.Places.{padded}
use Rattle.units.specs.declared.Fault.{Fault}
use Rattle.units.specs.declared.Fault.TheVariants.{EarlyEnd}
use Rattle.units.specs.declared.Refusal.{Refusal}
use Rattle.fields.specs.Readers.{no, got}
use Rattle.soc.specs.Limits.{tests_max}
use Rattle.soc.specs.Record.{no_test}
use Rattle.soc.specs.declared.record.Test.{Test}
use Rattle.text_line_reader.specs.Due.{lines_at, Inside, LineIs}
use Rattle.text_line_reader.specs.declared.place.DueLine.{DueLine}
use Rattle.text_line_reader.specs.declared.place.Place.{Place}
use Rattle.text_reader.specs.Lines.{LinesRead}

-- the line that is due, or the refusal where none is left
abbrev pub IsDue : List ℕ → Place → Result DueLine Refusal → Type 0
IsDue t p (Ok l) = LineIs t p l.from l.to l.number l.behind
IsDue t p (Err r) = (lines_at t p ≡ []) × (r ≡ refused EarlyEnd 0)

-- what a line's reader answers, with the place behind the line, or with its number
unfoldable pub taken : {A : Type 0} → Result A Fault → DueLine → Result (A × Place) Refusal
taken (Err f) l = Err (refused f l.number)
taken (Ok a) l = Ok (a, l.behind)

-- what was read, with the lines behind the place that a step gives
abbrev pub step_is : {A : Type 0} → List ℕ → Result (A × Place) Refusal → LinesRead A
step_is t (Err r) = no r
step_is t (Ok (a, q)) = got a (lines_at t q)

pub record StepMeans {A : Type 0} (t : List ℕ) (s : Result (A × Place) Refusal) (r : LinesRead A) : Type 0 where
  pub is : step_is t s ≡ r
  pub inside : IfOk s (λ x. Inside t x.1)

-- n tests were read, at the front of the places for them
abbrev pub TestsMean : List ℕ → ℕ → Result (List Test × Place) Refusal → LinesRead (List Test) → Type 0
TestsMean t n (Err f) r = no f ≡ r
TestsMean t n (Ok (ts, q)) r = (got (take n ts) (lines_at t q) ≡ r) × Inside t q × (ts ≡ padded tests_max no_test (take n ts))
