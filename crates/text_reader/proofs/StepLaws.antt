-- Laws of reading a text line by line: what a step says of the line that is due, what follows where none is left or one too many is, and how
-- one step follows another. Assumes nothing.
use Prim.Native.Nat.{ℕ}
use mathlib.Core.Path.{◌≡◌, refl, sym, ap, ◌∙◌}
use mathlib.Core.List.{List, []}
use Rattle.std.specs.Prelude.{Result, Ok, Err}
use Rattle.units.specs.Refusals.{refused}
use Rattle.units.specs.declared.Fault.{Fault}
use Rattle.units.specs.declared.Fault.TheVariants.{WrongForm, EarlyEnd}
use Rattle.units.specs.declared.Refusal.{Refusal}
use Rattle.fields.specs.Fields.{fields_of, part}
use Rattle.fields.specs.Lines.{Line}
use Rattle.fields.specs.Readers.{no, got, Reader, Reads, after, give}
use Rattle.fields.proofs.ReaderLaws.{after-no, after-got}
use Rattle.text_lines.specs.Parts.{whole}
use Rattle.text_reader.specs.Lines.{LinesRead, LinesReader, judged, line, no_more}
use Rattle.text_line_reader.specs.Due.{lines_at, Inside, LineIs}
use Rattle.text_line_reader.specs.declared.place.DueLine.{DueLine}
use Rattle.text_line_reader.specs.declared.place.Place.{Place}
use Rattle.text_reader.specs.Steps.{StepMeans, IsDue, taken}

-- no line is left
pub step_missing : {A : Type 0} (r : Reader A) (t : List ℕ) (p : Place) {f : Refusal} → IsDue t p (Err f) → StepMeans t (Err f) (line r (lines_at t p))
unfolding line
step_missing r t p d = rw (d.0, d.1) (record { is = refl; inside = tt })

-- the line that is due, as its reader takes it
pub step_line : {A : Type 0} (r : Reader A) (t : List ℕ) (p : Place) (l : DueLine) {s : Result (A × Place) Refusal} → IsDue t p (Ok l)
    → s ≡ taken (whole r (fields_of (part t l.from l.to))) l
    → StepMeans t s (line r (lines_at t p))
unfolding line judged taken
step_line {A} r t p l d h = rw (h, d.is) (go (whole r (fields_of (part t l.from l.to))))
  where
    go : (w : Result A Fault) → StepMeans t (taken w l) (judged l.number (lines_at t l.behind) w)
    go (Err f) = record { is = refl; inside = tt }
    go (Ok a) = record { is = refl; inside = d.inside }

-- behind the last line that is due
pub no-more-line : (t : List ℕ) (p : Place) (l : DueLine) → LineIs t p l.from l.to l.number l.behind → no_more (lines_at t p) ≡ no (refused WrongForm l.number)
unfolding no_more
no-more-line t p l d = ap no_more d.is

pub no-more-end : (ls : List Line) → ls ≡ [] → no_more ls ≡ got tt []
unfolding no_more
no-more-end ls h = ap no_more h

-- what a step tells
module _ {A : Type 0} {t : List ℕ} {g : LinesRead A} where
  pub step_no : {f : Refusal} → StepMeans t (Err f) g → g ≡ no f
  step_no m = sym m.is

  pub step_got : {a : A} {q : Place} → StepMeans t (Ok (a, q)) g → g ≡ got a (lines_at t q)
  step_got m = sym m.is

  -- a step that refuses, and one behind another
  pub step_fails : {B : Type 0} (k : A → LinesReader B) {f : Refusal} → StepMeans t (Err f) g → StepMeans t (Err f) (after g k)
  step_fails k {f} m = record { is = sym (after-no g k f (step_no m)); inside = tt }

  pub step_then : {B : Type 0} (k : A → LinesReader B) {a : A} {q : Place} {s : Result (B × Place) Refusal} → StepMeans t (Ok (a, q)) g → StepMeans t s (k a (lines_at t q))
      → StepMeans t s (after g k)
  step_then k {a} {q} m n = rw (after-got g k a (lines_at t q) (step_got m)) n

-- a value with nothing more to read
pub step_given : {A : Type 0} (t : List ℕ) (a : A) (q : Place) → Inside t q → StepMeans t (Ok (a, q)) (give a (lines_at t q))
step_given t a q i = record { is = refl; inside = i }
