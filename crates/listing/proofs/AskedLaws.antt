-- Laws of the input's first line: where it ends, what it asks for where it is short enough and where it is not, and its third number,
-- given or not. Assumes nothing.
use Prim.Native.Nat.{ℕ, ◌≤◌, ◌<◌}
use mathlib.Core.Path.{◌≡◌, refl}
use mathlib.Core.Bool.{true, false}
use mathlib.Core.List.{List, [], ◌∷◌}
use native.Mathlib.Omega.{arith}
use borrow.Author.Tests.{le-leb, lt-leb}
use lib.ListN.{length}
use Rattle.units.proofs.TestLaws.{clash}
use Rattle.fields.specs.Fields.{fields_of, blank}
use Rattle.fields.specs.Lines.{until_lf, line_ending, line_at}
use Rattle.fields.specs.Readers.{got, between}
use Rattle.fields.proofs.LineLaws.{line-is}
use Rattle.std.specs.Prelude.{Err}
use Rattle.units.specs.declared.Fault.TheVariants.{WrongForm}
use Rattle.text_lines.specs.Parts.{whole}
use Rattle.listing.specs.Asked.{plan_line_max, asked_max, capture_number, plan_line, first_line, asked}

-- the first line and its end lie in the input; an empty input has an empty one
pub record FirstLine (input : List ℕ) : Type 0 where
  pub end : (line_at input 0).to ≤ (line_at input 0).next
  pub inside : (line_at input 0).next ≤ length input

pub first-line : (input : List ℕ) → FirstLine input
unfolding line_at line_ending until_lf
first-line [] = record { end = omega arith; inside = omega arith }
first-line (b ∷ input) =
    let l = line-is (b ∷ input) 0 (line_at (b ∷ input) 0) (omega arith) refl in
    record { end = l.end; inside = l.inside }

module _ (input : List ℕ) where
  pub asked-long : plan_line_max < (line_at input 0).next → asked input ≡ Err WrongForm
  unfolding asked
  asked-long h = simp (lt-leb (line_at input 0).next plan_line_max h)

  pub asked-short : (line_at input 0).next ≤ plan_line_max → asked input ≡ whole plan_line (fields_of (first_line input))
  unfolding asked
  asked-short h = simp (le-leb (line_at input 0).next plan_line_max h)

-- no third number is 1, and one that is there is read as the others are
module _ (fs : List (List ℕ)) where
  pub capture-none : blank fs ≡ true → capture_number fs ≡ got 1 fs
  unfolding capture_number blank
  capture-none h = go fs h
    where
      go : (gs : List (List ℕ)) → blank gs ≡ true → capture_number gs ≡ got 1 gs
      go [] h = refl
      go (f ∷ gs) h = clash cc

  pub capture-some : blank fs ≡ false → capture_number fs ≡ between 0 asked_max fs
  unfolding capture_number blank
  capture-some h = go fs h
    where
      go : (gs : List (List ℕ)) → blank gs ≡ false → capture_number gs ≡ between 0 asked_max gs
      go [] h = clash cc
      go (f ∷ gs) h = refl
