-- Laws of what reading a text answers: it accepts only a text that is short enough, has no bad byte and describes the record that it gives,
-- which is good; and what it refuses it refuses with a number from 1 to 6, or with 17. Assumes nothing.
use Prim.Native.Nat.{ℕ, ◌≤◌}
use mathlib.Core.Path.{◌≡◌, refl, sym, ap, subst, ◌∙◌}
use mathlib.Core.Bool.{Bool, true, false, cond}
use mathlib.Core.List.{List, []}
use mathlib.Core.Logic.{◌⊎◌, inl, inr}
use native.Mathlib.Omega.{arith}
use borrow.Author.Tests.{leb-true}
use lib.Dec.{leb}
use lib.ListN.{length}
use Rattle.std.specs.Prelude.{Option, None, Some, Result, Ok, Err}
use Rattle.units.specs.Refusals.{number_of, refused}
use Rattle.units.specs.declared.Fault.TheVariants.{LongText, ForbiddenByte}
use Rattle.units.specs.declared.Refusal.{Refusal}
use Rattle.units.proofs.TestLaws.{clash}
use Rattle.fields.specs.Bytes.{bad_byte}
use Rattle.fields.specs.Lines.{lines_from}
use Rattle.fields.specs.Readers.{no, got}
use Rattle.soc.specs.Rules.{good_soc}
use Rattle.soc.specs.Sized.{Sized}
use Rattle.soc.specs.declared.record.Soc.{Soc}
use Rattle.text_reader.specs.Lines.{LinesRead}
use Rattle.soc.specs.Limits.{text_max}
use Rattle.text_reader.specs.Reading.{soc, answer, unless_bad, read_soc}
use Rattle.text.specs.Describes.{Describes, field_lines}
use Rattle.text.specs.Numbers.{TextNumber}
use Rattle.text.proofs.Accepted.{Read, soc_only}
use Rattle.text.proofs.Refused.{soc-refuses}

-- the answer accepts t, for this record
abbrev Right : List ℕ → Result Soc Refusal → Type 0
Right t a = (s : Soc) × (a ≡ Ok s) × (length t ≤ text_max) × (bad_byte 1 t ≡ None) × (soc (lines_from 1 t 0) ≡ got s [])

-- the answer refuses, with this refusal
abbrev Wrong : Result Soc Refusal → Type 0
Wrong a = (r : Refusal) × (a ≡ Err r) × TextNumber (number_of r.fault)

module _ (t : List ℕ) where
  lines_outcome : length t ≤ text_max → bad_byte 1 t ≡ None → (g : LinesRead Soc) → soc (lines_from 1 t 0) ≡ g → Right t (answer g) ⊎ Wrong (answer g)
  unfolding answer
  lines_outcome h k (no r) e = inr (r, refl, soc-refuses (lines_from 1 t 0) r e)
  lines_outcome h k (got s ls) e =
      let f = soc_only (lines_from 1 t 0) s ls e in
      inl (s, refl, h, k, e ∙ ap (got s) f.1)

  bytes_outcome : length t ≤ text_max → (b : Option ℕ) → bad_byte 1 t ≡ b → Right t (unless_bad b (answer (soc (lines_from 1 t 0)))) ⊎ Wrong (unless_bad b (answer (soc (lines_from 1 t 0))))
  unfolding unless_bad
  bytes_outcome h (Some n) e = inr (refused ForbiddenByte n, refl, inl (omega arith, omega arith))
  bytes_outcome h None e = lines_outcome h e (soc (lines_from 1 t 0)) refl

  outcome : Right t (read_soc t) ⊎ Wrong (read_soc t)
  unfolding read_soc
  outcome = go (leb (length t) text_max) refl
    where
      read : Result Soc Refusal
      read = unless_bad (bad_byte 1 t) (answer (soc (lines_from 1 t 0)))

      go : (b : Bool) → leb (length t) text_max ≡ b → Right t (cond b read (Err (refused LongText 0))) ⊎ Wrong (cond b read (Err (refused LongText 0)))
      go true e = bytes_outcome (leb-true (length t) text_max e) (bad_byte 1 t) refl
      go false e = inr (refused LongText 0, refl, inl (omega arith, omega arith))

  -- it accepts, or it refuses with a number from 1 to 6, or with 17
  pub accepts_or_refuses : ((s : Soc) × (read_soc t ≡ Ok s)) ⊎ ((r : Refusal) × (read_soc t ≡ Err r) × TextNumber (number_of r.fault))
  accepts_or_refuses = go outcome
    where
      go : Right t (read_soc t) ⊎ Wrong (read_soc t) → ((s : Soc) × (read_soc t ≡ Ok s)) ⊎ Wrong (read_soc t)
      go (inl (s, e, h, k, l)) = inl (s, e)
      go (inr w) = inr w

  module _ (s : Soc) (a : read_soc t ≡ Ok s) where
    pub accepted-is : (length t ≤ text_max) × (bad_byte 1 t ≡ None) × (soc (lines_from 1 t 0) ≡ got s [])
    accepted-is = go outcome
      where
        go : Right t (read_soc t) ⊎ Wrong (read_soc t) → (length t ≤ text_max) × (bad_byte 1 t ≡ None) × (soc (lines_from 1 t 0) ≡ got s [])
        go (inl (q, e, h, k, l)) =
            let o : Ok q ≡ Ok s = sym e ∙ a in
            let i : q ≡ s = cc in
            (h, k, l ∙ ap (λ r. got r []) i)
        go (inr (r, e, n)) = let o : Err r ≡ Ok s = sym e ∙ a in clash cc

    pub accepted-read : Read s (lines_from 1 t 0)
    accepted-read = (soc_only (lines_from 1 t 0) s [] accepted-is.2).0

    pub accepted-good : good_soc s ≡ true
    accepted-good = accepted-read.good

    pub accepted-sized : Sized s
    accepted-sized = accepted-read.sized

    pub accepted_describes : Describes s (field_lines t)
    accepted_describes = accepted-read.described

pub refused-number : (t : List ℕ) (r : Refusal) → read_soc t ≡ Err r → TextNumber (number_of r.fault)
refused-number t r a = go (accepts_or_refuses t)
  where
    go : ((s : Soc) × (read_soc t ≡ Ok s)) ⊎ Wrong (read_soc t) → TextNumber (number_of r.fault)
    go (inl (s, e)) = let o : Ok s ≡ Err r = sym e ∙ a in clash cc
    go (inr (q, e, n)) =
        let o : Err q ≡ Err r = sym e ∙ a in
        let i : q ≡ r = cc in
        subst (λ f. TextNumber (number_of f.fault)) i n
