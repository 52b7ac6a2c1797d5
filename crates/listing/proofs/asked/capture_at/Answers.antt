-- `listing::asked::capture_at` meets its contract. The definition reads the third number as the code does, where a field is left. A number
-- that was read fits 32 bits. Assumes nothing.
use native.Mathlib.Omega.{arith}
use mathlib.Core.Path.{◌≡◌, sym, ◌∙◌}
use mathlib.Core.Bool.{false}
use lib.ListN.{drop}
use Rattle.fields.specs.Fields.{fields_of, blank}
use Rattle.fields.proofs.PlaceAnswerLaws.{number_is}
use Rattle.fields.proofs.ReaderLaws.{between-within}
use Rattle.text_lines.proofs.PartLaws.{exit}
use Rattle.listing.proofs.AskedLaws.{capture-none, capture-some}
use Rattle.listing.proofs.asked.capture_at.Goals as goal
use Rattle.listing.proofs.asked.capture_at.Goals.{Else-is_blank}

-- a field is left
left : (c : Else-is_blank) → blank (fields_of (drop c.args.at c.args.l.now)) ≡ false
left c = sym c.is_blank.ensures ∙ c.if-is_blank.false

pub returns-then-is_blank : goal.returns-then-is_blank
returns-then-is_blank c = sym (capture-none _ (sym c.is_blank.ensures ∙ c.if-is_blank.true))

pub returns-in_err-c : goal.returns-in_err-c
returns-in_err-c s = let e = number_is _ _ _ _ s.in_err-c.ensures ∙ sym (capture-some _ (left (goal.at.returns-in_err-c s).Else-is_blank)) in
    rw (exit _ s.from_residual.ensures.1) e

pub overflow_cast-result : goal.overflow_cast-result
overflow_cast-result s = let w = between-within _ _ _ _ _ (sym (number_is _ _ _ _ s.in_ok-c.ensures)) in omega arith

pub returns : goal.returns
returns s = number_is _ _ _ _ s.in_ok-c.ensures ∙ sym (capture-some _ (left (goal.at.returns s).Else-is_blank))
