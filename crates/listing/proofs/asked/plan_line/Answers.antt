-- `listing::asked::plan_line` meets its contract. The definition goes on behind the keyword and behind each number as the code does, and then the line
-- must end. A number that was read fits 32 bits. Assumes nothing.
use native.Mathlib.Omega.{arith}
use mathlib.Core.Path.{sym, ◌∙◌}
use Rattle.fields.proofs.PlaceAnswerLaws.{word-is, number_is}
use Rattle.fields.proofs.ReaderLaws.{after-no, after-got, between-within}
use Rattle.text_lines.proofs.HeadLaws.{closed-no, closed-blank, closed-more}
use Rattle.text_lines.proofs.PartLaws.{exit}
use Rattle.listing.specs.Asked.{plan_numbers, plan_line}
use Rattle.listing.proofs.asked.plan_line.Goals as goal

pub returns-in_err-e1 : goal.returns-in_err-e1
unfolding plan_line
returns-in_err-e1 c = rw (exit _ c.from_residual.ensures.1) (sym (closed-no _ _ (after-no _ _ _ (sym (word-is _ _ _ c.in_err-e1.ensures)))))

pub returns-in_err-wires : goal.returns-in_err-wires
unfolding plan_line plan_numbers
returns-in_err-wires c = rw (exit _ c.from_residual-in_err-wires.ensures.1)
    (sym (closed-no _ _ (after-got _ _ _ _ (sym (word-is _ _ _ c.in_ok-e1.ensures)) ∙ after-no _ _ _ (sym (number_is _ _ _ _ c.in_err-wires.ensures)))))

pub returns-in_err-limit : goal.returns-in_err-limit
unfolding plan_line plan_numbers
returns-in_err-limit c = rw (exit _ c.from_residual-in_err-limit.ensures.1)
    (sym (closed-no _ _ (after-got _ _ _ _ (sym (word-is _ _ _ c.in_ok-e1.ensures)) ∙ after-got _ _ _ _ (sym (number_is _ _ _ _ c.in_ok-wires.ensures))
    ∙ after-no _ _ _ (sym (number_is _ _ _ _ c.in_err-limit.ensures)))))

pub returns-in_err-capture : goal.returns-in_err-capture
unfolding plan_line plan_numbers
returns-in_err-capture c = rw (exit _ c.from_residual-in_err-capture.ensures.1)
    (sym (closed-no _ _ (after-got _ _ _ _ (sym (word-is _ _ _ c.in_ok-e1.ensures)) ∙ after-got _ _ _ _ (sym (number_is _ _ _ _ c.in_ok-wires.ensures))
    ∙ after-got _ _ _ _ (sym (number_is _ _ _ _ c.in_ok-limit.ensures)) ∙ after-no _ _ _ (sym c.in_err-capture.ensures))))

pub returns-then-not-is_blank : goal.returns-then-not-is_blank
unfolding plan_line plan_numbers
returns-then-not-is_blank c = sym (closed-more _ _ _
    (after-got _ _ _ _ (sym (word-is _ _ _ c.in_ok-e1.ensures)) ∙ after-got _ _ _ _ (sym (number_is _ _ _ _ c.in_ok-wires.ensures))
    ∙ after-got _ _ _ _ (sym (number_is _ _ _ _ c.in_ok-limit.ensures)) ∙ after-got _ _ _ _ (sym c.in_ok-capture.ensures))
    (sym c.is_blank.ensures ∙ c.if-not-is_blank.true))

pub overflow_cast-result : goal.overflow_cast-result
overflow_cast-result c = let w = between-within _ _ _ _ _ (sym (number_is _ _ _ _ c.in_ok-wires.ensures)) in omega arith

pub overflow_cast-result-2 : goal.overflow_cast-result-2
overflow_cast-result-2 c = let w = between-within _ _ _ _ _ (sym (number_is _ _ _ _ c.in_ok-limit.ensures)) in omega arith

pub returns : goal.returns
unfolding plan_line plan_numbers
returns c = sym (closed-blank _ _ _
    (after-got _ _ _ _ (sym (word-is _ _ _ c.in_ok-e1.ensures)) ∙ after-got _ _ _ _ (sym (number_is _ _ _ _ c.in_ok-wires.ensures))
    ∙ after-got _ _ _ _ (sym (number_is _ _ _ _ c.in_ok-limit.ensures)) ∙ after-got _ _ _ _ (sym c.in_ok-capture.ensures))
    (sym c.is_blank.ensures ∙ c.if-not-is_blank.false))
