-- `text_lines::test::test_line` meets its contract. The definition goes on behind the numbers due and behind the flags as the code does.
-- Assumes nothing.
use mathlib.Core.Path.{sym, ap, ◌∙◌}
use Rattle.fields.proofs.ReaderLaws.{after-no, after-got}
use Rattle.text_lines.specs.Parts.{closed}
use Rattle.text_lines.proofs.HeadLaws.{closed-no}
use Rattle.text_lines.proofs.PartLaws.{exit}
use Rattle.text_lines.specs.Kinds.{test_line}
use Rattle.text_lines.proofs.test.test_line.Goals as goal

pub returns-in_err-e1 : goal.returns-in_err-e1
unfolding test_line
returns-in_err-e1 c = rw (exit _ c.from_residual.ensures.1) (sym (closed-no _ _ (after-no _ _ _ (sym c.in_err-e1.ensures))))

pub returns-in_err-u : goal.returns-in_err-u
unfolding test_line
returns-in_err-u c = rw (exit _ c.from_residual-in_err-u.ensures.1) (sym (closed-no _ _ (after-got _ _ _ _ (sym c.in_ok-e1.ensures) ∙ after-no _ _ _ (sym c.in_err-u.ensures))))

pub returns : goal.returns
unfolding test_line
returns c = c.patterns_to_end.ensures ∙ sym (ap closed (after-got _ _ _ _ (sym c.in_ok-e1.ensures) ∙ after-got _ _ _ _ (sym c.in_ok-u.ensures)))
