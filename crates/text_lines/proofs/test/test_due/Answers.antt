-- `text_lines::test::test_due` meets its contract. The definition goes on behind the module's number as the code does. Assumes nothing.
use mathlib.Core.Path.{sym, ◌∙◌}
use Rattle.fields.proofs.ReaderLaws.{after-no, after-got}
use Rattle.text_lines.proofs.PartLaws.{exit}
use Rattle.text_lines.specs.Kinds.{test_due}
use Rattle.text_lines.proofs.test.test_due.Goals as goal

pub returns-in_err-e : goal.returns-in_err-e
unfolding test_due
returns-in_err-e c = rw (exit _ c.from_residual.ensures.1) (sym (after-no _ _ _ (sym c.in_err-e.ensures)))

pub returns : goal.returns
unfolding test_due
returns c = c.key_due-2.ensures ∙ sym (after-got _ _ _ _ (sym c.in_ok-e.ensures))
