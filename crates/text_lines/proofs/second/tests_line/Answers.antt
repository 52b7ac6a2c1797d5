-- `text_lines::second::tests_line` meets its contract. The definition goes on behind the module's number as the code does. Assumes nothing.
use mathlib.Core.Path.{sym, ap, ◌∙◌}
use Rattle.fields.proofs.ReaderLaws.{after-no, after-got}
use Rattle.text_lines.specs.Parts.{closed}
use Rattle.text_lines.proofs.HeadLaws.{closed-no}
use Rattle.text_lines.proofs.PartLaws.{exit}
use Rattle.text_lines.specs.Kinds.{tests_line}
use Rattle.text_lines.proofs.second.tests_line.Goals as goal

pub returns-in_err-e : goal.returns-in_err-e
unfolding tests_line
returns-in_err-e c = rw (exit _ c.from_residual.ensures.1) (sym (closed-no _ _ (after-no _ _ _ (sym c.in_err-e.ensures))))

pub returns : goal.returns
unfolding tests_line
returns c = c.tests_to_end.ensures ∙ sym (ap closed (after-got _ _ _ _ (sym c.in_ok-e.ensures)))
