-- `text_lines::second::tests_to_end` meets its contract. The number is what `key_figure` read, and the line ends behind it or not. Assumes nothing.
use mathlib.Core.Path.{sym}
use Rattle.fields.proofs.PlaceAnswerLaws.{key-number-is}
use Rattle.text_lines.proofs.HeadLaws.{closed-no, closed-end, closed-left}
use Rattle.text_lines.proofs.PartLaws.{exit}
use Rattle.text_lines.specs.Kinds.{total_tests}
use Rattle.text_lines.proofs.second.tests_to_end.Goals as goal

pub returns-in_err-t : goal.returns-in_err-t
unfolding total_tests
returns-in_err-t c = rw (exit _ c.from_residual.ensures.1) (sym (closed-no _ _ (sym (key-number-is _ _ _ _ _ c.in_err-t.ensures))))

pub returns-in_err-line_end : goal.returns-in_err-line_end
unfolding total_tests
returns-in_err-line_end c = rw (exit _ c.from_residual-in_err-line_end.ensures.1) (closed-left _ _ _ _ (sym (key-number-is _ _ _ _ _ c.in_ok-t.ensures)) c.in_err-line_end.ensures)

pub returns : goal.returns
unfolding total_tests
returns c = closed-end _ _ _ (sym (key-number-is _ _ _ _ _ c.in_ok-t.ensures)) c.in_ok-line_end.ensures
