-- `text_lines::head::total_line` meets its contract. The number is what `key_figure` read, and the line ends behind it or not. Assumes nothing.
use mathlib.Core.Path.{sym}
use Rattle.fields.proofs.PlaceAnswerLaws.{key-number-is}
use Rattle.text_lines.proofs.HeadLaws.{closed-no, closed-end, closed-left}
use Rattle.text_lines.proofs.PartLaws.{exit}
use Rattle.text_lines.specs.Kinds.{total_line}
use Rattle.text_lines.proofs.head.total_line.Goals as goal

pub returns-in_err-n : goal.returns-in_err-n
unfolding total_line
returns-in_err-n c = rw (exit _ c.from_residual.ensures.1) (sym (closed-no _ _ (sym (key-number-is _ _ _ _ _ c.in_err-n.ensures))))

pub returns-in_err-line_end : goal.returns-in_err-line_end
unfolding total_line
returns-in_err-line_end c = rw (exit _ c.from_residual-in_err-line_end.ensures.1) (closed-left _ _ _ _ (sym (key-number-is _ _ _ _ _ c.in_ok-n.ensures)) c.in_err-line_end.ensures)

pub returns : goal.returns
unfolding total_line
returns c = closed-end _ _ _ (sym (key-number-is _ _ _ _ _ c.in_ok-n.ensures)) c.in_ok-line_end.ensures
