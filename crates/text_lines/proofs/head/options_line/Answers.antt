-- `text_lines::head::options_line` meets its contract. The definition goes on behind the keyword as the code does. Assumes nothing.
use mathlib.Core.Path.{sym, ap, ◌∙◌}
use Rattle.fields.proofs.PlaceAnswerLaws.{word-is}
use Rattle.fields.proofs.ReaderLaws.{after-no, after-got}
use Rattle.text_lines.specs.Parts.{closed}
use Rattle.text_lines.proofs.HeadLaws.{closed-no}
use Rattle.text_lines.proofs.PartLaws.{exit}
use Rattle.text_lines.specs.Kinds.{options_line}
use Rattle.text_lines.proofs.head.options_line.Goals as goal

pub returns-in_err-e : goal.returns-in_err-e
unfolding options_line
returns-in_err-e c = rw (exit _ c.from_residual.ensures.1) (sym (closed-no _ _ (after-no _ _ _ (sym (word-is _ _ _ c.in_err-e.ensures)))))

pub returns : goal.returns
unfolding options_line
returns c = c.options_at.ensures ∙ sym (ap closed (after-got _ _ _ _ (sym (word-is _ _ _ c.in_ok-e.ensures))))
