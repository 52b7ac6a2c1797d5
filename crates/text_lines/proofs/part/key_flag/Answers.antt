-- `text_lines::part::key_flag` meets its contract. The definition goes on behind the keyword as the code does. Assumes nothing.
use mathlib.Core.Path.{sym, ◌∙◌}
use Rattle.fields.proofs.PlaceAnswerLaws.{word-is}
use Rattle.fields.proofs.ReaderLaws.{after-no, after-got}
use Rattle.text_lines.proofs.PartLaws.{exit}
use Rattle.text_lines.proofs.part.key_flag.Goals as goal

pub returns-in_err-e : goal.returns-in_err-e
returns-in_err-e c = rw (exit _ c.from_residual.ensures.1) (sym (after-no _ _ _ (sym (word-is _ _ _ c.in_err-e.ensures))))

pub returns : goal.returns
returns c = c.flag_at.ensures ∙ sym (after-got _ _ _ _ (sym (word-is _ _ _ c.in_ok-e.ensures)))
