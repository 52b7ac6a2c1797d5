-- `text_lines::part::is_next` meets its contract: the answer is whether the keyword was read. Assumes nothing.
use mathlib.Core.Path.{◌∙◌}
use Rattle.fields.proofs.PlaceAnswerLaws.{word-is}
use Rattle.text_lines.proofs.PartLaws.{next-word}
use Rattle.text_lines.proofs.part.is_next.Goals as goal

pub returns : goal.returns
returns c = c.is_ok.ensures.value ∙ next-word _ _ _ _ (word-is _ _ _ c.past_word.ensures)
