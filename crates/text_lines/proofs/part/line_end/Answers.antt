-- `text_lines::part::line_end` meets its contract: a field is left or none is. Assumes nothing.
use mathlib.Core.Path.{refl, sym, ◌∙◌}
use Rattle.text_lines.proofs.HeadLaws.{closed-blank, closed-more}
use Rattle.text_lines.proofs.part.line_end.Goals as goal

pub returns-then-is_blank : goal.returns-then-is_blank
returns-then-is_blank c = sym (closed-blank _ _ _ refl (sym c.is_blank.ensures ∙ c.if-is_blank.true))

pub returns-else-is_blank : goal.returns-else-is_blank
returns-else-is_blank c = sym (closed-more _ _ _ refl (sym c.is_blank.ensures ∙ c.if-is_blank.false))
