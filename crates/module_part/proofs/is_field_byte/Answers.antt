-- `module_part::is_field_byte` meets its contract: what stands behind a place begins with the byte there. Assumes nothing.
use mathlib.Core.Path.{◌∙◌}
use Rattle.module_part.proofs.TrimLaws.{byte-here, byte-over}
use Rattle.module_part.proofs.is_field_byte.Goals as goal

pub returns-then-i-text : goal.returns-then-i-text
returns-then-i-text c = c.is_of_field.ensures ∙ byte-here c.args.text.now c.args.i c.if-i-text.true

pub returns-else-i-text : goal.returns-else-i-text
returns-else-i-text c = byte-over c.args.text.now c.args.i c.if-i-text.false
