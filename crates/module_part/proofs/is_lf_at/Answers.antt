-- `module_part::is_lf_at` meets its contract: what stands behind a place begins with the byte there. Assumes nothing.
use Rattle.module_part.proofs.TrimLaws.{lf-here, lf-over}
use Rattle.module_part.proofs.is_lf_at.Goals as goal

pub returns-then-i-text : goal.returns-then-i-text
returns-then-i-text c = lf-here c.args.text.now c.args.i c.if-i-text.true

pub returns-else-i-text : goal.returns-else-i-text
returns-else-i-text c = lf-over c.args.text.now c.args.i c.if-i-text.false
