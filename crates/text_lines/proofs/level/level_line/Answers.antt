-- `text_lines::level::level_line` meets its contract. The definition goes on behind the level as the code does. A level that was read is
-- within its limit, so the cast keeps it. Assumes nothing.
use native.Mathlib.Omega.{arith}
use mathlib.Core.Path.{sym, ap, ◌∙◌}
use Rattle.fields.proofs.ReaderLaws.{after-no, after-got}
use Rattle.text_lines.specs.Parts.{closed}
use Rattle.text_lines.proofs.HeadLaws.{closed-no}
use Rattle.text_lines.proofs.PartLaws.{exit}
use Rattle.text_lines.proofs.LevelLaws.{level-within}
use Rattle.text_lines.specs.Kinds.{level_line}
use Rattle.text_lines.proofs.level.level_line.Goals as goal

pub returns-in_err-v : goal.returns-in_err-v
unfolding level_line
returns-in_err-v c = rw (exit _ c.from_residual.ensures.1) (sym (closed-no _ _ (after-no _ _ _ (sym c.in_err-v.ensures))))

pub overflow_cast-v : goal.overflow_cast-v
overflow_cast-v c = let w = level-within _ _ _ _ _ (sym c.in_ok-v.ensures) in omega arith

pub returns : goal.returns
unfolding level_line
returns c = c.shape_to_end.ensures ∙ sym (ap closed (after-got _ _ _ _ (sym c.in_ok-v.ensures)))
