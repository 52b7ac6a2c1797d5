-- `overlay::line::block_shape` meets its contract. The definition goes on behind the level as the code does. A level that was read is
-- within its limit, so the cast keeps it. Assumes nothing.
use native.Mathlib.Omega.{arith}
use mathlib.Core.Path.{sym, ap, ◌∙◌}
use Rattle.fields.specs.Bytes.{bytes}
use Rattle.fields.proofs.PlaceAnswerLaws.{key-number-is}
use Rattle.fields.proofs.ReaderLaws.{after-no, after-got, key-between-within}
use Rattle.soc.specs.Limits.{level_max}
use Rattle.text_lines.specs.Parts.{closed}
use Rattle.text_lines.specs.Kinds.{block_shape}
use Rattle.text_lines.proofs.HeadLaws.{closed-no}
use Rattle.text_lines.proofs.PartLaws.{exit}
use Rattle.overlay.proofs.line.block_shape.Goals as goal

pub overflow_cast-v : goal.overflow_cast-v
overflow_cast-v c = let w = key-between-within (bytes "Level") 0 level_max _ _ _ (sym (key-number-is _ _ _ _ _ c.in_ok-v.ensures)) in omega arith

pub returns-in_err-v : goal.returns-in_err-v
unfolding block_shape
returns-in_err-v c = rw (exit _ c.from_residual.ensures.1) (sym (closed-no _ _ (after-no _ _ _ (sym (key-number-is _ _ _ _ _ c.in_err-v.ensures)))))

pub returns : goal.returns
unfolding block_shape
returns c = c.shape_to_end.ensures ∙ sym (ap closed (after-got _ _ _ _ (sym (key-number-is _ _ _ _ _ c.in_ok-v.ensures))))
