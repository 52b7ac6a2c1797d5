-- `overlay::line::block_line` meets its contract. The definition goes on behind the number as the code does. A number that was read is within
-- its limit, so the cast keeps it. Assumes nothing.
use native.Mathlib.Omega.{arith}
use mathlib.Core.Path.{sym, ap, ◌∙◌}
use Rattle.fields.proofs.ReaderLaws.{after-no, after-got}
use Rattle.text_lines.specs.Parts.{closed}
use Rattle.text_lines.specs.Kinds.{block_line}
use Rattle.text_lines.proofs.HeadLaws.{closed-no}
use Rattle.text_lines.proofs.LevelLaws.{number-within}
use Rattle.text_lines.proofs.PartLaws.{exit}
use Rattle.overlay.proofs.BlockLaws.{shape_no, shape_got}
use Rattle.overlay.proofs.line.block_line.Goals as goal

pub overflow_cast-result : goal.overflow_cast-result
overflow_cast-result c = let w = number-within _ _ _ _ (sym c.in_ok-m.ensures) in omega arith

pub returns-in_err-m : goal.returns-in_err-m
unfolding block_line
returns-in_err-m c = rw (exit _ c.from_residual.ensures.1) (sym (closed-no _ _ (after-no _ _ _ (sym c.in_err-m.ensures))))

pub returns-in_err-shape : goal.returns-in_err-shape
unfolding block_line
returns-in_err-shape c = rw (exit _ c.from_residual-in_err-shape.ensures.1)
    (shape_no (λ s. record { number = c.in_ok-m.m; shape = s }) _ _ c.in_err-shape.ensures ∙ sym (ap closed (after-got _ _ _ _ (sym c.in_ok-m.ensures))))

pub returns : goal.returns
unfolding block_line
returns c = shape_got (λ s. record { number = c.in_ok-m.m; shape = s }) _ _ c.in_ok-shape.ensures ∙ sym (ap closed (after-got _ _ _ _ (sym c.in_ok-m.ensures)))
