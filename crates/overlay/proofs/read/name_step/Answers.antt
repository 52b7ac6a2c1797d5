-- `overlay::read::name_step` meets its contract: the line that is due says what its reader answers. Assumes nothing.
use native.Mathlib.Omega.{arith}
use mathlib.Core.Path.{ap, ◌∙◌}
use Rattle.std.proofs.lemmas.Result.{err_from_is_err_and}
use Rattle.text_lines.specs.Kinds.{overlay_line}
use Rattle.text_reader.specs.Steps.{taken}
use Rattle.text_reader.proofs.StepLaws.{step_missing, step_line}
use Rattle.overlay.proofs.read.name_step.Goals as goal

pub slice_bounds-overlay_line-count : goal.slice_bounds-overlay_line-count
slice_bounds-overlay_line-count c = c.in_ok-l.ensures.begin

pub slice_bounds-overlay_line-start : goal.slice_bounds-overlay_line-start
slice_bounds-overlay_line-start c = let k = c.in_ok-l.ensures in omega arith

pub slice_bounds-overlay_line-end : goal.slice_bounds-overlay_line-end
slice_bounds-overlay_line-end c = let k = c.in_ok-l.ensures in omega arith

pub returns-in_err-l : goal.returns-in_err-l
returns-in_err-l c = let p = err_from_is_err_and c.from_residual.result c.from_residual.ensures.1 in rw (p.1, p.2) (step_missing overlay_line _ _ c.in_err-l.ensures)

pub returns : goal.returns
returns c = step_line overlay_line _ _ _ c.in_ok-l.ensures (c.taken.ensures ∙ ap (λ r. taken r c.in_ok-l.l) c.overlay_line.ensures)
