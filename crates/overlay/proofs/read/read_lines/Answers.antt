-- `overlay::read::read_lines` meets its contract. The definition goes on behind the first line as the code does. Assumes nothing.
use native.Mathlib.Omega.{arith}
use mathlib.Core.Path.{sym, ap}
use Rattle.std.proofs.lemmas.Result.{err_from_is_err_and}
use Rattle.fields.proofs.ReaderLaws.{after-no, after-got}
use Rattle.text_lines.specs.Kinds.{overlay_line}
use Rattle.text_reader.proofs.StepLaws.{step_no, step_got}
use Rattle.overlay.specs.Overlay.{overlay, answer}
use Rattle.overlay.proofs.BlockMarks.{overlay_other, refused_marked, marked_behind}
use Rattle.overlay.proofs.read.read_lines.Goals as goal

pub name_step-requires : goal.name_step-requires
name_step-requires c = record { at = omega arith; line = omega arith }

pub read_behind_name-requires : goal.read_behind_name-requires
read_behind_name-requires c = c.in_ok-name.ensures.inside

pub returns-in_err-name : goal.returns-in_err-name
unfolding overlay answer
returns-in_err-name c = let p = err_from_is_err_and c.from_residual.result c.from_residual.ensures.1 in
    rw (p.1, p.2) (refused_marked _ _ _ _ _ (sym (ap answer (after-no _ _ _ (step_no c.in_err-name.ensures)))))

pub returns : goal.returns
unfolding overlay
returns c = let n = step_got c.in_ok-name.ensures in
    marked_behind _ _ overlay_line _ _ _ n (λ l w. overlay_other _ l _ w) _ _ _ (sym (ap answer (after-got _ _ _ _ n))) c.read_behind_name.ensures
