-- `overlay::read::read_behind_name` meets its contract. The definition goes on behind the options as the code does. Assumes nothing.
use mathlib.Core.Path.{sym, ap}
use Rattle.std.proofs.lemmas.Result.{err_from_is_err_and}
use Rattle.fields.proofs.ReaderLaws.{after-no, after-got}
use Rattle.text_reader.proofs.LinesOfLaws.{options_other}
use Rattle.text_reader.proofs.StepLaws.{step_no, step_got}
use Rattle.overlay.specs.Overlay.{behind_name, answer}
use Rattle.overlay.proofs.BlockMarks.{refused_marked, marked_behind}
use Rattle.overlay.proofs.read.read_behind_name.Goals as goal

pub returns-in_err-o : goal.returns-in_err-o
unfolding behind_name answer
returns-in_err-o c = let p = err_from_is_err_and c.from_residual.result c.from_residual.ensures.1 in
    rw (p.1, p.2) (refused_marked _ _ _ _ _ (sym (ap answer (after-no _ _ _ (step_no c.in_err-o.ensures)))))

pub read_blocks-requires : goal.read_blocks-requires
read_blocks-requires c = c.in_ok-o.ensures.inside

pub returns : goal.returns
unfolding behind_name
returns c = let o = step_got c.in_ok-o.ensures in
    marked_behind _ _ _ _ _ _ o (λ l w. options_other _ l _ w) _ _ _ (sym (ap answer (after-got _ _ _ _ o))) c.read_blocks.ensures
