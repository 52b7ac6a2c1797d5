-- `text_reader::read::read_behind_name` meets its contract. The definition goes on behind the second and the third line as the code does. Assumes
-- nothing.
use mathlib.Core.Path.{◌≡◌, sym, ap, ◌∙◌}
use Rattle.std.proofs.lemmas.Result.{err_from_is_err_and}
use Rattle.fields.proofs.ReaderLaws.{after-no, after-got}
use Rattle.text_reader.specs.Reading.{behind_name, answer}
use Rattle.text_reader.proofs.CountLaws.{total-count}
use Rattle.text_reader.proofs.LinesOfLaws.{total_other, options_other}
use Rattle.text_reader.proofs.MarkLaws.{refused_marked, marked_behind}
use Rattle.text_reader.proofs.StepLaws.{step_no, step_got}
use Rattle.text_reader.proofs.read.read_behind_name.Goals as goal

pub returns-in_err-n : goal.returns-in_err-n
unfolding behind_name answer
returns-in_err-n c =
    let p = err_from_is_err_and c.from_residual.result c.from_residual.ensures.1 in
    rw (p.1, p.2) (refused_marked _ _ _ _ _ (sym (ap answer (after-no _ _ _ (step_no c.in_err-n.ensures)))))

pub options_step-requires : goal.options_step-requires
options_step-requires c = c.in_ok-n.ensures.inside

pub returns-in_err-o : goal.returns-in_err-o
unfolding behind_name answer
returns-in_err-o c =
    let p = err_from_is_err_and c.from_residual-in_err-o.result c.from_residual-in_err-o.ensures.1 in
    rw (p.1, p.2) (refused_marked _ _ _ _ _ (sym (ap answer (after-got _ _ _ _ (step_got c.in_ok-n.ensures) ∙ after-no _ _ _ (step_no c.in_err-o.ensures)))))

pub modules_to_end-requires : goal.modules_to_end-requires
modules_to_end-requires c = (c.in_ok-o.ensures.inside, total-count _ _ _ (step_got c.in_ok-n.ensures))

pub returns : goal.returns
unfolding behind_name
returns c =
    let n = step_got c.in_ok-n.ensures in
    let o = step_got c.in_ok-o.ensures in
    marked_behind _ _ _ _ _ _ n (λ l w. total_other _ l _ w) _ _ _ (sym (ap answer (after-got _ _ _ _ n)))
    (marked_behind _ _ _ _ _ _ o (λ l w. options_other _ l _ w) _ _ _ (sym (ap answer (after-got _ _ _ _ o))) c.modules_to_end.ensures)
