-- `text_reader::read::modules_to_end` meets its contract. The definition goes on behind the modules as the code does: no line is due there.
-- Assumes nothing.
use borrow.Author.Tests.{lt-ltb}
use mathlib.Core.Path.{◌≡◌, sym, ap, ◌∙◌}
use Rattle.std.specs.Prelude.{Err}
use Rattle.std.proofs.lemmas.Result.{err_from_is_err_and}
use Rattle.fields.proofs.ReaderLaws.{after-no, after-got}
use Rattle.text_reader.specs.Reading.{rest, answer}
use Rattle.text_reader.proofs.MarkLaws.{refused_marked}
use Rattle.text_reader.proofs.StepLaws.{no-more-line, no-more-end}
use Rattle.text_reader.proofs.read.modules_to_end.Goals as goal

pub due_line-requires : goal.due_line-requires
due_line-requires c = c.in_ok-read.ensures.1

pub returns-in_err-read : goal.returns-in_err-read
unfolding rest answer
returns-in_err-read c =
    let p = err_from_is_err_and c.from_residual.result c.from_residual.ensures.1 in
    rw (p.1, p.2) (refused_marked _ _ _ _ _ (sym (ap answer (after-no _ _ _ (sym c.in_err-read.ensures)))))

pub returns-in-Some : goal.returns-in-Some
unfolding rest answer
returns-in-Some c = refused_marked _ _ _ _ _
    (ap Err c.at.ensures
    ∙ sym (ap answer (after-got _ _ _ _ (sym c.in_ok-read.ensures.0) ∙ after-no _ _ _ (no-more-line _ _ c.in-Some.l c.in-Some.ensures))))

pub returns : goal.returns
unfolding rest answer
returns c = let e = c.in_ok-read.ensures in
    let z = c.in_default.ensures in
    record {
      read = rw e.2 (sym (ap answer (after-got _ _ _ _ (sym e.0) ∙ after-got _ _ _ _ (no-more-end _ z))));
      marks = λ k. rw z at (e.3 (lt-ltb _ _ k));
    }
