-- `text_reader::block::module_tests` meets its contract. The module is made of what was read before and of the tests, which stand at the front of
-- their places. Assumes nothing.
use Rattle.std.proofs.lemmas.Result.{err_from_is_err_and}
use borrow.Author.Rules.{rules}
use mathlib.Core.Path.{sym}
use lib.ListN.{take}
use Rattle.fields.proofs.ReaderLaws.{after-no}
use Rattle.fields.specs.Readers.{give}
use Rattle.soc.proofs.FigureLaws.{figure_back}
use Rattle.text_reader.specs.Reading.{module_of, module_tests}
use Rattle.text_reader.proofs.StepLaws.{step_then, step_given}
use Rattle.text_reader.proofs.block.module_tests.Goals as goal

pub returns-in_err-tests : goal.returns-in_err-tests
unfolding module_tests
returns-in_err-tests c = let p = err_from_is_err_and c.from_residual.result c.from_residual.ensures.1 in
    rw (p.1, p.2) (record { is = sym (after-no _ _ _ (sym c.in_err-tests.ensures)); inside = tt })

pub returns : goal.returns
unfolding module_tests
returns c = let e = c.in_ok-tests.ensures in
    rw (figure_back c.args.body.x (record { sfits = search rules }), figure_back c.args.body.y (record { sfits = search rules }), e.2)
    (step_then (λ ts. give (module_of c.args.shape c.args.body ts)) {a = take c.args.body.tests c.in_ok-tests.tests} (record { is = e.0; inside = e.1 }) (step_given _ _ _ e.1))
