-- `text_reader::block::module_rest` meets its contract. The definition goes on behind the module's second line as the code does. Assumes nothing.
use Rattle.std.proofs.lemmas.Result.{err_from_is_err_and}
use Rattle.text_reader.specs.Reading.{module_tests, module_rest}
use Rattle.text_reader.proofs.CountLaws.{body-count}
use Rattle.text_reader.proofs.StepLaws.{step_got, step_fails, step_then}
use Rattle.text_reader.proofs.block.module_rest.Goals as goal

pub module_tests-requires : goal.module_tests-requires
module_tests-requires c = (c.in_ok-body.ensures.inside, body-count c.args.m c.args.o.xy _ _ _ (step_got c.in_ok-body.ensures))

pub returns-in_err-body : goal.returns-in_err-body
unfolding module_rest
returns-in_err-body c = let p = err_from_is_err_and c.from_residual.result c.from_residual.ensures.1 in rw (p.1, p.2) (step_fails (module_tests c.args.o c.args.m c.args.shape) c.in_err-body.ensures)

pub returns : goal.returns
unfolding module_rest
returns c = step_then (module_tests c.args.o c.args.m c.args.shape) c.in_ok-body.ensures c.module_tests.ensures
