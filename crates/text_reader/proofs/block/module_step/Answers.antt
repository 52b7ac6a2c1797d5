-- `text_reader::block::module_step` meets its contract. The definition goes on behind the module's first line as the code does. Assumes nothing.
use Rattle.std.proofs.lemmas.Result.{err_from_is_err_and}
use Rattle.text_reader.specs.Reading.{module_rest, module_lines}
use Rattle.text_reader.proofs.StepLaws.{step_fails, step_then}
use Rattle.text_reader.proofs.block.module_step.Goals as goal

pub module_rest-requires : goal.module_rest-requires
module_rest-requires c = c.in_ok-shape.ensures.inside

pub returns-in_err-shape : goal.returns-in_err-shape
unfolding module_lines
returns-in_err-shape c = let p = err_from_is_err_and c.from_residual.result c.from_residual.ensures.1 in rw (p.1, p.2) (step_fails (module_rest c.args.o c.args.m) c.in_err-shape.ensures)

pub returns : goal.returns
unfolding module_lines
returns c = step_then (module_rest c.args.o c.args.m) c.in_ok-shape.ensures c.module_rest.ensures
