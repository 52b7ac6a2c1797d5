-- `text_reader::block::body_step` meets its contract. The second line says a position or a number of tests, and behind a position the number of tests is read
-- from the next line. Assumes nothing.
use borrow.Author.Rules.{rules}
use mathlib.Core.Path.{◌≡◌, ap}
use mir.Syntax.{w32}
use mir.Val.{SFits}
use Rattle.std.specs.Prelude.{Ok}
use Rattle.std.proofs.lemmas.Result.{err_from_is_err_and}
use Rattle.fields.proofs.ReaderLaws.{after-got}
use Rattle.soc.proofs.FigureLaws.{figure_back}
use Rattle.text_lines.specs.Kinds.{second_line}
use Rattle.text_lines.specs.declared.second.SecondLine.{SecondLine}
use Rattle.text_lines.specs.declared.second.SecondLine.TheVariants.{Position, Tests}
use Rattle.text_reader.specs.Lines.{line}
use Rattle.text_reader.specs.Reading.{behind, body}
use Rattle.text_line_reader.specs.Due.{lines_at}
use Rattle.text_reader.specs.Steps.{StepMeans}
use Rattle.text_reader.proofs.StepLaws.{step_fails, step_then, step_given}
use Rattle.text_reader.proofs.block.body_step.Goals as goal
use Rattle.text_reader.proofs.block.body_step.Goals.{In-Position}

x_fits : (c : In-Position) → SFits w32 c.in-Position.x
x_fits c = record { sfits = search rules }

y-fits : (c : In-Position) → SFits w32 c.in-Position.y
y-fits c = record { sfits = search rules }

-- the position that was read
position : (c : In-Position) → StepMeans {A = SecondLine} c.args.text.now (Ok (Position c.in-Position.x c.in-Position.y, c.in_ok-second.next)) (line (second_line c.args.m c.args.xy) (lines_at c.args.text.now c.args.p))
position c = rw c.in-Position.is at c.in_ok-second.ensures

pub tests_count_step-requires : goal.tests_count_step-requires
tests_count_step-requires c = c.in_ok-second.ensures.inside

pub returns-in_err-second : goal.returns-in_err-second
unfolding body
returns-in_err-second c = let p = err_from_is_err_and c.from_residual.result c.from_residual.ensures.1 in rw (p.1, p.2) (step_fails (behind c.args.m) c.in_err-second.ensures)

pub returns-in-Tests : goal.returns-in-Tests
unfolding body behind
returns-in-Tests c =
    let s : StepMeans {A = SecondLine} c.args.text.now (Ok (Tests c.in-Tests.tests, c.in_ok-second.next)) (line (second_line c.args.m c.args.xy) (lines_at c.args.text.now c.args.p)) = rw c.in-Tests.is at c.in_ok-second.ensures in
    step_then (behind c.args.m) s (step_given _ _ _ s.inside)

pub returns-in_err-tests-in-Position : goal.returns-in_err-tests-in-Position
unfolding body behind
returns-in_err-tests-in-Position c =
    let p = err_from_is_err_and c.from_residual-in_err-tests-in-Position.result c.from_residual-in_err-tests-in-Position.ensures.1 in
    rw (p.1, p.2) (step_then (behind c.args.m) (position (goal.at.returns-in_err-tests-in-Position c).In-Position) (step_fails _ c.in_err-tests-in-Position.ensures))

pub returns-in_ok-tests-in-Position : goal.returns-in_ok-tests-in-Position
unfolding body behind
returns-in_ok-tests-in-Position c =
    let k = (goal.at.returns-in_ok-tests-in-Position c).In-Position in
    rw (figure_back c.in-Position.x (x_fits k), figure_back c.in-Position.y (y-fits k))
    (step_then (behind c.args.m) (position k) (step_then _ c.in_ok-tests-in-Position.ensures (step_given _ _ _ c.in_ok-tests-in-Position.ensures.inside)))
