-- `overlay::block::one_block` meets its contract. The definition goes on behind the block's first line as the code does. Assumes nothing.
use native.Mathlib.Omega.{arith}
use Rattle.std.specs.Prelude.{Ok}
use Rattle.std.proofs.lemmas.Result.{err_from_is_err_and}
use Rattle.text_lines.specs.Kinds.{BlockStart, block_line}
use Rattle.text_line_reader.specs.Due.{lines_at}
use Rattle.text_reader.specs.Lines.{line}
use Rattle.text_reader.specs.Steps.{StepMeans}
use Rattle.text_reader.proofs.StepLaws.{step_missing, step_fails, step_then, step_given}
use Rattle.overlay.specs.Overlay.{block}
use Rattle.overlay.specs.Steps.{start_in}
use Rattle.overlay.proofs.BlockLaws.{start_no, start_got}
use Rattle.overlay.proofs.block.one_block.Goals as goal
use Rattle.overlay.proofs.block.one_block.Goals.{In_ok-line}

-- the line that was read
read : (c : In_ok-line) → StepMeans {A = BlockStart} c.args.text.now (Ok (start_in c.in_ok-line.line, c.in_ok-line.q)) (line (block_line c.args.low) (lines_at c.args.text.now c.args.p))
read c = start_got c.args.low c.args.text.now c.args.p c.in_ok-l.l c.in_ok-l.ensures c.block_line.result c.block_line.ensures _ _ c.in_ok-line.ensures

pub slice_bounds-block_line-count : goal.slice_bounds-block_line-count
slice_bounds-block_line-count c = c.in_ok-l.ensures.begin

pub slice_bounds-block_line-start : goal.slice_bounds-block_line-start
slice_bounds-block_line-start c = let k = c.in_ok-l.ensures in omega arith

pub slice_bounds-block_line-end : goal.slice_bounds-block_line-end
slice_bounds-block_line-end c = let k = c.in_ok-l.ensures in omega arith

pub module_rest-requires : goal.module_rest-requires
module_rest-requires c = (read (goal.at.module_rest-requires c).In_ok-line).inside

pub returns-in_err-l : goal.returns-in_err-l
unfolding block
returns-in_err-l c = let p = err_from_is_err_and c.from_residual.result c.from_residual.ensures.1 in
    rw (p.1, p.2) (step_fails _ (step_missing (block_line c.args.low) _ _ c.in_err-l.ensures))

pub returns-in_err-line : goal.returns-in_err-line
unfolding block
returns-in_err-line c = let p = err_from_is_err_and c.from_residual-in_err-line.result c.from_residual-in_err-line.ensures.1 in
    rw (p.1, p.2)
    (step_fails _ (start_no c.args.low c.args.text.now c.args.p c.in_ok-l.l c.in_ok-l.ensures c.block_line.result c.block_line.ensures _ c.in_err-line.ensures))

pub returns-in_err-says : goal.returns-in_err-says
unfolding block
returns-in_err-says c = let p = err_from_is_err_and c.from_residual-in_err-says.result c.from_residual-in_err-says.ensures.1 in
    rw (p.1, p.2) (step_then _ (read (goal.at.returns-in_err-says c).In_ok-line) (step_fails _ c.in_err-says.ensures))

pub returns : goal.returns
unfolding block
returns c = step_then _ (read (goal.at.returns c).In_ok-line) (step_then _ c.in_ok-says.ensures (step_given _ _ _ c.in_ok-says.ensures.inside))
