-- `overlay::read::read_blocks` meets its contract. The definition goes on behind the blocks as the code does. Assumes nothing.
use mathlib.Core.Path.{sym, ap}
use Rattle.std.proofs.lemmas.Result.{err_from_is_err_and}
use Rattle.fields.proofs.ReaderLaws.{after-no, after-got}
use Rattle.overlay.specs.Overlay.{with_blocks, answer}
use Rattle.overlay.proofs.BlockMarks.{refused_marked}
use Rattle.overlay.proofs.read.read_blocks.Goals as goal

pub returns-in_err-read : goal.returns-in_err-read
unfolding with_blocks answer
returns-in_err-read c = let p = err_from_is_err_and c.from_residual.result c.from_residual.ensures.1 in
    rw (p.1, p.2) (refused_marked _ _ _ _ _ (sym (ap answer (after-no _ _ _ (sym c.in_err-read.ensures)))))

pub returns : goal.returns
unfolding with_blocks answer
returns c = let b = c.in_ok-read.ensures in record { read = sym (ap answer (after-got _ _ _ _ (sym b.0))); marks = b.1 }
