-- `pair::read::read_pair` meets its contract: it says what the reader with marks says. Assumes nothing.
use Rattle.std.proofs.lemmas.Result.{err_from_is_err_and}
use Rattle.pair.proofs.read.read_pair.Goals as goal

pub returns-in_err-read : goal.returns-in_err-read
returns-in_err-read c = let p = err_from_is_err_and c.from_residual.result c.from_residual.ensures.1 in rw (p.1, p.2) c.in_err-read.ensures.pair

pub returns : goal.returns
returns c = c.in_ok-read.ensures.pair
