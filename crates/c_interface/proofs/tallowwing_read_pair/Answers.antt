-- `c_interface::tallowwing_read_pair` meets its contract: what is refused is said with the text that is meant, and else the result's bytes are put, of which there are
-- some. Assumes nothing.
use native.Mathlib.Omega.{arith}
use Rattle.c_interface.specs.Codes.{both_bytes}
use Rattle.c_interface.proofs.CodeLaws.{pair-refused-given, pair-whole-given}
use Rattle.c_interface.proofs.tallowwing_read_pair.Goals as goal

pub returns-in-Ok : goal.returns-in-Ok
returns-in-Ok c = pair-whole-given both_bytes c.args.into.now (c.in-Ok.ensures) (omega arith) c.soc_bytes.ensures c.code_of_bytes.ensures

pub returns-in-Err : goal.returns-in-Err
returns-in-Err c = pair-refused-given both_bytes c.args.into.now (c.in-Err.ensures) c.pair_refused.ensures
