-- `c_interface::tallowwing_write_pair` meets its contract: what the writer answers for the pair, as a code with the text that is meant. Assumes nothing.
use Rattle.c_interface.specs.Codes.{itself}
use Rattle.c_interface.proofs.CodeLaws.{pair-figure-code}
use Rattle.c_interface.proofs.tallowwing_write_pair.Goals as goal

pub returns : goal.returns
returns c = let w = c.write_pair-written in (pair-figure-code itself _ _ w.ensures.0 c.map.ensures.cases c.pair_code_of.ensures, w.ensures.1)
