-- `c_interface::tallowwing_module_lines` meets its contract: what is refused is said with the text that is meant, and else where the part is. Assumes nothing.
use Rattle.c_interface.specs.Codes.{places_of}
use Rattle.c_interface.proofs.CodeLaws.{pair-figure-code}
use Rattle.c_interface.proofs.tallowwing_module_lines.Goals as goal

pub returns : goal.returns
returns c = pair-figure-code places_of _ _ c.lines_shown.ensures c.map.ensures.cases c.pair_code_of.ensures
