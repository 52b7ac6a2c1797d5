-- `c_interface::tallowwing_module_wires` meets its contract: the answer for the record in the bytes, as a code. Assumes nothing.
use mathlib.Core.Path.{ap, ◌∙◌}
use Rattle.wrapper_times.specs.TimeAnswers.{module_time_answer}
use Rattle.c_interface.specs.Codes.{wires_of}
use Rattle.c_interface.proofs.CodeLaws.{figure-code}
use Rattle.c_interface.proofs.tallowwing_module_wires.Goals as goal

pub returns : goal.returns
returns c = let a = c.args in
    let e = c.module_time-best.ensures ∙ ap (λ d. module_time_answer d a.«module» a.width a.capture) c.soc_in-s.ensures in
    figure-code wires_of _ _ e c.map.ensures.cases c.code_of.ensures
