-- `c_interface::tallowwing_layout` meets its contract: what is refused is said, and else the result's bytes are put, of which there are some. Assumes nothing.
use native.Mathlib.Omega.{arith}
use mathlib.Core.Path.{ap, ◌∙◌}
use Rattle.wrapper_layout.specs.LayoutAnswers.{layout_answer}
use Rattle.c_forms.specs.LayoutForm.{layout_bytes}
use Rattle.c_interface.proofs.CodeLaws.{refused-given, whole-given}
use Rattle.c_interface.proofs.tallowwing_layout.Goals as goal

pub returns-in-Ok : goal.returns-in-Ok
returns-in-Ok c = whole-given layout_bytes c.args.into.now (c.in-Ok.ensures ∙ ap (λ d. layout_answer d c.args.«module» c.args.test c.args.width c.args.capture) c.soc_in-s.ensures) (omega arith) c.layout_bytes.ensures c.code_of_bytes.ensures

pub returns-in-Err : goal.returns-in-Err
returns-in-Err c = refused-given layout_bytes c.args.into.now (c.in-Err.ensures ∙ ap (λ d. layout_answer d c.args.«module» c.args.test c.args.width c.args.capture) c.soc_in-s.ensures) c.refusal_code.ensures
