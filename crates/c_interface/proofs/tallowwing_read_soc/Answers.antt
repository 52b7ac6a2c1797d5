-- `c_interface::tallowwing_read_soc` meets its contract: what is refused is said, and else the result's bytes are put, of which there are some. Assumes nothing.
use native.Mathlib.Omega.{arith}
use Rattle.c_forms.specs.SocForm.{soc_bytes}
use Rattle.c_interface.proofs.CodeLaws.{whole-given}
use Rattle.c_interface.proofs.tallowwing_read_soc.Goals as goal

pub returns-in-Ok : goal.returns-in-Ok
returns-in-Ok c = whole-given soc_bytes c.args.into.now (c.in-Ok.ensures) (omega arith) c.soc_bytes.ensures c.code_of_bytes.ensures
