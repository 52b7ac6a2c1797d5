-- `c_forms::layout_form::layout_bytes` meets its contract: a layout has all its bytes since its arrays have all their places. Assumes
-- nothing.
use native.Mathlib.Omega.{arith}
use Rattle.c_forms.proofs.LengthLaws.{layout_length_lem}
use Rattle.c_forms.proofs.layout_form.layout_bytes.Goals as goal

pub put_front-requires : goal.put_front-requires
put_front-requires c = layout_length_lem c.args.l (omega arith) (omega arith) (omega arith) (omega arith) (omega arith)
