-- `c_forms::plan_form::plan_bytes` meets its contract: a record has all its bytes since its arrays have all their places. Assumes nothing.
use native.Mathlib.Omega.{arith}
use Rattle.c_forms.proofs.LengthLaws.{plan-length}
use Rattle.c_forms.proofs.plan_form.plan_bytes.Goals as goal

pub put_front-requires : goal.put_front-requires
put_front-requires c = plan-length c.args.p (record { buses = omega arith; modules = omega arith })
