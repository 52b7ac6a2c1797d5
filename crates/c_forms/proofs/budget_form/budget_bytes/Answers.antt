-- `c_forms::budget_form::budget_bytes` meets its contract: what was found has all its bytes since the plan does. Assumes nothing.
use native.Mathlib.Omega.{arith}
use Rattle.c_forms.proofs.LengthLaws.{budget_length_lem}
use Rattle.c_forms.proofs.budget_form.budget_bytes.Goals as goal

pub put_front-requires : goal.put_front-requires
put_front-requires c = let a = c.args in
    budget_length_lem a.finished a.known a.tries a.p (record { buses = omega arith; modules = omega arith })
