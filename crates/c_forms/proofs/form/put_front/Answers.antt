-- `c_forms::form::put_front` meets its contract: with the room all of it is put at the front. Assumes nothing.
use native.Mathlib.Omega.{arith}
use Rattle.c_forms.proofs.PutOfLaws.{all-put}
use Rattle.c_forms.proofs.form.put_front.Goals as goal

pub returns : goal.returns
returns g c = all-put (g.T.Form.bytes c.args.x) c.args.buf.now (omega arith) c.put.ensures
