-- `c_forms::form::put_each` meets its contract. The loop's invariant: the elements so far are put. Assumes nothing.
use Rattle.little_endian.proofs.RowLaws.{Run}
use Rattle.c_forms.proofs.form.put_each.Given as goal

abbrev pub invariant-loop-x : goal.invariant-loop-x
invariant-loop-x g l = Run g.T.Form.bytes g.T.Form.BYTES l.list l.at l.initial.buf l.x-index l.buf l.end
