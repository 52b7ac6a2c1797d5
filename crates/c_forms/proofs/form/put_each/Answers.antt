-- `c_forms::form::put_each` meets its contract: what its invariant (Invariants.antt) leaves to show. Assumes nothing.
use native.Mathlib.Omega.{arith}
use Prim.Native.Nat.{suc, ◌*◌, ◌≤◌}
use native.Mathlib.Nat.{mul-suc}
use mathlib.Core.Path.{refl}
use lib.ListN.{length}
use Rattle.std.proofs.Math.Nat.{mul-le-mul_left}
use Rattle.little_endian.proofs.RowLaws.{run_none, run_more, run-all}
use Rattle.c_forms.proofs.form.put_each.Goals as goal

pub loop-x-init : goal.loop-x-init
loop-x-init g c = run_none g.T.Form.bytes g.T.Form.BYTES _ _ _

pub put-end-requires : goal.put-end-requires
put-end-requires g c =
    let k = g.T.Form.BYTES in
    let o : k * suc c.loop-x.x-index ≤ k * length c.args.list.now = mul-le-mul_left k (omega arith) in
    omega (arith, mul-suc k c.loop-x.x-index, o)

pub loop-x-preserved : goal.loop-x-preserved
loop-x-preserved g c =
    let p = rw c.x-item.is at c.put-end.ensures in
    run_more g.T.Form.bytes g.T.Form.BYTES c.args.list.now c.x-item.result (omega arith) (omega arith) c.loop-x.invariant
    c.put-end.auto.buf p.long p.put

pub returns : goal.returns
returns g c =
    let a = run-all g.T.Form.bytes g.T.Form.BYTES c.args.list.now (length c.args.list.now) refl (omega arith) c.loop-x.invariant in
    record { put = a.0; long = a.1 }
