-- `plan_file::rows::put_records` meets its contract: what its invariant (Invariants.antt) leaves to show. Assumes nothing.
use native.Mathlib.Omega.{arith}
use Prim.Native.Nat.{◌+◌, ◌*◌, ◌≤◌}
use mathlib.Core.Path.{◌≡◌, refl, sym}
use lib.ListN.{length}
use Rattle.std.proofs.Math.Nat.{mul-le-mul_left}
use Rattle.little_endian.proofs.RowLaws.{run_none}
use Rattle.plan_file.proofs.FileLaws.{run_lent, run-front}
use Rattle.plan_file.proofs.rows.put_records.Goals as goal

pub loop-i-init : goal.loop-i-init
loop-i-init g c = let k = g.R.Record.STRIDE in
    let e : k * 0 ≡ 0 = omega arith in
    rw e (run_none g.R.Record.bytes k c.args.list.now 0 c.args.b.now)

pub loop-i-preserved : goal.loop-i-preserved
loop-i-preserved g c = let k = g.R.Record.STRIDE in
    let i = c.loop-i.i in
    let o : k * (i + 1) ≤ k * length c.args.list.now = mul-le-mul_left k (omega arith) in
    let room : k * (i + 1) ≤ length c.loop-i.b = omega (arith, o, c.loop-i.invariant.kept) in
    rw c.STRIDE.ensures (run_lent c.loop-i.invariant c.index-list-i.result c.put.ensures.1 (omega arith) (sym c.index-list-i.is) room
    (rw c.STRIDE.ensures at c.put.ensures.0))

pub returns : goal.returns
returns g c = run-front c.loop-i.invariant (length c.args.list.now) refl (omega arith) c.requires.room
