-- `buffer::put::write_bytes` meets its contract: what its invariant (Invariants.antt) leaves to show. Assumes nothing.
use native.Mathlib.Omega.{arith}
use mathlib.Core.Path.{◌≡◌, ◌∙◌}
use mathlib.Core.Bool.{true}
use lib.ListN.{length, length-set}
use lib.Dec.{leb}
use lib.Seq.{take-length}
use borrow.Author.Tests.{le-leb, lt-leb}
use Rattle.buffer.proofs.PutLaws.{put_step}
use Rattle.buffer.proofs.put.write_bytes.Goals as goal

pub returns-then-w-buf : goal.returns-then-w-buf
returns-then-w-buf c = let e = lt-leb (length c.args.w.now) (length c.args.buf.now) c.if-w-buf.true in (simp e, simp e)

pub loop-i-preserved : goal.loop-i-preserved
loop-i-preserved c = (
  omega arith,
  simp length-set c.loop-i.invariant.1,
  put_step c.args.w.now c.args.buf.now c.loop-i.buf c.loop-i.i (omega arith) (omega arith) c.loop-i.invariant.2,
)

pub returns : goal.returns
returns c = let e : leb (length c.args.w.now) (length c.args.buf.now) ≡ true = le-leb _ _ c.loop-i.invariant.0 in
    let n : c.loop-i.i ≡ length c.args.w.now = omega arith in
    (simp e, c.loop-i.invariant.2 ∙ simp (e, n, take-length))
