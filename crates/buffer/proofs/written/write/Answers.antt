-- `buffer::written::write` meets its contract: all of the form is put, or where there is no room nothing, and then it answers 11. Assumes nothing.
use native.Mathlib.Omega.{arith}
use mathlib.Core.Path.{refl, sym, ◌∙◌}
use lib.ListN.{length}
use lib.Seq.{length-take-le, take-length}
use Rattle.buffer.proofs.RoomLaws.{room_most, room-none, room-all}
use Rattle.buffer.proofs.written.write.Goals as goal

pub slice_bounds-write_bytes-end : goal.slice_bounds-write_bytes-end
slice_bounds-write_bytes-end c = sym (length-take-le _ _ (omega (arith, c.all_or_none-k.ensures, room_most (length c.args.w.now) (length c.args.buf.now))))

pub returns-then-k-n : goal.returns-then-k-n
returns-then-k-n c = let w = c.args.w.now in
    let r = room-none w w c.args.buf.now _ _ _ refl (take-length w) c.all_or_none-k.ensures c.write_bytes.ensures.1 c.if-k-n.true in
    (rw c.at.ensures (simp r.0), r.1 ∙ simp r.0)

pub returns : goal.returns
returns c = let w = c.args.w.now in
    let r = room-all w w c.args.buf.now _ _ _ refl (take-length w) c.all_or_none-k.ensures c.write_bytes.ensures.1 c.if-k-n.false in
    (simp r.0, r.1 ∙ simp r.0)
