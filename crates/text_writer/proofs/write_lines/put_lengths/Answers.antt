-- `text_writer::write_lines::put_lengths` meets its contract: what its invariant (Invariants.antt) leaves to show. Assumes nothing.
use native.Mathlib.Omega.{arith}
use mathlib.Core.Path.{refl, ◌∙◌}
use lib.ListN.{get_or}
use Rattle.fields.specs.Bytes.{bytes}
use Rattle.fields.specs.WrittenLines.{decimal}
use Rattle.soc.specs.Record.{flip_flops}
use Rattle.buffer.proofs.PutLaws.{due_all, due-key, put-none}
use Rattle.text_writer.specs.WrittenSoc.{spaced_lengths}
use Rattle.text_writer.proofs.RunLaws.{spaced_more, rest-none}
use Rattle.text_writer.proofs.write_lines.put_lengths.Goals as goal

pub loop-i-init : goal.loop-i-init
loop-i-init c = (refl, due_all refl c.requires)

pub loop-i-preserved : goal.loop-i-preserved
loop-i-preserved c = let lengths = c.args.lengths.now in
    let i = c.loop-i.i in
    let more = spaced_more lengths i (flip_flops 0) (omega arith) in
    (c.put_key-e.auto.buf ∙ c.loop-i.invariant.0, due-key (bytes " ") (decimal (get_or lengths i (flip_flops 0)).0) _ (rw more at c.loop-i.invariant.1) (rw c.from.ensures at c.put_key-e.ensures))

pub shape_of-buf : goal.shape_of-buf
shape_of-buf c = c.loop-i.invariant.0

pub returns : goal.returns
unfolding spaced_lengths
returns c = (rw (rest-none c.args.lengths.now c.loop-i.i (omega arith)) at c.loop-i.invariant.1).done _ _ (put-none _ _)
