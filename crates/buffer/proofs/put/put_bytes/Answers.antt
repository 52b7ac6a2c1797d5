-- `buffer::put::put_bytes` meets its contract: what is written into the part from the place on is put there. Assumes nothing.
use native.Mathlib.Omega.{arith}
use mathlib.Core.Path.{ap}
use lib.ListN.{length, length-drop}
use Rattle.buffer.proofs.PutLaws.{part_from, part-rest, count_most, end_none, in_none, part_end, part_in}
use Rattle.buffer.proofs.put.put_bytes.Goals as goal

pub returns-then-buf-at : goal.returns-then-buf-at
returns-then-buf-at c = (end_none c.args.w.now c.args.at c.args.buf.now (omega arith), in_none c.args.w.now c.args.at c.args.buf.now (omega arith))

pub overflow_add-result : goal.overflow_add-result
overflow_add-result c = omega (arith, c.write_bytes.ensures.0, count_most c.args.w.now c.args.at (part_from c.args.at c.args.buf.now), ap length (part-rest c.args.at c.args.buf.now), length-drop c.args.at c.args.buf.now)

pub returns : goal.returns
returns c = (part_end c.args.w.now c.args.at c.args.buf.now _ c.write_bytes.ensures.0, part_in c.args.w.now c.args.at c.args.buf.now _ c.write_bytes.ensures.1)
