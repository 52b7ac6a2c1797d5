-- `fields::put::put_number` meets its contract: what is written into the part from the place on is put there. Assumes nothing.
use native.Mathlib.Omega.{arith}
use mathlib.Core.Path.{ap}
use lib.ListN.{length, length-drop}
use Rattle.fields.specs.WrittenLines.{decimal}
use Rattle.buffer.proofs.PutLaws.{part_from, part-rest, count_most, end_none, in_none, part_end, part_in}
use Rattle.fields.proofs.put.put_number.Goals as goal

pub returns-then-buf-at : goal.returns-then-buf-at
returns-then-buf-at c = (end_none (decimal c.args.v) c.args.at c.args.buf.now (omega arith), in_none (decimal c.args.v) c.args.at c.args.buf.now (omega arith))

pub overflow_add-result : goal.overflow_add-result
overflow_add-result c = omega (arith, c.write_number.ensures.0, count_most (decimal c.args.v) c.args.at (part_from c.args.at c.args.buf.now), ap length (part-rest c.args.at c.args.buf.now), length-drop c.args.at c.args.buf.now)

pub returns : goal.returns
returns c = (part_end (decimal c.args.v) c.args.at c.args.buf.now _ c.write_number.ensures.0, part_in (decimal c.args.v) c.args.at c.args.buf.now _ c.write_number.ensures.1)
