-- `text_writer::write_lines::put_lengths` meets its contract. The loop's invariant: of the text of the lengths, that of those from the
-- index on is still due. Assumes nothing.
use mathlib.Core.Path.{◌≡◌}
use lib.ListN.{length, drop}
use Rattle.buffer.proofs.PutLaws.{Due}
use Rattle.text_writer.specs.WrittenSoc.{spaced_lengths}
use Rattle.text_writer.proofs.write_lines.put_lengths.Given as goal

abbrev pub invariant-loop-i : goal.invariant-loop-i
invariant-loop-i l = (length l.buf ≡ length l.initial.buf)
    × Due (spaced_lengths (drop l.i l.lengths)) (spaced_lengths l.lengths) l.at l.initial.buf l.e l.buf
