-- `text_writer::write::put_tests` meets its contract. The loop's invariant: of the text of the tests, that of those from `i` on is still
-- due. Assumes nothing.
use Prim.Native.Nat.{◌+◌}
use mathlib.Core.Path.{◌≡◌}
use lib.ListN.{length, drop}
use Rattle.buffer.proofs.PutLaws.{Due}
use Rattle.text_writer.proofs.RunLaws.{tests_text}
use Rattle.text_writer.proofs.write.put_tests.Given as goal

abbrev pub invariant-loop-i : goal.invariant-loop-i
invariant-loop-i l = (length l.buf ≡ length l.initial.buf)
    × Due (tests_text l.power l.m (l.i + 1) (drop l.i l.tests)) (tests_text l.power l.m 1 l.tests) l.at l.initial.buf l.e l.buf
