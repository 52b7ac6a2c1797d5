-- `text_writer::write::put_modules` meets its contract. The loop's invariant: of the text of the modules, that of those from `m` on is
-- still due. Assumes nothing.
use mathlib.Core.Path.{◌≡◌}
use lib.ListN.{length, drop}
use Rattle.buffer.proofs.PutLaws.{Due}
use Rattle.text_writer.proofs.RunLaws.{modules_text}
use Rattle.text_writer.proofs.write.put_modules.Given as goal

abbrev pub invariant-loop-m : goal.invariant-loop-m
invariant-loop-m l = (length l.buf ≡ length l.initial.buf)
    × Due (modules_text l.power l.xy l.m (drop l.m l.modules)) (modules_text l.power l.xy 0 l.modules) l.at l.initial.buf l.e l.buf
