-- `text_reader::read::modules_step` meets its contract. The loop's invariant: reading n modules from the start is to put those in the first
-- i places before reading the others from here, where the last one has level `last`, and the places from i on are spare; the marks are those
-- of module m once it was read. Assumes nothing.
use Prim.Native.Nat.{◌-◌}
use mathlib.Core.Path.{◌≡◌}
use lib.Dec.{ltb}
use lib.ListN.{length, take, drop, replicate}
use Rattle.fields.proofs.ReaderLaws.{prepend}
use Rattle.soc.specs.Record.{no_module}
use Rattle.text_reader.specs.Reading.{modules}
use Rattle.text_line_reader.specs.Due.{lines_at, Inside}
use Rattle.text_reader.proofs.MarkLaws.{Marking}
use Rattle.text_reader.proofs.read.modules_step.Given as goal

abbrev pub invariant-loop-i : goal.invariant-loop-i
invariant-loop-i l = (length l.modules ≡ 40)
    × Inside l.text l.place
    × (drop l.i l.modules ≡ replicate (40 - l.i) no_module)
    × (modules l.o l.n 0 0 (lines_at l.text l.initial.place)
    ≡ prepend (take l.i l.modules) (modules l.o (l.n - l.i) l.i l.last (lines_at l.text l.place)))
    × Marking l.m l.i (ltb l.m l.i) l.text (lines_at l.text l.initial.place) (lines_at l.text l.place) l.marks
