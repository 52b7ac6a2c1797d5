-- `text_reader::block::tests_step` meets its contract. The loop's invariant: reading n tests from the start is to put those in the first i places
-- before reading the others from here, and the places from i on are spare. Assumes nothing.
use Prim.Native.Nat.{◌+◌, ◌-◌}
use mathlib.Core.Path.{◌≡◌}
use lib.ListN.{length, take, drop, replicate}
use Rattle.fields.specs.Readers.{each}
use Rattle.fields.proofs.ReaderLaws.{prepend}
use Rattle.soc.specs.Record.{no_test}
use Rattle.text_lines.specs.Kinds.{test_line}
use Rattle.text_reader.specs.Lines.{line}
use Rattle.text_line_reader.specs.Due.{lines_at, Inside}
use Rattle.text_reader.proofs.block.tests_step.Given as goal

abbrev pub invariant-loop-i : goal.invariant-loop-i
invariant-loop-i l = (length l.list ≡ 8) × Inside l.text l.place × (drop l.i l.list ≡ replicate (8 - l.i) no_test) × (each l.n (λ j. line (test_line l.m j l.power)) 1 (lines_at l.text l.initial.place) ≡ prepend (take l.i l.list) (each (l.n - l.i) (λ j. line (test_line l.m j l.power)) (1 + l.i) (lines_at l.text l.place)))
