-- `overlay::block::blocks_to_end` meets its contract. The loop's invariant: reading the blocks from the start is to fill the places with those
-- from here, behind the ones that stand there already. Numbers ascend, so there are never more blocks than the next number is, and module m is
-- not read twice: the marks are its own. Assumes nothing.
use Prim.Native.Nat.{◌-◌, ◌≤◌}
use mathlib.Core.Path.{◌≡◌}
use mathlib.Core.Bool.{false}
use lib.ListN.{length, get_or}
use Rattle.text_line_reader.specs.Due.{lines_at, Inside}
use Rattle.text_reader.proofs.MarkLaws.{Marking}
use Rattle.overlay.specs.Overlay.{blocks, places}
use Rattle.overlay.proofs.BlockLaws.{filled_by}
use Rattle.overlay.proofs.block.blocks_to_end.Given as goal

abbrev pub invariant-loop : goal.invariant-loop
invariant-loop l = (l.counter ≤ l.low)
    × (l.low ≤ 40)
    × (length l.has ≡ 40)
    × (length l.modules ≡ 40)
    × Inside l.text l.place
    × (places l.o (lines_at l.text l.initial.place)
    ≡ filled_by (record { has = l.has; modules = l.modules }) (blocks l.o (41 - l.counter) l.low (lines_at l.text l.place)))
    × Marking l.m l.low (get_or l.has l.m false) l.text (lines_at l.text l.initial.place) (lines_at l.text l.place) l.marks
