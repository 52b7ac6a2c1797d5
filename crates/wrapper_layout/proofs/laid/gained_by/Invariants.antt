-- `wrapper_layout::laid::gained_by` meets its contract. The loop's invariant: the first `i` places hold by how much they grew, and the
-- others what they held. Assumes nothing.
use mathlib.Core.Path.{◌≡◌}
use mathlib.Core.List.{◌++◌}
use lib.ListN.{take, drop}
use Rattle.wrapper_layout.specs.LayoutAnswers.{gained}
use Rattle.wrapper_layout.proofs.laid.gained_by.Given as goal

abbrev pub invariant-loop-i : goal.invariant-loop-i
invariant-loop-i l = l.cells ≡ take l.i (gained l.before l.after) ++ drop l.i l.initial.cells
