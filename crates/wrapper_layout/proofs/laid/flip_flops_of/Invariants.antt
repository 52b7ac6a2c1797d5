-- `wrapper_layout::laid::flip_flops_of` meets its contract. The loop's invariant: the first `i` places hold the lengths, and the others
-- what they held. Assumes nothing.
use mathlib.Core.Path.{◌≡◌}
use mathlib.Core.List.{◌++◌, map}
use lib.ListN.{take, drop}
use Rattle.soc.specs.Record.{flip_flops}
use Rattle.wrapper_layout.proofs.laid.flip_flops_of.Given as goal

abbrev pub invariant-loop-i : goal.invariant-loop-i
invariant-loop-i l = l.f ≡ take l.i (map flip_flops l.fn.lengths) ++ drop l.i l.initial.f
