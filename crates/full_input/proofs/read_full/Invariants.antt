-- `full_input::read_full`: the measure is what is left of the buffer, which keeps its length.
use Rattle.std.proofs.Common.{◌≤◌, ◌-◌, length}
use Rattle.full_input.proofs.read_full.Given as goal

abbrev pub invariant-loop-n : goal.invariant-loop-n
invariant-loop-n g l = l.n ≤ length l.buf

abbrev pub decreases-loop-n : goal.decreases-loop-n
decreases-loop-n g l = length l.buf - l.n
