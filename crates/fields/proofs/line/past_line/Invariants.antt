-- `fields::line::past_line` meets its contract. The loop's invariant: from `i` and from `from` the first LF is at
-- the same place, and `i` is at most the end of what is gone over. Assumes nothing.
use Prim.Native.Nat.{◌+◌, ◌≤◌, max}
use mathlib.Core.Path.{◌≡◌}
use lib.ListN.{length, drop}
use Rattle.fields.specs.Lines.{until_lf}
use Rattle.fields.proofs.line.past_line.Given as goal

abbrev pub invariant-loop-i : goal.invariant-loop-i
invariant-loop-i l = (l.i ≤ max l.from (length l.text)) × (l.from + until_lf (drop l.from l.text) ≡ l.i + until_lf (drop l.i l.text))
