-- `fields::field::past_gaps` meets its contract. The loop's invariant: `i` and the gaps behind it end where `from` and
-- the gaps behind it do, and `i` is at most the end of what is gone over. Assumes nothing.
use Prim.Native.Nat.{◌+◌, ◌≤◌, max}
use mathlib.Core.Path.{◌≡◌}
use lib.ListN.{length, drop}
use Rattle.fields.specs.Fields.{gaps}
use Rattle.fields.proofs.field.past_gaps.Given as goal

abbrev pub invariant-loop-i : goal.invariant-loop-i
invariant-loop-i l = (l.i ≤ max l.from (length l.l)) × (l.from + gaps (drop l.from l.l) ≡ l.i + gaps (drop l.i l.l))
