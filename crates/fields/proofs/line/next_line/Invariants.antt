-- `fields::line::next_line` meets its contract. The loop's invariant: the lines that are not blank are the same from `from` and from `at` on,
-- where those from `at` on have numbers greater by `passed`, and `at` is the start of the line that is `passed` lines behind. The measure is what is left of the length. Assumes nothing.
use Prim.Native.Nat.{ℕ, ◌+◌, ◌-◌, ◌≤◌}
use mathlib.Core.Path.{◌≡◌}
use lib.ListN.{length}
use Rattle.fields.specs.Lines.{lines_from, line_start}
use Rattle.fields.proofs.line.next_line.Given as goal

abbrev pub invariant-loop-at : goal.invariant-loop-at
invariant-loop-at l = (l.from + l.passed ≤ l.at) × (l.at ≡ line_start l.text l.from l.passed) × ((n : ℕ) → lines_from n l.text l.from ≡ lines_from (n + l.passed) l.text l.at)

abbrev pub decreases-loop-at : goal.decreases-loop-at
decreases-loop-at l = length l.text - l.at
