-- `module_part::field_from` meets its contract. The loop's invariant: the first field at or behind `at` is the one at or behind i. Assumes
-- nothing.
use Prim.Native.Nat.{◌+◌, ◌≤◌, max}
use mathlib.Core.Path.{◌≡◌}
use lib.ListN.{length, drop}
use Rattle.module_part.specs.Trimmed.{until_field}
use Rattle.module_part.proofs.field_from.Given as goal

abbrev pub invariant-loop-i : goal.invariant-loop-i
invariant-loop-i l = (l.at ≤ l.i) × (l.i ≤ max l.at (length l.text)) × (l.at + until_field (drop l.at l.text) ≡ l.i + until_field (drop l.i l.text))
