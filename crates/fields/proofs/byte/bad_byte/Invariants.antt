-- `fields::byte::bad_byte` meets its contract. The loop's invariant: the line of the first bad byte of the text is that of the first one from
-- `i` on, where `line` is the line at `i`, of which at most one begins behind each byte.
-- Assumes nothing.
use Prim.Native.Nat.{◌+◌, ◌≤◌}
use mathlib.Core.Path.{◌≡◌}
use lib.ListN.{drop}
use Rattle.fields.specs.Bytes.{bad_byte}
use Rattle.fields.proofs.byte.bad_byte.Given as goal

abbrev pub invariant-loop-i : goal.invariant-loop-i
invariant-loop-i l = (l.line ≤ l.i + 1) × (bad_byte 1 l.text ≡ bad_byte l.line (drop l.i l.text))
