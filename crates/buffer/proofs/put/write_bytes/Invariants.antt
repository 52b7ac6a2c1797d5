-- `buffer::put::write_bytes` meets its contract. The loop's invariant: the buffer holds the first `i` bytes of `w`, and behind them its old
-- bytes. Assumes nothing.
use Prim.Native.Nat.{◌≤◌}
use mathlib.Core.Path.{◌≡◌}
use mathlib.Core.List.{◌++◌}
use lib.ListN.{length, take, drop}
use Rattle.buffer.proofs.put.write_bytes.Given as goal

abbrev pub invariant-loop-i : goal.invariant-loop-i
invariant-loop-i l = (length l.w ≤ length l.initial.buf) × (length l.buf ≡ length l.initial.buf) × (l.buf ≡ take l.i l.w ++ drop l.i l.initial.buf)
