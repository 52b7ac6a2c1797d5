-- `wrapper_layout::places::thread_chains` meets its contract. The loop's invariant: what is threaded of all the chains is what is threaded
-- of those from `c` on in the present lengths and places, of which the longest is at most 4,294,967,295 for each chain passed.
-- Assumes nothing.
use Prim.Native.Nat.{◌-◌, ◌*◌, ◌≤◌}
use mathlib.Core.Path.{◌≡◌}
use lib.ListN.{length, take, drop, replicate}
use Rattle.wrapper_fit.specs.Fit.{longest}
use Rattle.wrapper_scans.specs.Chains.{thread, empty}
use Rattle.wrapper_scans.specs.Held.{front}
use Rattle.wrapper_layout.proofs.places.thread_chains.Given as goal

abbrev pub invariant-loop-c : goal.invariant-loop-c
invariant-loop-c l = (length l.lengths ≡ 64)
    × (length l.places ≡ 64)
    × (drop l.k l.lengths ≡ replicate (64 - l.k) 0)
    × (longest (take l.k l.lengths) ≤ l.c-index * 4294967295)
    × (thread (front l.fn.o) (empty l.k) ≡ thread (drop l.c-index (front l.fn.o)) (record { lengths = take l.k l.lengths; places = l.places }))
