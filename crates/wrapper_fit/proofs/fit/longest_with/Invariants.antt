-- `wrapper_fit::fit::longest_with` meets its contract. The loop's invariant: what all the elements give is what those from `n` on give in
-- the present lengths, the longest of which is `m`, and the lengths and what is to come have the same total throughout.
-- Assumes nothing.
use Prim.Native.Nat.{◌+◌}
use mathlib.Core.Path.{◌≡◌}
use lib.ListN.{length, take, drop, replicate}
use Rattle.wrapper_fit.specs.Fit.{longest, total}
use Rattle.wrapper_fit.specs.Elements.{with_chains}
use Rattle.wrapper_fit.proofs.fit.longest_with.Given as goal

abbrev pub invariant-loop-n : goal.invariant-loop-n
invariant-loop-n l = (length l.lengths ≡ 64)
    × (l.m ≡ longest (take l.k l.lengths))
    × (total (take l.k l.lengths) + total (drop l.n-index l.chains) ≡ total l.chains)
    × (with_chains l.chains (replicate l.k 0) ≡ with_chains (drop l.n-index l.chains) (take l.k l.lengths))
