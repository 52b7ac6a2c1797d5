-- `wrapper_fit::fit::goes_to` meets its contract. The loop's invariant: the best of all is the best of `best`, of which `least` is the rank,
-- and those from `j` on. Assumes nothing.
use Prim.Native.Nat.{◌<◌}
use mathlib.Core.Path.{◌≡◌}
use lib.ListN.{get_or, drop}
use Rattle.wrapper_fit.specs.Fit.{longest, better, best_from, goes}
use Rattle.wrapper_fit.specs.Elements.{rank}
use Rattle.wrapper_fit.proofs.fit.goes_to.Given as goal

abbrev pub invariant-loop-j : goal.invariant-loop-j
invariant-loop-j l = (l.best < l.j)
    × (l.least ≡ rank l.n (longest l.l) (get_or l.l l.best 0))
    × (goes l.n l.l ≡ best_from (better l.n (longest l.l)) l.best (get_or l.l l.best 0) l.j (drop l.j l.l))
