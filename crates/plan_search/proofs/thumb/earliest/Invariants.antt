-- `earliest` meets its contract. The loop's invariant: the best bus so far is one of the buses. No sum overflows, since a load is at most
-- the bound of a time for each module that is placed. Assumes nothing.
use Prim.Native.Nat.{◌<◌}
use lib.ListN.{length}
use Rattle.plan_search.proofs.thumb.earliest.Given as goal

abbrev pub invariant-loop-b : goal.invariant-loop-b
invariant-loop-b l = l.best < length l.widths
