-- `place::keep` meets its contract. The loop's invariant is `Copied`: the bus numbers before i stand behind the time. Assumes nothing.
use Prim.Native.Nat.{◌+◌}
use mathlib.Core.Path.{◌≡◌}
use lib.ListN.{length}
use Rattle.plan_search.proofs.CopyLaws.{Copied}
use Rattle.plan_search.proofs.place.keep.Given as goal

abbrev pub invariant-loop-i : goal.invariant-loop-i
invariant-loop-i l = (length l.initial.best ≡ length l.buses + 1) × Copied l.buses l.initial.best 1 l.best l.i
