-- `groups::keep_widths` meets its contract. The loop's invariant is `Copied`: the widths before i stand behind their count.
-- Assumes nothing.
use Prim.Native.Nat.{◌<◌}
use lib.ListN.{length}
use Rattle.plan_search.proofs.CopyLaws.{Copied}
use Rattle.plan_search.proofs.groups.keep_widths.Given as goal

abbrev pub invariant-loop-i : goal.invariant-loop-i
invariant-loop-i l = (length l.widths < length l.initial.found) × Copied l.widths l.initial.found 1 l.found l.i
