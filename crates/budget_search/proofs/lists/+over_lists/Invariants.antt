-- `lists::over_lists`, which calls itself, meets its contract. The measure counts the widths that are not set and, below that, how many
-- widths the next can have. Assumes nothing.
use Prim.Native.Nat.{◌+◌, ◌-◌, ◌*◌}
use lib.ListN.{length}
use Rattle.budget_search.proofs.lists.+over_lists.Given as goal

-- 66 is above the number of widths from which a bus can go on
abbrev pub decreases-over_lists : goal.decreases-over_lists
decreases-over_lists l = (length l.widths.now - l.at) * 66 + (65 - l.low.0)
