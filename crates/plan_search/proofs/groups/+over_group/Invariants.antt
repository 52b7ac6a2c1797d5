-- `groups::over_group`, which calls itself, meets its contract. The measure counts the widths that are not set and, below that, how
-- many widths the next can have. Assumes nothing.
use Prim.Native.Nat.{◌+◌, ◌-◌, ◌*◌}
use lib.ListN.{length}
use Rattle.plan_search.proofs.groups.+over_group.Given as goal

-- 65 is above the number of widths that a bus can have
abbrev pub decreases-over_group : goal.decreases-over_group
decreases-over_group l = (length l.widths.now - l.at) * 65 + (l.high.0 - l.low.0)
