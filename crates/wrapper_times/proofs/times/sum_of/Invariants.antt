-- `wrapper_times::times::sum_of` meets its contract. The loop's invariant: the sum of all is the sum so far and that of the tests from `t`
-- on, and no test adds more than the longest can take. Assumes nothing.
use Prim.Native.Nat.{◌+◌, ◌*◌, ◌≤◌}
use mathlib.Core.Path.{◌≡◌}
use lib.ListN.{drop}
use Rattle.soc.specs.Record.{tests_of}
use Rattle.wrapper_fit.specs.Maxima.{test_time_max}
use Rattle.wrapper_times.specs.Sums.{sum_scans}
use Rattle.wrapper_times.proofs.times.sum_of.Given as goal

abbrev pub invariant-loop-t : goal.invariant-loop-t
invariant-loop-t l = (l.sum ≤ l.t-index * test_time_max)
    × (sum_scans l.capture l.with l.without (tests_of l.fn.d) ≡ l.sum + sum_scans l.capture l.with l.without (drop l.t-index (tests_of l.fn.d)))
