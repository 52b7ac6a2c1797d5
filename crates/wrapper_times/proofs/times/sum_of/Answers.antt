-- `wrapper_times::times::sum_of` meets its contract: what its invariant (Invariants.antt) leaves to show. Assumes nothing.
use native.Mathlib.Omega.{arith}
use Prim.Native.Nat.{◌≤◌}
use lib.ListN.{length-take, get_or}
use Rattle.soc.specs.Record.{no_test, tests_of}
use Rattle.wrapper_fit.specs.Maxima.{test_time_max}
use Rattle.wrapper_times.proofs.TimeLaws.{planned-most, few-patterns, sum_step, sum-end}
use Rattle.wrapper_times.proofs.times.sum_of.Goals as goal
use Rattle.wrapper_times.proofs.times.sum_of.Goals.{After-planned_cycles-sum}

-- what the test of this turn adds
most : (c : After-planned_cycles-sum) → c.planned_cycles-sum.result ≤ test_time_max
most c = let s = c.args in
    rw c.planned_cycles-sum.ensures
    (planned-most s.capture s.with s.without (get_or (tests_of s.d) c.loop-t.t-index no_test) c.requires.3 c.requires.1 c.requires.2
    (few-patterns s.d c.requires.0 c.loop-t.t-index c.loop-t-test.true))

pub overflow_add-sum : goal.overflow_add-sum
overflow_add-sum c = omega (arith, most c, c.requires.0.tests, c.loop-t.invariant.0, length-take c.args.d.test_count c.args.d.tests)

pub loop-t-preserved : goal.loop-t-preserved
loop-t-preserved c = let s = c.args in
    let ts = tests_of s.d in (
      omega (arith, most c, c.loop-t.invariant.0),
      omega (arith, c.loop-t.invariant.1, c.planned_cycles-sum.ensures, sum_step s.capture s.with s.without ts c.loop-t.t-index c.loop-t-test.true),
    )

pub returns : goal.returns
returns c = let s = c.args in
    omega (arith, c.loop-t.invariant.1, sum-end s.capture s.with s.without (tests_of s.d) c.loop-t.t-index c.loop-t-test.false)
