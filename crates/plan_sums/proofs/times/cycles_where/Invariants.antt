-- `plan_sums::times::cycles_where` meets its contract. The loop's invariant: what is summed are the cycles of those of the modules so far
-- that count, each at most the module maximum. Assumes nothing.
use Rattle.std.proofs.Common.{◌*◌, ◌≤◌, ◌≡◌, Bool, take}
use Rattle.wrapper_fit.specs.Maxima.{module_time_max}
use Rattle.plan_record.specs.Record.{modules_of}
use Rattle.plan_record.specs.declared.record.PlacedModule.{PlacedModule}
use Rattle.plan_sums.specs.Times.{cycles_where}
use Rattle.plan_sums.proofs.times.cycles_where.Given as goal

abbrev pub invariant-loop-m : goal.invariant-loop-m
invariant-loop-m g l =
    (l.sum ≤ l.m-index * module_time_max)
    × ((t : PlacedModule → Bool) → ((m : PlacedModule) (b : Bool) → goal.F-post g l.counts m b → b ≡ t m)
    → l.sum ≡ cycles_where t (take l.m-index (modules_of l.p)))
