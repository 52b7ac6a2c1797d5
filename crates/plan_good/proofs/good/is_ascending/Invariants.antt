-- `plan_good::good::is_ascending` meets its contract. The loop's invariant: the numbers ascend where those of the modules from here on do,
-- the next at least low. Assumes nothing.
use Rattle.std.proofs.Common.{◌≡◌, drop}
use Rattle.plan_record.specs.Record.{modules_of, numbers_of}
use Rattle.plan_record.specs.Good.{ascending_from}
use Rattle.plan_good.proofs.good.is_ascending.Given as goal

abbrev pub invariant-loop-m : goal.invariant-loop-m
invariant-loop-m l = ascending_from 1 (numbers_of (modules_of l.p)) ≡ ascending_from l.low (numbers_of (drop l.m-index (modules_of l.p)))
