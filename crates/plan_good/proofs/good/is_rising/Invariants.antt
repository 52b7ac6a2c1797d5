-- `plan_good::good::is_rising` meets its contract. The loop's invariant: the widths rise where those of the buses from here on do, the next
-- at least that wide. Assumes nothing.
use Rattle.std.proofs.Common.{◌≡◌, drop}
use Rattle.plan_record.specs.Record.{buses_of, widths_of}
use Rattle.plan_record.specs.Good.{rising_from}
use Rattle.plan_good.proofs.good.is_rising.Given as goal

abbrev pub invariant-loop-b : goal.invariant-loop-b
invariant-loop-b l = rising_from 1 (widths_of (buses_of l.p)) ≡ rising_from l.least (widths_of (drop l.b-index (buses_of l.p)))
