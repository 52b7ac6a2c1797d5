-- `plan_file::rows::put_records` meets its contract. The loop's invariant: the first i records are in their places, and what lies
-- behind them is as it was. Assumes nothing.
use Prim.Native.Nat.{◌*◌}
use Rattle.little_endian.proofs.RowLaws.{Run}
use Rattle.plan_file.proofs.rows.put_records.Given as goal

abbrev pub invariant-loop-i : goal.invariant-loop-i
invariant-loop-i g l = Run g.R.Record.bytes g.R.Record.STRIDE l.list 0 l.initial.b l.i l.b (g.R.Record.STRIDE * l.i)
