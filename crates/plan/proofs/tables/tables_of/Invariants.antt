-- `plan::tables::tables_of` meets its contract. The loop's invariant: the tables hold the times of the first `k` planned modules. Assumes nothing.
use Rattle.plan.specs.Tables.{TablesAre}
use Rattle.plan.proofs.tables.tables_of.Given as goal

abbrev pub invariant-loop-k : goal.invariant-loop-k
invariant-loop-k l = TablesAre l.capture.0 l.s l.w.0 l.k l.t
