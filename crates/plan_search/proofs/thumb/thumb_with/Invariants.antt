-- `thumb_with` meets its contract. The loop's invariant: some plan takes the best time so far. Assumes nothing.
use Rattle.plan_rules.specs.Least.{Reached}
use Rattle.plan_search.specs.Search.{table_time}
use Rattle.plan_search.proofs.thumb.thumb_with.Given as goal

abbrev pub invariant-loop-w : goal.invariant-loop-w
invariant-loop-w l = Reached (table_time l.table) l.wires.0 l.c l.n l.best.0
