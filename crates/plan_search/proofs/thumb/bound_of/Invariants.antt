-- `bound_of` meets its contract. The loop's invariant: some plan within the limit takes the best time so far. Assumes nothing.
use Rattle.plan_rules.specs.Least.{Reached}
use Rattle.plan_search.specs.Search.{table_time}
use Rattle.plan_search.proofs.thumb.bound_of.Given as goal

abbrev pub invariant-loop-c : goal.invariant-loop-c
invariant-loop-c l = Reached (table_time l.table) l.wires.0 l.limit l.n l.best.0
