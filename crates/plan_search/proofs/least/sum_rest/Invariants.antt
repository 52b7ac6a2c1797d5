-- `least::sum_rest` meets its contract. The loop's invariant: the sums from place i on stand in their places (`Summed`). Assumes nothing.
use Rattle.plan_search.specs.Search.{table_time}
use Rattle.plan_search.proofs.RestLaws.{Summed}
use Rattle.plan_search.proofs.least.sum_rest.Given as goal

abbrev pub invariant-loop-i : goal.invariant-loop-i
invariant-loop-i l = Summed (λ j. table_time l.table j l.w.0) l.n l.rest l.i
