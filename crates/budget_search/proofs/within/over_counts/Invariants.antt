-- `within::over_counts` meets its contract. The loop's invariant is `Counted`: the whole search is what is left of it from c buses on, from
-- what record and buffer hold. Assumes nothing.
use Rattle.budget_search.proofs.CountLaws.{Counted}
use Rattle.budget_search.proofs.within.over_counts.Given as goal

abbrev pub invariant-loop-c : goal.invariant-loop-c
invariant-loop-c l = Counted l.table l.wires.0 l.limit l.n l.budget l.widths l.best l.r l.most l.c
