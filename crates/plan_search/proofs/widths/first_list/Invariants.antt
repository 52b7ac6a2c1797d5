-- `widths::first_list` meets its contract. The loop's invariant is `Counted`: what is kept of all lists is what is kept of those of at
-- least c widths, from what the buffer holds. Assumes nothing.
use Rattle.plan_search.proofs.CountedLaws.{Counted}
use Rattle.plan_search.proofs.widths.first_list.Given as goal

abbrev pub invariant-loop-c : goal.invariant-loop-c
invariant-loop-c l = Counted l.table l.wires.0 l.limit l.n l.initial.r.0 l.initial.found l.widths l.found l.r.0 l.c
