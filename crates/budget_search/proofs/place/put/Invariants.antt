-- `place::put` meets its contract. The loop's invariant is `Copied`: the first i numbers stand from place `at` on, and all else is as it
-- was. Assumes nothing.
use Rattle.plan_search.proofs.CopyLaws.{Copied}
use Rattle.budget_search.proofs.place.put.Given as goal

abbrev pub invariant-loop-i : goal.invariant-loop-i
invariant-loop-i l = Copied l.from l.initial.to l.at l.to l.i
