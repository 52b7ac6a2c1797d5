-- `within::buses_in` meets its contract. The loop's invariant: the array holds the bus numbers so far, padded with zeros. Assumes nothing.
use Rattle.std.proofs.Common.{◌≡◌, take}
use Rattle.units.specs.Places.{padded}
use Rattle.budget_search.specs.Steps.{modules_max}
use Rattle.budget_search.proofs.within.buses_in.Given as goal

abbrev pub invariant-loop-i : goal.invariant-loop-i
invariant-loop-i l = l.buses ≡ padded modules_max 0 (take l.i l.b-items)
