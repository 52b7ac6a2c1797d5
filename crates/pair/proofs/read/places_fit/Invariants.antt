-- `pair::read::places_fit` meets its contract. The loop's invariant: all places fit where those from m on do. Assumes nothing.
use mathlib.Core.Path.{◌≡◌}
use lib.ListN.{drop}
use Rattle.pair.specs.Pair.{places_fit}
use Rattle.pair.proofs.read.places_fit.Given as goal

abbrev pub invariant-loop-m : goal.invariant-loop-m
invariant-loop-m l = let a = l.fn in places_fit a.n 0 a.has a.over a.base ≡ places_fit a.n l.m (drop l.m a.has) (drop l.m a.over) (drop l.m a.base)
