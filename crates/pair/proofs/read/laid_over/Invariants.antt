-- `pair::read::laid_over` meets its contract. The loop's invariant: what is laid stands in the first m places, and behind them comes what is
-- laid from m on. Assumes nothing.
use mathlib.Core.Path.{◌≡◌}
use mathlib.Core.List.{◌++◌}
use lib.ListN.{length, take, drop}
use Rattle.pair.specs.Pair.{laid}
use Rattle.pair.proofs.read.laid_over.Given as goal

abbrev pub invariant-loop-m : goal.invariant-loop-m
invariant-loop-m l = (length l.base ≡ 40) × (laid l.has l.over l.initial.base ≡ take l.m l.base ++ laid (drop l.m l.has) (drop l.m l.over) (drop l.m l.base))
