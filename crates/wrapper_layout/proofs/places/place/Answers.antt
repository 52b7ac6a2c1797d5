-- `wrapper_layout::places::place` meets its contract: the place is below the length, and what stands there is at most the longest. Assumes
-- nothing.
use native.Mathlib.Omega.{arith}
use Prim.Native.Nat.{◌<◌}
use mathlib.Core.Path.{refl}
use lib.ListN.{length}
use Rattle.wrapper_fit.specs.Fit.{placed}
use Rattle.wrapper_fit.proofs.FitLaws.{goes-below, longest-at}
use Rattle.wrapper_layout.proofs.places.place.Goals as goal
use Rattle.wrapper_layout.proofs.places.place.Goals.{After-goes_to-i}

below : (c : After-goes_to-i) → c.goes_to-i.result < length c.args.l.now
below c = rw c.goes_to-i.ensures (goes-below c.args.n c.args.l.now c.requires.0)

pub goes_to-i-requires : goal.goes_to-i-requires
goes_to-i-requires c = (c.longest_of-m.ensures, c.requires.1)

pub offset_bounds-l-i : goal.offset_bounds-l-i
offset_bounds-l-i c = omega (arith, below c)

pub bounds-l-i : goal.bounds-l-i
bounds-l-i c = below (goal.at.bounds-l-i c).After-goes_to-i

pub overflow_add-l : goal.overflow_add-l
overflow_add-l c = omega (arith, c.requires.1, longest-at c.args.l.now c.goes_to-i.result)

pub bounds-l-i-2 : goal.bounds-l-i-2
bounds-l-i-2 c = below (goal.at.bounds-l-i-2 c).After-goes_to-i

pub returns : goal.returns
unfolding placed
returns c = (c.goes_to-i.ensures, rw c.goes_to-i.ensures refl)
