-- `widths::placed_widths` meets its contract: the widths are copied to the front of zeros. Assumes nothing.
use native.Mathlib.Omega.{arith}
use Prim.Native.Nat.{◌+◌, ◌-◌}
use mathlib.Core.Path.{◌≡◌}
use lib.ListN.{get_or, take, drop, length-take, length-drop}
use Rattle.plan_search.specs.Search.{found_buses}
use Rattle.plan_search.proofs.LentLaws.{padded_front}
use Rattle.plan_search.proofs.widths.placed_widths.Goals as goal

pub returns : goal.returns
returns c = let found = c.args.found.now in
    let count = get_or found 0 0 in
    let z : count + 1 - 1 ≡ count = omega arith in
    padded_front found_buses count c.copy_from_slice.new.self (take count (drop 1 found)) (rw z at c.copy_from_slice.ensures.after)
    (simp (length-take, length-drop) (omega arith))
