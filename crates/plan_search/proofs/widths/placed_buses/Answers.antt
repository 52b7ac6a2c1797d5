-- `widths::placed_buses` meets its contract: the bus numbers are copied to the front of zeros. Assumes nothing.
use Prim.Native.Nat.{◌-◌}
use mathlib.Core.Path.{◌∙◌}
use lib.ListN.{length, drop, length-drop}
use Rattle.std.proofs.lemmas.List.{take_rest}
use Rattle.plan_search.specs.Search.{found_modules}
use Rattle.plan_search.proofs.LentLaws.{padded_front}
use Rattle.plan_search.proofs.widths.placed_buses.Goals as goal

pub returns : goal.returns
returns c = let best = c.args.best.now in
    padded_front found_modules (length best - 1) c.copy_from_slice.new.self (drop 1 best) (c.copy_from_slice.ensures.after ∙ take_rest best 1) (simp length-drop)
