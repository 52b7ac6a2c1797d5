-- `wrapper_fit::fit::longest_of` meets its contract: the largest of the lengths is the longest. Assumes nothing.
use Prim.Native.Nat.{max}
use mathlib.Core.Path.{◌≡◌, sym, ◌∙◌}
use Rattle.std.specs.List.{reduce}
use Rattle.std.proofs.lemmas.Iterator.{YieldsList-from_slice}
use Rattle.std.proofs.lemmas.Iterator.Consumers.{YieldsList-from_copied, YieldsList-at, max_from_yields_List}
use Rattle.std.proofs.lemmas.Iterator.Adapters.{option_map_id}
use Rattle.wrapper_fit.proofs.FitLaws.{largest-longest}
use Rattle.wrapper_fit.proofs.fit.longest_of.Goals as goal

pub returns : goal.returns
returns c =
    let at = YieldsList-from_copied (YieldsList-at c.copied.ensures.source (YieldsList-from_slice c.args.l.now cc)) in
    let e : c.max.result ≡ reduce max c.args.l.now = sym (option_map_id c.max.result) ∙ max_from_yields_List c.copied.result c.max.result c.max.ensures.ran at in
    c.unwrap_or.ensures ∙ rw e (largest-longest c.args.l.now)
