-- `wrapper_scans::asked::asked_module` meets its contract: a good record has the module, below its count. Assumes nothing.
use borrow.Author.Rules.{rules}
use native.Mathlib.Omega.{arith}
use Prim.Native.Nat.{◌<◌}
use mathlib.Core.Path.{◌≡◌, sym, ap, ◌∙◌}
use mathlib.Core.Bool.{true}
use lib.ListN.{length}
use Rattle.std.proofs.lemmas.List.{get_or_default}
use Rattle.std.specs.Prelude.{Ok}
use Rattle.soc.specs.Record.{no_module}
use Rattle.soc.specs.Rules.{good_soc}
use Rattle.wrapper_scans.specs.Asked.{asked_module}
use Rattle.wrapper_scans.specs.Held.{found_module}
use Rattle.wrapper_scans.proofs.KeptLaws.{good-count}
use Rattle.wrapper_scans.proofs.asked.asked_module.Goals as goal

pub bounds-s-i : goal.bounds-s-i
bounds-s-i c = let good : good_soc c.args.s ≡ true = sym c.is_good.ensures ∙ c.if-not-is_good.false in
    omega (arith, c.if-s-i.false, good-count c.args.s good)

pub returns : goal.returns
unfolding found_module asked_module
returns c = let s = c.args.s in
    let good : good_soc s ≡ true = sym c.is_good.ensures ∙ c.if-not-is_good.false in
    let at : c.args.m < length s.modules = omega (arith, c.if-s-i.false, good-count s good, c.well_formed.0.1.1.1.1.1.1.1.0.1.0.1) in
    ap Ok (get_or_default s.modules c.args.m _ no_module at) ∙ search rules
