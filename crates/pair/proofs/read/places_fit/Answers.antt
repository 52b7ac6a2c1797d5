-- `pair::read::places_fit` meets its contract: what its invariant (Invariants.antt) leaves to show. Assumes nothing.
use borrow.Author.Rules.{rules}
use native.Mathlib.Omega.{arith}
use mathlib.Core.Path.{◌≡◌, sym, ◌∙◌}
use lib.ListN.{length}
use Rattle.pair.proofs.PairLaws.{fit_stops, fit_goes, fit_end}
use Rattle.pair.proofs.read.places_fit.Goals as goal
use Rattle.pair.proofs.read.places_fit.Goals.{Start}

len-has : (c : Start) → length c.args.has.now ≡ 40
len-has c = search rules

len-over : (c : Start) → length c.args.over.now ≡ 40
len-over c = search rules

len-base : (c : Start) → length c.args.base.now ≡ 40
len-base c = search rules

pub returns-then-not-place_fits : goal.returns-then-not-place_fits
returns-then-not-place_fits c = let l = c.loop-m in
    let s = (goal.at.returns-then-not-place_fits c).Start in
    let a = c.args in
    sym (l.invariant ∙ fit_stops l.m a.has.now a.over.now a.base.now _ _ _ (omega (arith, len-has s)) (omega (arith, len-over s)) (omega (arith, len-base s)) a.n (sym c.place_fits.ensures ∙ c.if-not-place_fits.true))

pub loop-m-preserved : goal.loop-m-preserved
loop-m-preserved c = let l = c.loop-m in
    let s = (goal.at.loop-m-preserved c).Start in
    let a = c.args in
    l.invariant ∙ fit_goes l.m a.has.now a.over.now a.base.now _ _ _ (omega (arith, len-has s)) (omega (arith, len-over s)) (omega (arith, len-base s)) a.n (sym c.place_fits.ensures ∙ c.if-not-place_fits.false)

pub returns : goal.returns
returns c = sym (c.loop-m.invariant ∙ fit_end c.args.n c.loop-m.m c.args.has.now _ _ (omega (arith, len-has (goal.at.returns c).Start)))
