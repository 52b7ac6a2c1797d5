-- `pair::read::laid_over` meets its contract: what its invariant (Invariants.antt) leaves to show. Assumes nothing.
use borrow.Author.Rules.{rules}
use native.Mathlib.Omega.{arith}
use Prim.Native.Nat.{◌<◌}
use mathlib.Core.Path.{◌≡◌, refl, sym, ◌∙◌}
use lib.ListN.{length, length-set}
use Rattle.pair.proofs.PairLaws.{laid-over, laid_base, laid_all}
use Rattle.pair.proofs.read.laid_over.Goals as goal
use Rattle.pair.proofs.read.laid_over.Goals.{Start, then-has-m, else-has-m}

len-has : (c : Start) → length c.args.has.now ≡ 40
len-has c = search rules

len-over : (c : Start) → length c.args.over.now ≡ 40
len-over c = search rules

pub loop-m-preserved : goal.loop-m-preserved
loop-m-preserved c = let l = c.loop-m in
    let a = c.args in
    let s = (goal.at.loop-m-preserved c).Start in
    let h : l.m < length a.has.now = omega (arith, len-has s) in
    let o : l.m < length a.over.now = omega (arith, len-over s) in
    let b : l.m < length l.base = omega (arith, l.invariant.0) in
    elim c.if-has-m.branch [
      | then-has-m w ↦ rw w.base-is (simp length-set l.invariant.0, l.invariant.1 ∙ laid-over l.m a.has.now a.over.now l.base h o b _ _ w.if-has-m.true refl)
      | else-has-m w ↦ rw w.base-is (l.invariant.0, l.invariant.1 ∙ laid_base l.m a.has.now a.over.now l.base h o b w.if-has-m.false)
    ]

pub returns : goal.returns
returns c = let l = c.loop-m in
    sym (l.invariant.1 ∙ laid_all l.m c.args.has.now c.args.over.now l.base (omega (arith, len-has (goal.at.returns c).Start)))
