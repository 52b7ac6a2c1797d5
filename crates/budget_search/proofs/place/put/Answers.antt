-- `place::put` meets its contract: what its invariant (Invariants.antt) leaves to show. Assumes nothing.
use native.Mathlib.Omega.{arith}
use Prim.Native.Nat.{◌+◌}
use mathlib.Core.Path.{refl, ◌∙◌}
use Rattle.plan_search.proofs.CopyLaws.{copied_first, copied_more, copied_all}
use Rattle.budget_search.proofs.place.put.Goals as goal

pub loop-i-init : goal.loop-i-init
loop-i-init c = let a = c.args in
    copied_first a.from.now a.to.now a.at (omega (arith, c.requires.0, c.requires.1))

pub loop-i-preserved : goal.loop-i-preserved
loop-i-preserved c = let l = c.loop-i in
    let a = c.args in
    copied_more a.from.now a.to.now a.at (omega (arith, c.requires.0, c.requires.1)) l.to l.i l.invariant (a.at + l.i) refl
    c.loop-i-test.true

pub returns : goal.returns
returns c = let l = c.loop-i in
    let a = c.args in (
      copied_all a.from.now a.to.now a.at (omega (arith, c.requires.0, c.requires.1)) l.to l.i l.invariant c.loop-i-test.false,
      l.invariant.same_length ∙ c.requires.1,
    )
