-- `place::keep` meets its contract: what its invariant (Invariants.antt) leaves to show. Assumes nothing.
use native.Mathlib.Omega.{arith}
use Prim.Native.Nat.{◌+◌}
use mathlib.Core.Path.{◌≡◌, ◌∙◌}
use mathlib.Core.List.{[], append-nil}
use lib.ListN.{length, drop, set, length-set, drop_of_length-le}
use lib.Seq.{get_or-set_same}
use Rattle.plan_search.proofs.CopyLaws.{copied_first, copied_more, copied_all, over-behind}
use Rattle.plan_search.proofs.place.keep.Goals as goal

pub loop-i-init : goal.loop-i-init
loop-i-init c = let r = length-set c.args.best.now 0 c.args.top.0 ∙ c.requires in
    (r, copied_first c.args.buses.now (set c.args.best.now 0 c.args.top.0) 1 (omega arith))

pub bounds-best-i : goal.bounds-best-i
bounds-best-i c = let i = c.loop-i.invariant in
    omega (arith, i.0, i.1.same_length, c.loop-i-test.true)

pub loop-i-preserved : goal.loop-i-preserved
loop-i-preserved c = let l = c.loop-i in
    let a = c.args in
    let best₀ = set a.best.now 0 a.top.0 in
    let h = c.loop-i-test.true in
    (l.invariant.0, copied_more a.buses.now best₀ 1 (omega (arith, l.invariant.0)) l.best l.i l.invariant.1 (l.i + 1) (omega arith) h)

pub shape_of-best : goal.shape_of-best
shape_of-best c = c.loop-i.invariant.1.same_length ∙ length-set c.args.best.now 0 c.args.top.0

pub returns : goal.returns
returns c = let l = c.loop-i in
    let a = c.args in
    let best₀ = set a.best.now 0 a.top.0 in
    let n = length a.buses.now + 1 in
    let d : drop n best₀ ≡ [] = drop_of_length-le best₀ {i = n} (omega (arith, l.invariant.0)) in
    copied_all a.buses.now best₀ 1 (omega (arith, l.invariant.0)) l.best l.i l.invariant.1 c.loop-i-test.false
    ∙ over-behind a.buses.now best₀ (omega (arith, l.invariant.0))
    ∙ rw (get_or-set_same a.best.now 0 a.top.0 0 (omega (arith, c.requires)), d, append-nil a.buses.now)
