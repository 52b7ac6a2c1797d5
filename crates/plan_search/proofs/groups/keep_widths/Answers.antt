-- `groups::keep_widths` meets its contract: what its invariant (Invariants.antt) leaves to show. Assumes nothing.
use native.Mathlib.Omega.{arith}
use Prim.Native.Nat.{◌+◌, ◌<◌}
use mathlib.Core.Path.{◌∙◌}
use lib.ListN.{length, set, length-set}
use lib.Seq.{get_or-set_same, drop-set-lt}
use Rattle.plan_search.proofs.CopyLaws.{copied_first, copied_more, copied_all, over-behind}
use Rattle.plan_search.proofs.groups.keep_widths.Goals as goal

pub loop-i-init : goal.loop-i-init
loop-i-init c = let found₀ = set c.args.found.now 0 (length c.args.widths.now) in
    let r : length c.args.widths.now < length found₀ = rw length-set c.requires.1 in
    (r, copied_first c.args.widths.now found₀ 1 (omega arith))

pub bounds-found-i : goal.bounds-found-i
bounds-found-i c = let i = c.loop-i.invariant in
    omega (arith, i.0, i.1.same_length, c.loop-i-test.true)

pub loop-i-preserved : goal.loop-i-preserved
loop-i-preserved c = let l = c.loop-i in
    let a = c.args in
    let found₀ = set a.found.now 0 (length a.widths.now) in
    let h = c.loop-i-test.true in
    (l.invariant.0, copied_more a.widths.now found₀ 1 (omega (arith, l.invariant.0)) l.found l.i l.invariant.1 (l.i + 1) (omega arith) h)

pub shape_of-found : goal.shape_of-found
shape_of-found c = let a = c.args in
    c.loop-i.invariant.1.same_length ∙ length-set a.found.now 0 (length a.widths.now)

pub returns : goal.returns
returns c = let l = c.loop-i in
    let a = c.args in
    let n = length a.widths.now in
    let found₀ = set a.found.now 0 n in
    copied_all a.widths.now found₀ 1 (omega (arith, l.invariant.0)) l.found l.i l.invariant.1 c.loop-i-test.false
    ∙ over-behind a.widths.now found₀ (omega (arith, l.invariant.0))
    ∙ rw (
      get_or-set_same a.found.now 0 n 0 (omega (arith, c.requires.1)),
      drop-set-lt (n + 1) a.found.now 0 n (omega arith),
    )
