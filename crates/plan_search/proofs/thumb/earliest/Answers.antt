-- `earliest` meets its contract: what its invariant (Invariants.antt) leaves to show. Assumes nothing.
use native.Mathlib.Omega.{arith}
use lib.ListN.{get_or}
use Rattle.plan_search.proofs.ThumbLaws.{partly_length, partly_most}
use Rattle.plan_search.proofs.thumb.earliest.Goals as goal

pub bounds-loads-0 : goal.bounds-loads-0
bounds-loads-0 c = let a = c.args in
    omega (arith, partly_length a.table.now a.widths.now a.i a.loads.now c.requires.2, c.requires.1.some)

pub overflow_add-ends : goal.overflow_add-ends
overflow_add-ends c = let a = c.args in
    let most = partly_most a.table.now a.widths.now a.i a.loads.now c.requires.2 c.requires.0.times 0 in
    omega (arith, most, c.time_at-first.ensures, c.requires.0.times a.i (get_or a.widths.now 0 0), c.requires.0.few)

pub bounds-loads-b : goal.bounds-loads-b
bounds-loads-b c = let a = c.args in
    omega (arith, partly_length a.table.now a.widths.now a.i a.loads.now c.requires.2, c.loop-b-test.true)

pub overflow_add-end : goal.overflow_add-end
overflow_add-end c = let b = c.loop-b.b in
    let a = c.args in
    let most = partly_most a.table.now a.widths.now a.i a.loads.now c.requires.2 c.requires.0.times b in
    omega (arith, most, c.time_at-t.ensures, c.requires.0.times a.i (get_or a.widths.now b 0), c.requires.0.few)
