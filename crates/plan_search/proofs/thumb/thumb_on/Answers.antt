-- `thumb_on` meets its contract: what its invariant (Invariants.antt) leaves to show. Assumes nothing.
use native.Mathlib.Omega.{arith}
use lib.ListN.{get_or}
use Rattle.plan_search.proofs.ThumbLaws.{thumbed_none, thumbed_most, thumbed_more, thumbed_all}
use Rattle.plan_search.proofs.thumb.thumb_on.Goals as goal

pub loop-i-init : goal.loop-i-init
loop-i-init c = thumbed_none c.args.table.now c.args.widths.now c.args.n c.requires.1

pub overflow_add-load : goal.overflow_add-load
overflow_add-load c = let l = c.loop-i in
    let a = c.args in
    let b = c.earliest-b.result in
    let most = thumbed_most a.table.now a.widths.now a.n l.i l.loads l.top.0 l.invariant c.requires.0.times b in
    let time = c.requires.0.times l.i (get_or a.widths.now b 0) in
    omega (arith, most c.earliest-b.ensures, c.time_at-t.ensures, time, c.requires.0.few)

pub loop-i-preserved : goal.loop-i-preserved
loop-i-preserved c = let l = c.loop-i in
    let a = c.args in
    thumbed_more a.table.now a.widths.now a.n l.i l.loads l.top.0
    c.earliest-b.result c.time_at-t.result.0 c.larger-top.result.0
    c.requires.1.few l.invariant c.loop-i-test.true c.earliest-b.ensures c.time_at-t.ensures c.larger-top.ensures

pub returns : goal.returns
returns c = let l = c.loop-i in
    thumbed_all c.args.table.now c.args.widths.now c.args.n l.i l.loads l.top.0 l.invariant c.loop-i-test.false
