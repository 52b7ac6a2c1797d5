-- `plan_search::busy::busy_of` meets its contract: what its invariant (Invariants.antt) leaves to show. Assumes nothing.
use borrow.Author.Rules.{rules}
use native.Mathlib.Omega.{arith}
use Prim.Native.Nat.{◌≤◌, ◌<◌}
use mathlib.Core.Path.{sym, ap, ◌∙◌}
use lib.ListN.{length}
use lib.Seq.{get_or-take}
use Rattle.units.specs.declared.Cycles.{Cycles}
use Rattle.plan_search.specs.Search.{table_time, time_bound}
use Rattle.plan_search.proofs.BusyLaws.{busy-none, busy-here, busy_else}
use Rattle.plan_search.proofs.busy.busy_of.Goals as goal
use Rattle.plan_search.proofs.busy.busy_of.Goals.{then-bus-b, else-bus-b}

pub loop-i-init : goal.loop-i-init
loop-i-init c = let a = c.args in
    (busy-none (table_time a.table.now) a.b a.w.0 a.buses, omega arith)

pub loop-i-preserved : goal.loop-i-preserved
loop-i-preserved c = let l = c.loop-i in
    let h : l.i < length c.args.buses = search rules in
    let k : l.i < c.args.n = search rules in
    let g = get_or-take c.args.n c.args.buses l.i 0 k in
    let f = table_time c.args.table.now in
    let v = c.args.w.0 in
    (elim c.if-bus-b.branch [
      | then-bus-b w ↦ let t : w.time_at.result.0 ≤ time_bound = rw w.time_at.ensures (c.requires.0.times l.i v) in
          let e = ap (λ (x : Cycles). x.0) w.sum-is in (
            e ∙ rw (busy-here f c.args.b v c.args.buses l.i h (sym g ∙ w.if-bus-b.true), ← l.invariant.0, ← w.time_at.ensures),
            omega (arith, e),
          )
      | else-bus-b w ↦ let e = ap (λ (x : Cycles). x.0) w.sum-is in
          (e ∙ rw (busy_else f c.args.b v c.args.buses l.i h (λ x. w.if-bus-b.false (g ∙ x))) l.invariant.0, omega (arith, e))
    ])
