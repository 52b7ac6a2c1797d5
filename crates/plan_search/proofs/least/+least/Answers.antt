-- `least::least` meets its contract: what its invariant (Invariants.antt) leaves to show. Assumes nothing.
use native.Mathlib.Omega.{arith}
use Prim.Native.Nat.{ℕ, suc, ◌+◌, ◌-◌, ◌<◌}
use mathlib.Core.Path.{◌≡◌, refl, ap}
use mathlib.Core.List.{List}
use lib.ListN.{length, get_or}
use Rattle.plan_rules.proofs.FromLaws.{at_sum}
use Rattle.plan_search.proofs.LeastLaws.{rest-most, out_top, out_load, out_end, left-start, time_in_lem, left_end, loads_next, left-tried, left_enough}
use Rattle.plan_search.proofs.least.+least.Goals as goal
use Rattle.plan_search.proofs.least.+least.Goals.{In-loop-b}

-- a module behind this one is to be placed too
less : (t : ℕ) (c : In-loop-b t) → suc c.args.i < length c.args.rest.now
less t c = omega (arith, c.requires.2, c.if-i-rest.false)

pub returns-then-best-top-clause-reaches : goal.returns-then-best-top-clause-reaches
returns-then-best-top-clause-reaches t c = out_top c.requires.0 c.requires.1 c.requires.2 c.if-best-top.true

pub overflow_add-load : goal.overflow_add-load
overflow_add-load t c = omega (arith, rest-most c.requires.0 c.requires.1 c.requires.2, c.requires.1.load_most, c.requires.0.table.few, c.requires.2)

pub overflow_add-load-2 : goal.overflow_add-load-2
overflow_add-load-2 t c =
    omega (arith, rest-most c.requires.0 c.requires.1 c.requires.2, c.requires.1.load_most, c.requires.0.table.few, c.requires.0.widths.few, c.requires.2)

pub returns-then-c-best-clause-reaches : goal.returns-then-c-best-clause-reaches
returns-then-c-best-clause-reaches t c = out_load c.requires.0 c.requires.1 c.requires.2 c.if-c-best.true

pub returns-then-i-rest-clause-reaches : goal.returns-then-i-rest-clause-reaches
returns-then-i-rest-clause-reaches t c = out_end c.requires.0 c.requires.1 c.requires.2 c.if-best-top.false c.if-i-rest.true

pub loop-b-init : goal.loop-b-init
loop-b-init t c =
    left-start c.requires.0 c.requires.1 c.requires.2 (omega (arith, c.requires.2, c.if-i-rest.false)) c.requires.3

pub time_at-t-requires : goal.time_at-t-requires
time_at-t-requires t c =
    time_in_lem c.requires.0 c.requires.1 c.requires.2 (less t (goal.at.time_at-t-requires t c).In-loop-b) c.loop-b.b c.loop-b-test.true

pub overflow_add-new : goal.overflow_add-new
overflow_add-new t c =
    let b = c.loop-b.b in
    let e : get_or c.loop-b.loads b 0 ≡ get_or c.args.loads.now b 0 = ap (λ (v : List ℕ). get_or v b 0) c.loop-b.invariant.loads_same in
    omega (
      arith,
      e,
      at_sum c.args.loads.now b,
      c.time_at-t.ensures,
      c.requires.0.table.times c.args.i (get_or c.args.widths.now b 0),
      c.requires.1.load_is,
      c.requires.1.load_most,
      c.requires.0.table.few,
      less t (goal.at.overflow_add-new t c).In-loop-b,
    )

pub least-r-requires : goal.least-r-requires
least-r-requires t c =
    let p = less t (goal.at.least-r-requires t c).In-loop-b in
    let m : length c.args.rest.now - (c.args.i + 1) < t = omega (arith, p) in (
      m,
      (
        c.requires.0,
        loads_next c.requires.0 c.requires.1 c.requires.2 p c.loop-b.invariant c.loop-b-test.true
            c.time_at-t.ensures refl c.larger-next.ensures,
        omega (arith, p),
        c.loop-b.invariant.small,
      ),
    )

pub returns-then-r-enough-clause-reaches : goal.returns-then-r-enough-clause-reaches
returns-then-r-enough-clause-reaches t c =
    left_enough c.requires.0 c.requires.1 c.requires.2 (less t (goal.at.returns-then-r-enough-clause-reaches t c).In-loop-b) c.loop-b.invariant c.loop-b-test.true
    c.time_at-t.ensures refl c.larger-next.ensures c.least-r.ensures.loads_unchanged c.least-r.ensures.reaches c.if-r-enough.true

pub loop-b-preserved : goal.loop-b-preserved
loop-b-preserved t c =
    left-tried c.requires.0 c.requires.1 c.requires.2 (less t (goal.at.loop-b-preserved t c).In-loop-b) c.loop-b.invariant c.loop-b-test.true
    c.time_at-t.ensures refl c.larger-next.ensures c.least-r.ensures.loads_unchanged c.least-r.ensures.reaches c.if-r-enough.false

pub returns-clause-reaches : goal.returns-clause-reaches
returns-clause-reaches t c =
    let p : suc c.args.i < length c.args.rest.now = omega (arith, c.requires.2, c.if-i-rest.false) in
    left_end c.requires.0 c.requires.1 c.requires.2 p c.loop-b.invariant c.loop-b-test.false
