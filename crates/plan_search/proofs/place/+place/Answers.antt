-- `place::place` meets its contract: what its invariant (Invariants.antt) leaves to show. Assumes nothing.
use native.Mathlib.Omega.{arith}
use Prim.Native.Nat.{ℕ, ◌+◌, ◌-◌, ◌≤◌, ◌<◌}
use mathlib.Core.Path.{◌≡◌, ap, ◌∙◌}
use lib.ListN.{length, get_or, set, length-set}
use Rattle.plan_search.specs.Search.{search_modules, time_bound}
use Rattle.plan_search.proofs.PlaceLaws.{length_loads, load_most, placed-all, left-start, left_end, ready_next, left-tried, left_dropped}
use Rattle.plan_search.proofs.place.+place.Goals as goal
use Rattle.plan_search.proofs.place.+place.Goals.{In-loop-b, then-next-best, else-next-best}

less : (t : ℕ) (c : In-loop-b t) → c.args.i < length c.args.buses.now
less t c = omega (arith, c.requires.at, c.if-i-buses.false)

in-range : (t : ℕ) (c : In-loop-b t) → c.loop-b.b < length c.loop-b.loads
in-range t c =
    let e = length_loads c.requires in
    omega (arith, e, ap length c.loop-b.invariant.loads_same, c.loop-b-test.true)

pub returns-then-i-buses : goal.returns-then-i-buses
returns-then-i-buses t c = placed-all c.requires c.if-i-buses.true c.keep.ensures

pub loop-b-init : goal.loop-b-init
loop-b-init t c = left-start c.requires (omega (arith, c.requires.at, c.if-i-buses.false))

pub bounds-loads-b : goal.bounds-loads-b
bounds-loads-b t c = in-range t (goal.at.bounds-loads-b t c).In-loop-b

pub overflow_add-load : goal.overflow_add-load
overflow_add-load t c =
    let b = c.loop-b.b in
    let e : get_or c.loop-b.loads b 0 ≡ get_or c.args.loads.now b 0 = ap (λ x. get_or x b 0) c.loop-b.invariant.loads_same in
    let m = load_most c.requires b in
    let u : c.time_at-t.result.0 ≤ time_bound = rw c.time_at-t.ensures (c.requires.times c.args.i (get_or c.args.widths.now b 0)) in
    let k : c.args.i < search_modules = omega (arith, less t (goal.at.overflow_add-load t c).In-loop-b, c.requires.modules) in
    omega (arith, e, m, u, k)

pub bounds-loads-b-then-next-best : goal.bounds-loads-b-then-next-best
bounds-loads-b-then-next-best t c = in-range t (goal.at.bounds-loads-b-then-next-best t c).In-loop-b

pub place-requires : goal.place-requires
place-requires t c =
    let b = c.loop-b.b in
    let p = less t (goal.at.place-requires t c).In-loop-b in
    let next = set c.loop-b.buses c.args.i (b + 1) in
    let z : length next ≡ length c.args.buses.now = length-set c.loop-b.buses c.args.i (b + 1) ∙ c.loop-b.invariant.buses_length in
    let m : length next - (c.args.i + 1) < t = omega (arith, z, p) in
    let e = ap (λ x. get_or c.loop-b.loads b 0 + x) c.time_at-t.ensures in (
      m,
      ready_next c.requires p c.loop-b.invariant c.loop-b-test.true
          e c.larger-next.ensures (omega (arith, c.if-next-best.true)),
    )

pub bounds-loads-b-then-next-best-2 : goal.bounds-loads-b-then-next-best-2
bounds-loads-b-then-next-best-2 t c =
    let e : length c.place.new.loads ≡ length c.loop-b.loads = ap length c.place.ensures.loads_same ∙ length-set c.loop-b.loads c.loop-b.b (get_or c.loop-b.loads c.loop-b.b 0 + c.time_at-t.result.0) in
    let h = in-range t (goal.at.bounds-loads-b-then-next-best-2 t c).In-loop-b in
    rw e h

pub loop-b-preserved : goal.loop-b-preserved
loop-b-preserved t c =
    let p = less t (goal.at.loop-b-preserved t c).In-loop-b in
    let e = ap (λ x. get_or c.loop-b.loads c.loop-b.b 0 + x) c.time_at-t.ensures in
    elim c.if-next-best.branch [
      | then-next-best w ↦
          rw (w.loads-is, w.buses-is, w.best-is)
          (left-tried c.requires p c.loop-b.invariant c.loop-b-test.true e c.larger-next.ensures w.place.ensures w.place.auto.buses w.place.auto.best)
      | else-next-best w ↦
          rw (w.loads-is, w.buses-is, w.best-is)
          (left_dropped c.requires p c.loop-b.invariant c.loop-b-test.true e c.larger-next.ensures w.if-next-best.false)
    ]

pub returns : goal.returns
returns t c = left_end c.requires (omega (arith, c.requires.at, c.if-i-buses.false)) c.loop-b.invariant c.loop-b-test.false
