-- `budget_search::place::attempt_place` meets its contract: what its invariant (Invariants.antt) leaves to show. Assumes nothing.
use native.Mathlib.Omega.{arith}
use Prim.Native.Nat.{ℕ, ◌+◌, ◌-◌, ◌*◌, ◌<◌}
use mathlib.Core.Path.{◌≡◌, sym, ap, ◌∙◌}
use lib.ListN.{length, get_or, set, length-set}
use Rattle.plan_search.specs.Search.{table_time}
use Rattle.budget_rules.specs.Tries.{busy_with}
use Rattle.budget_search.proofs.PlaceLaws.{placed-reached, placed-kept, left-start}
use Rattle.budget_search.proofs.PlaceLaws.{ready_next, attempt_dropped, attempt_on, left-tried, left_end}
use Rattle.budget_search.proofs.place.+attempt_place.Goals as goal
use Rattle.budget_search.proofs.place.+attempt_place.Goals.{attempt-After-time_at-t}

-- the load is the definition's
busy-is : (t : ℕ) (c : attempt-After-time_at-t t)
    → let a = c.args in
    get_or a.loads.now a.b 0 + c.time_at-t.result.0
    ≡ busy_with (table_time a.table.now) a.widths.now a.i a.loads.now a.b
busy-is t c = let a = c.args in ap (λ x. get_or a.loads.now a.b 0 + x) c.time_at-t.ensures

pub attempt-returns-then-is_reached : goal.attempt-returns-then-is_reached
attempt-returns-then-is_reached t c =
    attempt_dropped c.requires.ready c.requires.i_in_bounds.0 c.args.b c.requires.i_in_bounds.1 c.args.s (omega arith)
    c.count-spent.ensures (busy-is t (goal.at.attempt-returns-then-is_reached t c).After-time_at-t) (sym c.if-is_reached.true ∙ c.is_reached.ensures)

pub attempt-place-r-requires : goal.attempt-place-r-requires
attempt-place-r-requires t c =
    let a = c.args in
    let n : length (set a.buses.now a.i (a.b + 1)) ≡ length a.buses.now = length-set a.buses.now a.i (a.b + 1) in
    let f : (length (set a.buses.now a.i (a.b + 1)) - (a.i + 1)) * 2 + 1 < t = omega (arith, n, c.requires.i_in_bounds.0) in
    (f, ready_next c.requires.ready c.requires.i_in_bounds.0 a.b c.requires.i_in_bounds.1 (busy-is t (goal.at.attempt-place-r-requires t c).After-time_at-t) c.max.ensures)

-- the try was gone on with
pub attempt-returns : goal.attempt-returns
attempt-returns t c =
    attempt_on c.requires.ready c.requires.i_in_bounds.0 c.args.b c.requires.i_in_bounds.1 c.args.s
    (omega arith) c.count-spent.ensures (busy-is t (goal.at.attempt-returns t c).After-time_at-t) (sym c.if-is_reached.false ∙ c.is_reached.ensures)
    c.place-r.ensures

pub place-returns-then-is_reached : goal.place-returns-then-is_reached
place-returns-then-is_reached t c = placed-reached c.requires c.args.s c.if-i-buses.true (sym c.if-is_reached.true ∙ c.is_reached.ensures)

pub place-returns-then-i-buses : goal.place-returns-then-i-buses
place-returns-then-i-buses t c =
    placed-kept c.requires c.args.s c.if-i-buses.true (sym c.if-is_reached.false ∙ c.is_reached.ensures)
    c.keep_plan.ensures.0 c.keep_plan.ensures.1 c.completed.ensures

pub place-loop-bus-init : goal.place-loop-bus-init
place-loop-bus-init t c = left-start c.requires (omega (arith, c.requires.upto, c.if-i-buses.false)) c.args.s

pub place-loop-bus-preserved : goal.place-loop-bus-preserved
place-loop-bus-preserved t c = left-tried c.loop-bus.invariant (omega arith) c.attempt-r.ensures c.attempt-r.auto.buses

pub place-returns : goal.place-returns
place-returns t c = left_end c.loop-bus.invariant (omega arith)
