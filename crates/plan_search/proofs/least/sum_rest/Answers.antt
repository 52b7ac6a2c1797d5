-- `least::sum_rest` meets its contract: what its invariant (Invariants.antt) leaves to show. Assumes nothing.
use native.Mathlib.Omega.{arith}
use native.Mathlib.Nat.{mul-le-mul_right}
use Prim.Native.Nat.{ℕ, suc, ◌+◌, ◌-◌, ◌≤◌}
use mathlib.Core.Path.{◌≡◌}
use lib.ListN.{length, get_or}
use Rattle.plan_search.specs.Search.{search_modules, time_bound, table_time}
use Rattle.plan_search.proofs.RestLaws.{Summed, total-most, summed_first, summed_next}
use Rattle.plan_search.proofs.least.sum_rest.Goals as goal

pub loop-i-init : goal.loop-i-init
loop-i-init c = summed_first (λ j. table_time c.args.table.now j c.args.w.0) (length c.args.rest.now - 1) c.args.rest.now (omega (arith, c.requires.1))

pub overflow_add-rest-in-loop-i : goal.overflow_add-rest-in-loop-i
overflow_add-rest-in-loop-i c = let l = c.loop-i in
    let n = length c.args.rest.now - 1 in
    let k : n - l.i ≤ search_modules = omega (arith, c.requires.0.few) in
    let e : l.i - 1 + 1 ≡ l.i = omega arith in
    rw e (omega (
      arith,
      l.invariant.sums l.i (omega arith) l.invariant.upto,
      total-most (n - l.i) l.i time_bound (λ j. table_time c.args.table.now j c.args.w.0) (λ j. c.requires.0.times j c.args.w.0),
      mul-le-mul_right time_bound k,
      c.time_at.ensures,
      c.requires.0.times (l.i - 1) c.args.w.0,
    ))

pub loop-i-preserved : goal.loop-i-preserved
loop-i-preserved c = let l = c.loop-i in
    let e : l.i ≡ suc (l.i - 1) = omega arith in
    let f : ℕ → ℕ = λ j. table_time c.args.table.now j c.args.w.0 in
    let q : Summed f (length c.args.rest.now - 1) l.rest (suc (l.i - 1)) = rw (← e) l.invariant in
    let z : l.i - 1 + 1 ≡ suc (l.i - 1) = omega arith in
    summed_next f (length c.args.rest.now - 1) l.rest (l.i - 1) c.time_at.result.0
    (get_or l.rest (l.i - 1 + 1) 0 + c.time_at.result.0) q c.time_at.ensures (rw z)
