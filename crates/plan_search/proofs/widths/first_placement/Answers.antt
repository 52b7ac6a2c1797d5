-- `widths::first_placement` meets its contract: `place` from the first module on, with no load. Assumes nothing.
use native.Mathlib.Omega.{arith}
use Prim.Native.Nat.{ℕ, ◌-◌}
use mathlib.Core.Path.{◌≡◌, sym}
use lib.ListN.{length, take, replicate}
use Rattle.plan_rules.specs.Listed.{placements}
use Rattle.plan_search.specs.Search.{search_buses, search_modules, time_on}
use Rattle.plan_search.proofs.SearchLaws.{keep-none}
use Rattle.plan_search.proofs.PlaceLaws.{ready_first, placed_first}
use Rattle.plan_search.proofs.WidthLaws.{width-at}
use Rattle.plan_search.proofs.LentLaws.{take-replicate, lent_length}
use Rattle.plan_search.proofs.widths.first_placement.Goals as goal

pub returns-then-best-eq0 : goal.returns-then-best-eq0
returns-then-best-eq0 c = let a = c.args in
    sym (keep-none (time_on a.table.now a.widths.now) a.best.now (placements (length a.best.now - 1) (length a.widths.now))
    (λ x m. omega (arith, c.if-best-eq0.true)))

pub place-requires : goal.place-requires
place-requires c = let a = c.args in
    let n = length a.best.now - 1 in
    let ws = a.widths.now in
    let e : length {A = ℕ} (take n (replicate search_modules 0)) ≡ n = lent_length n search_modules c.requires.0.few in
    let f : take {A = ℕ} (length ws) (replicate search_buses 0) ≡ replicate (length ws) 0 = take-replicate (length ws) search_buses 0 c.requires.1.few in
    rw f (ready_first (rw e c.requires.0.long) c.requires.0.times (width-at c.requires.1) (rw e c.requires.0.few) (omega (arith, c.if-best-eq0.false)) (omega (arith, e, c.requires.2)))

pub returns : goal.returns
returns c = let a = c.args in
    let n = length a.best.now - 1 in
    let e : length {A = ℕ} (take n (replicate search_modules 0)) ≡ n = lent_length n search_modules c.requires.0.few in
    rw e at (placed_first c.place.ensures)
