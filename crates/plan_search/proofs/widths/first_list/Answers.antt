-- `widths::first_list` meets its contract: what its invariant (Invariants.antt) leaves to show. Assumes nothing.
use native.Mathlib.Omega.{arith}
use Prim.Native.Nat.{◌+◌, ◌≤◌, min}
use mathlib.Core.Path.{refl}
use mathlib.Core.List.{◌++◌}
use lib.ListN.{drop}
use Rattle.plan_search.proofs.CountedLaws.{Counted, counted-first, counted-last, group_lent, rooms_lent, counted_next}
use Rattle.plan_search.proofs.widths.first_list.Goals as goal
use Rattle.plan_search.proofs.widths.first_list.Goals.{After-over_group-r}

-- the lists of c widths were searched
searched : (c : After-over_group-r) → let a = c.args in Counted a.table.now a.wires.0 a.limit a.n a.best.0 a.found.now
    (c.over_group-r.new.widths ++ drop c.loop-c.c c.loop-c.widths) c.over_group-r.new.found c.over_group-r.result.0 (c.loop-c.c + 1)
searched c = let a = c.args in
    let o = c.over_group-r in
    counted_next a.table.now a.wires.0 a.limit a.n a.best.0 a.found.now c.requires c.loop-c.invariant (omega arith)
    o.new.widths o.new.found o.result.0 o.auto.widths o.ensures.sought

pub loop-c-init : goal.loop-c-init
loop-c-init c = let a = c.args in
    counted-first a.table.now a.wires.0 a.limit a.n a.best.0 a.found.now c.requires _ refl

pub over_group-r-requires : goal.over_group-r-requires
over_group-r-requires c = let a = c.args in
    let l = c.loop-c in
    let h : l.c ≤ min a.limit a.wires.0 = omega arith in (
      c.requires.table,
      l.invariant.small,
      group_lent a.table.now a.wires.0 a.limit a.n a.best.0 a.found.now c.requires l.invariant h,
      rooms_lent a.table.now a.wires.0 a.limit a.n a.best.0 a.found.now c.requires l.invariant h,
    )

pub loop-c-preserved : goal.loop-c-preserved
loop-c-preserved c = searched (goal.at.loop-c-preserved c).After-over_group-r

pub returns-clause-found_after : goal.returns-clause-found_after
returns-clause-found_after c = let a = c.args in
    counted-last a.table.now a.wires.0 a.limit a.n a.best.0 a.found.now c.requires c.loop-c.invariant (omega arith)

pub returns-2-clause-found_after : goal.returns-2-clause-found_after
returns-2-clause-found_after c = let a = c.args in
    counted-last a.table.now a.wires.0 a.limit a.n a.best.0 a.found.now c.requires
    (searched (goal.at.returns-2-clause-found_after c).After-over_group-r) (omega arith)
