-- `within::over_counts` meets its contract: what its invariant (Invariants.antt) leaves to show. Assumes nothing.
use Rattle.std.proofs.Common.{rules, arith}
use Rattle.budget_search.proofs.CountLaws.{counted-first, counted-last, counted_next}
use Rattle.budget_search.proofs.within.over_counts.Goals as goal

pub loop-c-init : goal.loop-c-init
loop-c-init c = let a = c.args in
    counted-first a.table.now a.wires.0 a.limit a.n a.budget (search rules) (search rules) c.requires.1

pub loop-c-preserved : goal.loop-c-preserved
loop-c-preserved c = let a = c.args in
    let l = c.loop-c in
    let o = c.over_lists-r in
    counted_next a.table.now a.wires.0 a.limit a.n a.budget l.invariant c.requires.0 (omega arith) o.new.widths o.auto.widths o.ensures.1 o.ensures.0

pub returns : goal.returns
returns c = let a = c.args in
    (counted-last a.table.now a.wires.0 a.limit a.n a.budget c.loop-c.invariant (omega arith), c.loop-c.invariant.rooms)
