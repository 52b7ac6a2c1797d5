-- `widths::least_list` meets its contract: the rows are those of the table in some order, the rule of thumb gives the time of some
-- plan, and so what is kept from there on stands (`stands_from`). Assumes nothing.
use native.Mathlib.Omega.{arith}
use Prim.Native.Nat.{◌+◌, ◌*◌, ◌≤◌}
use mathlib.Core.Path.{◌≡◌, refl, ◌∙◌}
use mathlib.Core.List.{◌++◌}
use lib.ListN.{length, take, drop, replicate}
use lib.Seq.{take_at}
use Rattle.plan_search.specs.Search.{search_modules, time_bound, IsTable}
use Rattle.plan_search.specs.Lists.{kept}
use Rattle.plan_search.proofs.LentLaws.{lent_length}
use Rattle.plan_search.proofs.FoundLaws.{time-most, stands_from}
use Rattle.plan_search.proofs.widths.least_list.Goals as goal
use Rattle.plan_search.proofs.widths.least_list.Goals.{After-bound_of-bound, After-rows_in-rows, After-sort_order}

-- the order that was sorted, and the array that holds it
sorted-length : (c : After-sort_order) → length c.sort_order.new.order ≡ c.args.n
sorted-length c = c.sort_order.auto.order ∙ lent_length c.args.n search_modules c.requires.0.few

order_is : (c : After-sort_order) → take c.args.n (c.sort_order.new.order ++ drop c.args.n (replicate search_modules 0)) ≡ c.sort_order.new.order
order_is c = take_at c.sort_order.new.order (drop c.args.n (replicate search_modules 0)) c.args.n (sorted-length c)

-- the rows in that order are a table
rows-table : (c : After-rows_in-rows) → IsTable c.rows_in-rows.result c.args.n
rows-table c = rw (order_is (goal.at.After-rows_in-rows c).After-sort_order, sorted-length (goal.at.After-rows_in-rows c).After-sort_order) at c.rows_in-rows.ensures.table

-- the time of some plan fits
bound-most : (c : After-bound_of-bound) → c.bound_of-bound.result.0 ≤ search_modules * time_bound
bound-most c = let b = c.bound_of-bound.ensures in
    omega (arith, b.takes, time-most (rows-table (goal.at.After-bound_of-bound c).After-rows_in-rows) b.reached b.is_plan.placed)

pub overflow_add-bound : goal.overflow_add-bound
overflow_add-bound c = omega (arith, bound-most (goal.at.overflow_add-bound c).After-bound_of-bound)

pub first_list-requires : goal.first_list-requires
first_list-requires c = record {
  table = rows-table (goal.at.first_list-requires c).After-rows_in-rows;
  wires = c.requires.1;
  narrow = c.requires.2;
  limit = c.requires.4;
  small = omega (arith, bound-most (goal.at.first_list-requires c).After-bound_of-bound);
  rooms = c.requires.5;
}

pub returns-clause-stands : goal.returns-clause-stands
returns-clause-stands c = let a = c.args in
    let place = (goal.at.returns-clause-stands c).After-sort_order in
    let l : length (take a.n (c.sort_order.new.order ++ drop a.n (replicate search_modules 0))) ≡ a.n = rw (order_is place) (sorted-length place) in
    stands_from a.table.now a.wires.0 a.limit a.n c.requires.1 c.requires.3 (kept (c.bound_of-bound.result.0 + 1) a.found.now)
    c.requires.2 l c.rows_in-rows.ensures c.bound_of-bound.ensures refl c.first_list.ensures.found_after
