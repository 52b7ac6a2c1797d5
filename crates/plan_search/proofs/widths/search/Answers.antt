-- `widths::search` meets its contract: on the widths that are kept the first placement within the least time is that of the first plan
-- of least time (`found-buses`), and the buffers hold it (`found-is`). Assumes nothing.
use native.Mathlib.Omega.{arith}
use native.Mathlib.Numerals.{add-one}
use Prim.Native.Nat.{suc, ◌+◌, ◌-◌, ◌*◌, ◌≤◌}
use mathlib.Core.Path.{◌≡◌, ◌∙◌}
use mathlib.Core.List.{◌∷◌, ◌++◌}
use lib.ListN.{length, get_or, take, drop, replicate}
use lib.Seq.{length-take-le, take_at, get_or-take}
use Rattle.plan_rules.specs.Plans.{time_of}
use Rattle.plan_rules.specs.Listed.{best_plan}
use Rattle.plan_rules.specs.Least.{Stands}
use Rattle.plan_search.specs.Search.{search_modules, time_bound, table_time}
use Rattle.plan_search.specs.Lists.{kept}
use Rattle.plan_search.proofs.FoundLaws.{best-widths, found-widths, found-buses, found-most, found-is}
use Rattle.plan_search.proofs.widths.search.Goals as goal
use Rattle.plan_search.proofs.widths.search.Goals.{After-first_placement, After-least_list-time}

-- the widths that are kept stand, and lie within their buffer
stands : (c : After-least_list-time) → let a = c.args in Stands (time_of (table_time a.table.now)) a.n (kept c.least_list-time.result.0 c.least_list-time.new.found) (best_plan (table_time a.table.now) a.wires.0 a.limit a.n)
stands c = c.least_list-time.ensures.stands

most : (c : After-least_list-time) → c.least_list-time.result.0 ≤ search_modules * time_bound
most c = let a = c.args in
    found-most a.table.now a.wires.0 a.limit a.n c.requires.1 c.requires.3 c.least_list-time.result.0 c.least_list-time.new.found (stands c) c.least_list-time.ensures.found_in_bounds c.requires.0

-- the part of the buffer that holds them
part-is : (c : After-least_list-time) → let f = c.least_list-time.new.found in take (get_or f 0 0 + 1 - 1) (drop 1 f) ≡ (best_plan (table_time c.args.table.now) c.args.wires.0 c.args.limit c.args.n).widths
part-is c = let a = c.args in
    let f = c.least_list-time.new.found in
    let z : get_or f 0 0 + 1 - 1 ≡ get_or f 0 0 = omega arith in
    rw z (found-widths a.table.now a.wires.0 a.limit a.n c.requires.1 c.requires.3 c.least_list-time.result.0 f (stands c) c.least_list-time.ensures.found_in_bounds)

-- the places of the bus numbers and of the time before them
room : (c : After-least_list-time) → length (take (c.args.n + 1) ((c.least_list-time.result.0 + 1) ∷ replicate search_modules 0)) ≡ c.args.n + 1
room c = length-take-le (c.args.n + 1) ((c.least_list-time.result.0 + 1) ∷ replicate search_modules 0) (omega (arith, c.requires.0.few))

-- what was found stands at the front of its buffer
best_is : (c : After-first_placement) → take (c.args.n + 1) (c.first_placement.new.best ++ drop (c.args.n + 1) ((c.least_list-time.result.0 + 1) ∷ replicate search_modules 0)) ≡ c.first_placement.new.best
best_is c = take_at c.first_placement.new.best (drop (c.args.n + 1) ((c.least_list-time.result.0 + 1) ∷ replicate search_modules 0)) (c.args.n + 1)
    (c.first_placement.auto.best ∙ room (goal.at.After-first_placement c).After-least_list-time)

pub overflow_add-best : goal.overflow_add-best
overflow_add-best c = omega (arith, most (goal.at.overflow_add-best c).After-least_list-time)

pub first_placement-requires : goal.first_placement-requires
first_placement-requires c = let e = room (goal.at.first_placement-requires c).After-least_list-time in
    let m : c.args.n + 1 - 1 ≡ c.args.n = omega arith in
    let one : 1 ≤ c.args.n + 1 = omega arith in (
      rw (e, m) c.requires.0,
      rw (part-is (goal.at.first_placement-requires c).After-least_list-time) (best-widths c.args.table.now c.args.wires.0 c.args.limit c.args.n c.requires.1 c.requires.3 c.requires.2 c.requires.4),
      rw e one,
    )

pub returns : goal.returns
returns c = let a = c.args in
    let T = c.least_list-time.result.0 in
    let f = c.least_list-time.new.found in
    let z : get_or f 0 0 + 1 - 1 ≡ get_or f 0 0 = omega arith in
    let w : take (get_or f 0 0 + 1 - 1) (drop 1 f) ≡ take (get_or f 0 0) (drop 1 f) = rw z in
    let m : length (take (a.n + 1) ((T + 1) ∷ replicate search_modules 0)) - 1 ≡ a.n = rw (room (goal.at.returns c).After-least_list-time) (omega arith) in
    let b = take (a.n + 1) ((T + 1) ∷ replicate search_modules 0) in
    let h : get_or b 0 0 ≡ suc T = get_or-take (a.n + 1) ((T + 1) ∷ replicate search_modules 0) 0 0 (omega arith) ∙ add-one T in
    let g = found-buses a.table.now a.wires.0 a.limit a.n c.requires.1 c.requires.3 T f (stands (goal.at.returns c).After-least_list-time) c.least_list-time.ensures.found_in_bounds b w m h c.first_placement.ensures in
    c.found_in.ensures
    ∙ rw (best_is (goal.at.returns c).After-first_placement) (found-is a.table.now a.wires.0 a.limit a.n c.requires.1 c.requires.3 T f (stands (goal.at.returns c).After-least_list-time) c.least_list-time.ensures.found_in_bounds c.first_placement.new.best g)
