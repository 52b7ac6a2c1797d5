-- `least::least_on` meets its contract: `least` from the first module on, with no load. Assumes nothing.
use native.Mathlib.Omega.{arith}
use Prim.Native.Nat.{◌+◌, ◌-◌, ◌≤◌, ◌<◌}
use mathlib.Core.Path.{◌≡◌, ◌∙◌}
use mathlib.Core.List.{◌++◌}
use lib.ListN.{length, take, drop, replicate}
use lib.Seq.{take_at}
use Rattle.plan_search.specs.Search.{search_buses, search_modules}
use Rattle.plan_search.specs.Least.{Board}
use Rattle.plan_search.proofs.WidthLaws.{last-is}
use Rattle.plan_search.proofs.LentLaws.{take-replicate, lent_length}
use Rattle.plan_search.proofs.LeastLaws.{loads_first, on_first}
use Rattle.plan_search.proofs.least.least_on.Goals as goal
use Rattle.plan_search.proofs.least.least_on.Goals.{After-sum_rest}

-- the sums of what is left, and the array that holds them
rest-length : (c : After-sum_rest) → length c.sum_rest.new.rest ≡ c.args.n + 1
rest-length c = c.sum_rest.auto.rest ∙ lent_length (c.args.n + 1) (search_modules + 1) (omega (arith, c.requires.0.few))

rest_is : (c : After-sum_rest)
    → take (c.args.n + 1) (c.sum_rest.new.rest ++ drop (c.args.n + 1) (replicate (search_modules + 1) 0)) ≡ c.sum_rest.new.rest
rest_is c = take_at c.sum_rest.new.rest (drop (c.args.n + 1) (replicate (search_modules + 1) 0)) (c.args.n + 1) (rest-length c)

board : (c : After-sum_rest) → Board c.args.table.now c.args.widths.now c.sum_rest.new.rest
board c = let m : c.args.n + 1 - 1 ≡ c.args.n = omega arith in
    let one : 1 ≤ c.args.n + 1 = omega arith in
    record { table = rw (rest-length c, m) c.requires.0; some = rw (rest-length c) one; widths = c.requires.1; rest_is = c.sum_rest.ensures }

pub sum_rest-requires : goal.sum_rest-requires
sum_rest-requires c = let e = lent_length (c.args.n + 1) (search_modules + 1) (omega (arith, c.requires.0.few)) in
    let m : c.args.n + 1 - 1 ≡ c.args.n = omega arith in
    let one : 1 ≤ c.args.n + 1 = omega arith in
    let l = last-is c.requires.1 in
    (rw (e, m) c.requires.0, rw e one, l.0, l.1)

pub least-requires : goal.least-requires
least-requires c = let e = rest-length (goal.at.least-requires c).After-sum_rest in
    let n : 0 < c.args.n + 1 = omega arith in
    let f = take-replicate (length c.args.widths.now) search_buses 0 c.requires.1.few in
    rw (rest_is (goal.at.least-requires c).After-sum_rest) (board (goal.at.least-requires c).After-sum_rest, loads_first c.args.widths.now f, rw e n, c.requires.2)

pub returns : goal.returns
returns c = let a = c.args in
    let m : a.n + 1 - 1 ≡ a.n = omega arith in
    let f = take-replicate (length a.widths.now) search_buses 0 c.requires.1.few in
    on_first a.table.now a.widths.now a.n a.best.0 f (rw (rest_is (goal.at.returns c).After-sum_rest, rest-length (goal.at.returns c).After-sum_rest, m) at c.least.ensures.reaches)
