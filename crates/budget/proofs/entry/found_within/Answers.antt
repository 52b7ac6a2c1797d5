-- `budget::entry::found_within` meets its contract: the tables are a table to search over, and what is made of what was found is the answer
-- (`met_is` and its neighbours). Assumes nothing.
use borrow.Author.Rules.{rules}
use mathlib.Core.Path.{◌≡◌, refl, ap, ◌∙◌}
use lib.ListN.{length}
use Rattle.soc.specs.Planned.{planned_of}
use Rattle.plan_search.specs.Search.{AreTimes}
use Rattle.plan.specs.Tables.{table_places}
use Rattle.plan.proofs.TableLaws.{times-are}
use Rattle.budget.specs.BudgetAnswers.{ended_as}
use Rattle.budget.proofs.EntryLaws.{found-kept, met_is, stopped-is, tries-is}
use Rattle.budget.proofs.entry.found_within.Goals as goal
use Rattle.budget.proofs.entry.found_within.Goals.{After-tables_of-t}

-- the tables of the planned modules hold times
times : (c : After-tables_of-t) → AreTimes c.tables_of-t.result.cycles c.args.p.count
times c = let q = c.requires.0 in
    let e : c.args.p.count ≡ length (planned_of c.args.s) = ap (λ x. x.count) q.numbers in
    let l : length c.tables_of-t.result.cycles ≡ table_places = search rules in
    rw e (times-are c.tables_of-t.ensures q.captures q.capturing q.good refl l q.most)

pub search_within-spent-requires : goal.search_within-spent-requires
search_within-spent-requires c = let q = c.requires in
    record { table = times (goal.at.search_within-spent-requires c).After-tables_of-t; modules = q.1; narrow = q.0.narrow; limit = q.3; spending = q.4 }

pub record_met-requires : goal.record_met-requires
record_met-requires c = let q = c.requires in
    let x = c.args in
    found-kept x.capture.0 x.s x.wires.0 x.limit x.budget c.tables_of-t.ensures q.0.numbers q.0.narrow q.3 c.search_within-spent.ensures (times (goal.at.record_met-requires c).After-tables_of-t)

pub returns : goal.returns
returns c = let q = c.requires in
    let a = c.tables_of-t.ensures in
    let x = c.args in
    let is = c.search_within-spent.ensures in
    let s = stopped-is x.capture.0 x.s x.wires.0 x.limit x.budget a q.0.numbers q.0.narrow q.3 is in
    let t = tries-is x.capture.0 x.s x.wires.0 x.limit x.budget a q.0.numbers q.0.narrow q.3 is in
    let r = c.record_met.ensures ∙ met_is x.capture.0 x.s x.wires.0 x.limit x.budget a q.0.numbers q.0.narrow q.3 is in
    let e = c.ended_as.ensures ∙ ap ended_as s in
    rw (e, t, r)
