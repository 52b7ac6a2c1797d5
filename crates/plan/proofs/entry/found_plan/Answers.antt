-- `plan::entry::found_plan` meets its contract: the tables are a table to search over, what is found over them keeps the limits of a plan
-- (`found-fits`), and its record is that of the best plan (`record_is`). Assumes nothing.
use borrow.Author.Rules.{rules}
use native.Mathlib.Omega.{arith}
use mathlib.Core.Path.{◌≡◌, refl, ap, ◌∙◌}
use lib.ListN.{length}
use Rattle.soc.specs.Planned.{planned_of}
use Rattle.plan_search.specs.Search.{AreTimes, IsTable}
use Rattle.plan.specs.Tables.{table_places, Plannable}
use Rattle.plan.proofs.TableLaws.{times-are, table_is}
use Rattle.plan.proofs.EntryLaws.{found-fits, record_is, best-plan, found-best}
use Rattle.plan.proofs.entry.found_plan.Goals as goal
use Rattle.plan.proofs.entry.found_plan.Goals.{After-tables_of-t}

module _ (c : After-tables_of-t) where
  abbrev pre : Plannable c.args.capture.0 c.args.s c.args.p c.args.wires.0
  pre = c.requires.0

  count : c.args.p.count ≡ length (planned_of c.args.s)
  count = ap (λ x. x.count) pre.numbers

  long : length c.tables_of-t.result.cycles ≡ table_places
  long = search rules

  -- the tables of the planned modules are a table to search over
  table : IsTable c.tables_of-t.result.cycles c.args.p.count
  table = rw count
      (table_is c.tables_of-t.ensures (omega (arith, pre.captures)) (omega (arith, pre.capturing)) pre.good refl long
      (rw count at c.requires.1))

  times : AreTimes c.tables_of-t.result.cycles c.args.p.count
  times = rw count
      (times-are c.tables_of-t.ensures (omega (arith, pre.captures)) (omega (arith, pre.capturing)) pre.good refl long pre.most)

pub search-f-requires : goal.search-f-requires
search-f-requires c = let r = c.requires in
    (table (goal.at.search-f-requires c).After-tables_of-t, r.0.low, r.0.narrow, r.2, omega (arith, r.3))

pub record_of-requires : goal.record_of-requires
record_of-requires c = let r = c.requires in
    let a = c.tables_of-t.ensures in
    let plan = best-plan a r.0.numbers c.search-f.ensures r.0.low r.2 in
    let best = found-best a r.0.numbers c.search-f.ensures r.0.low r.2 in
    (times (goal.at.record_of-requires c).After-tables_of-t, found-fits a r.0.numbers plan best r.0.narrow (omega (arith, r.3)))

pub returns : goal.returns
returns c = let r = c.requires in
    let a = c.tables_of-t.ensures in
    let plan = best-plan a r.0.numbers c.search-f.ensures r.0.low r.2 in
    let best = found-best a r.0.numbers c.search-f.ensures r.0.low r.2 in
    c.record_of.ensures ∙ record_is a r.0.numbers plan best r.0.narrow (omega (arith, r.3))
