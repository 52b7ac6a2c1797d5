-- `groups::may_beat` meets its contract: where nothing below the best is found, the least time is the best (`not_found`). Assumes nothing.
use native.Mathlib.Omega.{arith}
use borrow.Author.Tests.{ltb-false}
use Rattle.plan_rules.specs.Plans.{time_of}
use Rattle.plan_rules.proofs.FirstLaws.{least_le}
use Rattle.plan_search.specs.Search.{table_time}
use Rattle.plan_search.proofs.SoughtLaws.{not_found}
use Rattle.plan_search.proofs.groups.may_beat.Goals as goal

pub returns-then-best-gt0 : goal.returns-then-best-gt0
returns-then-best-gt0 c = let k = c.least_on in
    λ e.
    not_found c.args.table.now c.args.widths.now c.args.n c.args.best.0 k.result.0 (omega (arith, c.if-best-gt0.true))
    (ltb-false k.result.0 c.args.best.0 e) k.ensures

pub returns-else-best-gt0 : goal.returns-else-best-gt0
returns-else-best-gt0 c = λ e. omega (arith, c.if-best-gt0.false, least_le (time_of (table_time c.args.table.now)) c.args.n c.args.widths.now c.args.best.0)
