-- `plan_sums::times::cycles_on` meets its contract. Assumes nothing.
use Rattle.std.proofs.Common.{rules, ◌∙◌}
use borrow.Author.Tests.{tests}
use lib.Dec.{eqb}
use Rattle.plan_record.specs.Record.{modules_of}
use Rattle.plan_sums.proofs.SumLaws.{cycles_on-where}
use Rattle.plan_sums.proofs.times.cycles_on.Goals as goal

pub returns : goal.returns
returns c = c.cycles_where.ensures (λ m. eqb m.bus c.args.b) (λ m t h. search (rules, tests)) ∙ cycles_on-where c.args.b (modules_of c.args.p.now)
