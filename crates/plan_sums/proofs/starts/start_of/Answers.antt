-- `plan_sums::starts::start_of` meets its contract. Assumes nothing.
use Rattle.std.proofs.Common.{rules, ◌∙◌}
use borrow.Author.Tests.{tests}
use Rattle.plan_record.specs.Record.{modules_of, runs_before}
use Rattle.plan_sums.proofs.SumLaws.{start-where}
use Rattle.plan_sums.proofs.starts.start_of.Goals as goal

pub returns : goal.returns
returns c = c.cycles_where.ensures (λ x. runs_before x c.args.m) (λ x t h. search (rules, tests)) ∙ start-where c.args.m (modules_of c.args.p.now)
