-- `pair_entries::planned::plan_pair` meets its contract: the pair is read first, then the planner is asked for. Assumes nothing.
use Rattle.plan.specs.PlanAnswers.{plan_answer}
use Rattle.pair_entries.specs.PlannedPair.{plan_pair}
use Rattle.pair_entries.proofs.EntryLaws.{refuses, says}
use Rattle.pair_entries.proofs.planned.plan_pair.Goals as goal

pub returns-in-Err : goal.returns-in-Err
unfolding plan_pair
returns-in-Err c = refuses (λ s. plan_answer s c.args.wires.0 c.args.limit c.args.capture.0) c.in-Err.ensures

pub returns : goal.returns
unfolding plan_pair
returns c = says (λ s. plan_answer s c.args.wires.0 c.args.limit c.args.capture.0) _ _ c.in-Ok.ensures c.plan.ensures c.map_err.ensures.cases
