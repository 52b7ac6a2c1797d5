-- `pair_entries::timed::module_time_pair` meets its contract: the pair is read first, then the time is asked for. Assumes nothing.
use Rattle.wrapper_times.specs.TimeAnswers.{module_time_answer}
use Rattle.pair_entries.specs.TimedPair.{module_time_pair}
use Rattle.pair_entries.proofs.EntryLaws.{leaves, says}
use Rattle.pair_entries.proofs.timed.module_time_pair.Goals as goal

pub returns-in_err-pair : goal.returns-in_err-pair
unfolding module_time_pair
returns-in_err-pair c = leaves (λ s. module_time_answer s c.args.«module» c.args.width.0 c.args.capture.0) _ c.in_err-pair.ensures c.from_residual.ensures.1

pub returns : goal.returns
unfolding module_time_pair
returns c = says (λ s. module_time_answer s c.args.«module» c.args.width.0 c.args.capture.0) _ _ c.in_ok-pair.ensures c.module_time.ensures c.map_err.ensures.cases
