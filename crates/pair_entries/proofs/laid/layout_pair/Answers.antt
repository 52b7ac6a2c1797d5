-- `pair_entries::laid::layout_pair` meets its contract: the pair is read first, then the layout is asked for. Assumes nothing.
use Rattle.wrapper_layout.specs.LayoutAnswers.{layout_answer}
use Rattle.pair_entries.specs.LaidPair.{layout_pair}
use Rattle.pair_entries.proofs.EntryLaws.{leaves, says}
use Rattle.pair_entries.proofs.laid.layout_pair.Goals as goal

pub returns-in_err-pair : goal.returns-in_err-pair
unfolding layout_pair
returns-in_err-pair c = leaves (λ s. layout_answer s c.args.«module» c.args.test c.args.width.0 c.args.capture.0) _ c.in_err-pair.ensures c.from_residual.ensures.1

pub returns : goal.returns
unfolding layout_pair
returns c = says (λ s. layout_answer s c.args.«module» c.args.test c.args.width.0 c.args.capture.0) _ _ c.in_ok-pair.ensures c.layout.ensures c.map_err.ensures.cases
