-- `thumb_even` meets its contract: the widths are even, and the last has the rest. Assumes nothing.
use Rattle.plan_search.proofs.ThumbLaws.{evened-reached}
use Rattle.plan_search.proofs.thumb.thumb_even.Goals as goal

pub returns : goal.returns
returns c = let r = c.requires in
    evened-reached r.1 r.2 r.3 r.4 c.args.table.now c.args.n c.thumb_on.result.0 c.thumb_on.ensures
