-- `groups::on_widths` meets its contract: what `least_on` answers is the least time on the widths (`found-exact`), and they are kept
-- where it is less. Assumes nothing.
use Rattle.plan_search.proofs.SoughtLaws.{found-exact, sought_less, sought-same}
use Rattle.plan_search.proofs.groups.on_widths.Goals as goal

pub returns-then-r-best : goal.returns-then-r-best
returns-then-r-best c = let k = c.keep_widths in
    sought_less c.requires.3 (found-exact c.least_on-r.ensures) k.new.found c.if-r-best.true k.ensures

pub returns-else-r-best : goal.returns-else-r-best
returns-else-r-best c = sought-same c.requires.3 (found-exact c.least_on-r.ensures) c.if-r-best.false
