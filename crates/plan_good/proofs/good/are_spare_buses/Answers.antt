-- `plan_good::good::are_spare_buses` meets its contract. Assumes nothing.
use Rattle.std.proofs.Common.{rules, tests, ◌∙◌, drop}
use Rattle.std.proofs.lemmas.Iterator.{YieldsList-from_slice}
use Rattle.std.proofs.lemmas.Iterator.Adapters.{YieldsList-from_skip}
use Rattle.std.proofs.lemmas.Iterator.Search.{all_from_yields_List}
use Rattle.plan_record.specs.Good.{spare_bus}
use Rattle.plan_sums.proofs.SumLaws.{all-is}
use Rattle.plan_good.proofs.good.are_spare_buses.Goals as goal

pub returns : goal.returns
unfolding spare_bus
returns c =
    let p = c.args.p.now in
    all_from_yields_List spare_bus _ _ _ c.all.ensures.ran (YieldsList-from_skip p.bus_count (YieldsList-from_slice p.buses cc) cc) (λ x b q k. search (rules, tests)) ∙ all-is spare_bus (drop p.bus_count p.buses)
