-- `plan_good::good::are_spare_placed` meets its contract. Assumes nothing.
use Rattle.std.proofs.Common.{rules, tests, ◌∙◌, drop}
use Rattle.std.proofs.lemmas.Iterator.{YieldsList-from_slice}
use Rattle.std.proofs.lemmas.Iterator.Adapters.{YieldsList-from_skip}
use Rattle.std.proofs.lemmas.Iterator.Search.{all_from_yields_List}
use Rattle.plan_record.specs.Good.{spare_placed}
use Rattle.plan_sums.proofs.SumLaws.{all-is}
use Rattle.plan_good.proofs.good.are_spare_placed.Goals as goal

pub returns : goal.returns
returns c =
    let p = c.args.p.now in
    all_from_yields_List spare_placed _ _ _ c.all.ensures.ran (YieldsList-from_skip p.module_count (YieldsList-from_slice p.modules cc) cc) (λ x b q k. search (rules, tests)) ∙ all-is spare_placed (drop p.module_count p.modules)
