-- `plan_good::good::are_good_placed` meets its contract. Assumes nothing.
use Rattle.std.proofs.Common.{rules, tests, ◌∙◌}
use Rattle.std.proofs.lemmas.Iterator.{YieldsList-from_slice}
use Rattle.std.proofs.lemmas.Iterator.Search.{all_from_yields_List}
use Rattle.plan_record.specs.Record.{modules_of}
use Rattle.plan_record.specs.Good.{good_placed}
use Rattle.plan_sums.proofs.SumLaws.{all-is}
use Rattle.plan_good.proofs.good.are_good_placed.Goals as goal

pub returns : goal.returns
returns c =
    let xs = modules_of c.args.p.now in
    all_from_yields_List (good_placed c.args.p.now) _ _ _ c.all.ensures.ran (YieldsList-from_slice xs cc) (λ x b q k. search (rules, tests)) ∙ all-is (good_placed c.args.p.now) xs
