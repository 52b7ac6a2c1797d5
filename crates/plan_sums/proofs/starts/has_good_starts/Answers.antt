-- `plan_sums::starts::has_good_starts` meets its contract. Assumes nothing.
use Rattle.std.proofs.Common.{rules, tests, ◌∙◌}
use Rattle.std.proofs.lemmas.Iterator.{YieldsList-from_slice}
use Rattle.std.proofs.lemmas.Iterator.Search.{all_from_yields_List}
use Rattle.plan_record.specs.Record.{modules_of}
use Rattle.plan_record.specs.Good.{good_starts, start_is}
use Rattle.plan_sums.proofs.SumLaws.{all-is}
use Rattle.plan_sums.proofs.starts.has_good_starts.Goals as goal

pub returns : goal.returns
unfolding good_starts
returns c =
    let ms = modules_of c.args.p in
    all_from_yields_List (start_is ms) _ _ _ c.all.ensures.ran (YieldsList-from_slice ms cc) (λ x b q k. search (rules, tests)) ∙ all-is (start_is ms) ms
