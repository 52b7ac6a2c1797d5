-- `plan_sums::times::largest_busy` meets its contract. Assumes nothing.
use Rattle.std.proofs.Common.{rules, tests, ◌∙◌, ap}
use Rattle.std.specs.Option.{unwrap_or}
use Rattle.std.proofs.lemmas.Iterator.{YieldsList-from_slice, YieldsList-from_map}
use Rattle.std.proofs.lemmas.Iterator.Consumers.{reduce_from_yields_List}
use Rattle.std.proofs.lemmas.List.Folds.{max_of_map}
use Rattle.plan_record.specs.Record.{buses_of}
use Rattle.plan_record.specs.declared.record.Bus.{Bus}
use Rattle.plan_sums.proofs.SumLaws.{largest-is}
use Rattle.plan_sums.proofs.times.largest_busy.Goals as goal

pub returns : goal.returns
returns c =
    let bs = buses_of c.args.p.now in
    c.unwrap_or.ensures
    ∙ ap (λ o. unwrap_or o 0) (reduce_from_yields_List _ c.map.result _ c.max.ensures.ran (YieldsList-from_map _ (λ (b : Bus). b.busy.0) (YieldsList-from_slice bs cc) c.map.ensures.closure (λ x b q k. search (rules, tests))))
    ∙ max_of_map (λ (b : Bus). b.busy.0) bs
    ∙ largest-is bs
