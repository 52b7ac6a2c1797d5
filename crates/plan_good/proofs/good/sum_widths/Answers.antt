-- `plan_good::good::sum_widths` meets its contract. Assumes nothing.
use Rattle.std.proofs.Common.{rules, tests, arith, ◌∙◌, ◌^◌, ◌≤◌, length}
use Rattle.std.proofs.lemmas.Iterator.{YieldsList-from_slice, YieldsList-from_map}
use Rattle.std.proofs.lemmas.Iterator.Adapters.{fits_from_length, at_most_from_yields_List}
use Rattle.std.proofs.lemmas.Iterator.Consumers.{sum_by_from_yields_List}
use Rattle.plan_record.specs.Record.{buses_of}
use Rattle.plan_record.specs.declared.record.Bus.{Bus}
use Rattle.plan_good.proofs.GoodLaws.{widths-sum}
use Rattle.plan_good.proofs.good.sum_widths.Goals as goal

pub sum-requires-clause-fits : goal.sum-requires-clause-fits
sum-requires-clause-fits c =
    let bs = buses_of c.args.p.now in
    let few : length bs ≤ 8 = search rules in
    fits_from_length _ _ 8 (2 ^ 64) (at_most_from_yields_List (YieldsList-from_slice bs cc) few) c.map.ensures.closure (omega arith) (λ x r q k. search rules)

pub returns : goal.returns
returns c =
    let bs = buses_of c.args.p.now in
    sum_by_from_yields_List (λ (b : Bus). b.width.0) bs c.map.result _ c.sum.ensures.ran (YieldsList-from_map _ (λ (b : Bus). b.width.0) (YieldsList-from_slice bs cc) c.map.ensures.closure (λ x r q k. search (rules, tests))) ∙ widths-sum bs
