-- `plan_sums::times::has_good_busy` meets its contract. Assumes nothing.
use Rattle.std.proofs.Common.{rules, tests, ◌∙◌, ◌+◌}
use Rattle.std.proofs.lemmas.Iterator.{YieldsList-from_slice}
use Rattle.std.proofs.lemmas.Iterator.Consumers.{YieldsList-from_enumerate}
use Rattle.std.proofs.lemmas.Iterator.Search.{all_from_yields_List}
use lib.Dec.{eqb}
use Rattle.plan_record.specs.Record.{modules_of, buses_of, cycles_on}
use Rattle.plan_sums.proofs.SumLaws.{busies-is}
use Rattle.plan_sums.proofs.times.has_good_busy.Goals as goal

pub returns : goal.returns
returns c =
    let ms = modules_of c.args.p.now in
    let bs = buses_of c.args.p.now in
    all_from_yields_List (λ q. eqb q.1.busy.0 (cycles_on (q.0 + 1) ms)) _ _ _ c.all.ensures.ran (YieldsList-from_enumerate (YieldsList-from_slice bs cc) cc) (λ x b q k. search (rules, tests)) ∙ busies-is ms 0 bs
