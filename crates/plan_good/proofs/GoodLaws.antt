-- Laws of a good plan record: what the tests on the way give the tests that follow. Assumes nothing.
use Rattle.std.proofs.Common.{◌≤◌, ◌≡◌, refl, List, [], ◌∷◌, true, sum_by, arith}
use Rattle.std.proofs.lemmas.List.Sums.{sum_by-cons}
use Rattle.units.specs.Places.{all_of}
use Rattle.plan_rules.specs.Plans.{sum}
use Rattle.plan_record.specs.Record.{bus_places, module_places, modules_of, widths_of}
use Rattle.plan_record.specs.Good.{good_counts, good_buses, good_placed}
use Rattle.plan_record.specs.declared.record.Bus.{Bus}
use Rattle.plan_record.specs.declared.record.BusPlan.{BusPlan}
use Rattle.plan_record.proofs.GoodPlanLaws.{good-counts, good-bus-count, placed-front, plan-order}
use Rattle.plan_sums.specs.Times.{CyclesFit}

pub limit-few : (p : BusPlan) → good_counts p ≡ true → p.limit ≤ bus_places
limit-few p e = (good-counts p e).limit_high

pub modules-few : (p : BusPlan) → good_counts p ≡ true → p.module_count ≤ module_places
modules-few p e = (good-counts p e).modules_high

pub buses-few : (p : BusPlan) → good_counts p ≡ true → good_buses p ≡ true → p.bus_count ≤ bus_places
buses-few p e b = let m = good-bus-count p b in let n = good-counts p e in omega arith

pub cycles-fit : (p : BusPlan) → good_counts p ≡ true → all_of (good_placed p) (modules_of p) ≡ true → CyclesFit p
cycles-fit p e a = record { few = modules-few p e; each = λ i h. (placed-front p a i h).cycles }

pub ruleset limits = (limit-few, modules-few, buses-few, cycles-fit, plan-order)

pub widths-sum : (bs : List Bus) → sum_by (λ b. b.width.0) bs ≡ sum (widths_of bs)
unfolding sum
widths-sum [] = refl
widths-sum (b ∷ bs) = rw (sum_by-cons (λ x. x.width.0) b bs, widths-sum bs)
