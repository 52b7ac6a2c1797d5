-- Laws of good plan records: every figure, in use or spare, keeps its limit and so fits its word. Assumes nothing.
use Prim.Native.Nat.{ℕ, ◌<◌}
use mathlib.Core.Path.{◌≡◌}
use mathlib.Core.Bool.{true}
use native.Mathlib.Omega.{arith}
use borrow.Author.Tests.{eqb-true}
use lib.ListN.{length, get_or, drop}
use lib.Seq.{get_or-take, length-take-le}
use Rattle.units.specs.Places.{all_of}
use Rattle.units.proofs.TestLaws.{and_both}
use Rattle.plan_record.specs.Record.{no_bus, no_placed, buses_of}
use Rattle.plan_record.specs.Good.{spare_bus, spare_placed, spare_rest, good_plan}
use Rattle.plan_record.specs.Whole.{Whole}
use Rattle.plan_record.specs.declared.record.Bus.{Bus}
use Rattle.plan_record.specs.declared.record.PlacedModule.{PlacedModule}
use Rattle.plan_record.specs.declared.record.BusPlan.{BusPlan}
use Rattle.plan_record.proofs.GoodPlanLaws.{good_parts, good-figures, good-busy, good-time}
use Rattle.plan_record.proofs.StartLaws.{good-end}
use Rattle.c_forms.specs.Fit.{FitBus, FitPlaced, FitPlan}
use Rattle.c_forms.proofs.SocFits.{front-each}

spare-bus : (b : Bus) → spare_bus b ≡ true → FitBus b
unfolding spare_bus
spare-bus b e =
    let a = and_both _ _ e in
    let w : b.width.0 ≡ 0 = eqb-true b.width.0 0 a.0 in
    let y : b.busy.0 ≡ 0 = eqb-true b.busy.0 0 a.1 in
    record { width = omega arith; busy = omega arith }

spare-placed : (m : PlacedModule) → spare_placed m ≡ true → FitPlaced m
unfolding spare_placed
spare-placed m e =
    let a = and_both _ _ e in
    let b = and_both _ _ a.1 in
    let c = and_both _ _ b.1 in
    let d = and_both _ _ c.1 in
    let n : m.number ≡ 0 = eqb-true m.number 0 a.0 in
    let u : m.bus ≡ 0 = eqb-true m.bus 0 b.0 in
    let w : m.wires.0 ≡ 0 = eqb-true m.wires.0 0 c.0 in
    let t : m.cycles.0 ≡ 0 = eqb-true m.cycles.0 0 d.0 in
    let s : m.start.0 ≡ 0 = eqb-true m.start.0 0 d.1 in
    record { number = omega arith; bus = omega arith; wires = omega arith; cycles = omega arith; start = omega arith }

module _ (p : BusPlan) (w : Whole p) (e : good_plan p ≡ true) where
  bus-fits : (i : ℕ) → i < p.bus_count → FitBus (get_or p.buses i no_bus)
  bus-fits i h =
      let g = good-figures p e in
      let n : length (buses_of p) ≡ p.bus_count = length-take-le p.bus_count p.buses (omega (arith, w.buses)) in
      record { width = omega (arith, g.width i h); busy = omega (arith, rw get_or-take at (good-busy p w e i (omega arith))) }

  placed-fits : (i : ℕ) → i < p.module_count → FitPlaced (get_or p.modules i no_placed)
  placed-fits i h =
      let g = good-figures p e in
      record {
        number = omega (arith, g.number i h);
        bus = omega (arith, g.bus i h);
        wires = omega (arith, g.wires i h);
        cycles = omega (arith, g.cycles i h);
        start = omega (arith, good-end p w e i h, good-time p w e);
      }

  pub good-plan-fits : FitPlan p
  unfolding spare_rest
  good-plan-fits =
      let g = good-figures p e in
      let s = and_both (all_of spare_bus (drop p.bus_count p.buses)) _ (good_parts p e).spare in
      record {
        wires = omega arith;
        limit = omega arith;
        bus_count = omega arith;
        module_count = omega arith;
        time = omega (arith, good-time p w e);
        buses = front-each spare_bus FitBus spare-bus no_bus p.bus_count p.buses (λ i h l. bus-fits i h) s.0;
        modules = front-each spare_placed FitPlaced spare-placed no_placed p.module_count p.modules (λ i h l. placed-fits i h) s.1;
      }
