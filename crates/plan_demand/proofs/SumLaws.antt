-- What a client adds up from layouts is what the planner used (document 02, item 8): the cycles of each module of a plan are the sum of the
-- cycles of the layouts that are answered for its tests with TamUse 1, at the width that the plan names as its wires. Assumes nothing.
use Prim.Native.Nat.{ℕ, zero, suc, ◌+◌, ◌-◌, ◌≤◌, ◌<◌}
use mathlib.Core.Path.{◌≡◌, sym, ◌∙◌}
use mathlib.Core.Bool.{true}
use mathlib.Core.List.{List, [], ◌∷◌}
use native.Mathlib.Omega.{arith}
use lib.ListN.{length, get_or}
use Rattle.std.specs.Prelude.{Ok}
use Rattle.units.proofs.PlaceLaws.{padded-at}
use Rattle.soc.specs.Rules.{good_soc}
use Rattle.soc.specs.Planned.{planned_of}
use Rattle.soc.specs.declared.record.Soc.{Soc}
use Rattle.wrapper_fit.specs.Maxima.{width_max, capture_max}
use Rattle.wrapper_times.proofs.BestLaws.{time-at}
use Rattle.wrapper_layout.specs.Laid.{layouts_cycles}
use Rattle.wrapper.proofs.SumLaws.{layouts_figure}
use Rattle.plan_rules.proofs.BoundLaws.{width_in}
use Rattle.plan_record.specs.Record.{module_places, no_placed, module_records, plan_record}
use Rattle.plan_record.specs.Starts.{module_of}
use Rattle.plan_record.specs.declared.record.BusPlan.{BusPlan}
use Rattle.plan_record.specs.declared.record.PlacedModule.{PlacedModule}
use Rattle.plan.specs.PlanAnswers.{planned_module, time_in, wires_in, best_for, plan_answer}
use Rattle.plan.proofs.TableLaws.{planned-number}
use Rattle.plan.proofs.PlannerLaws.{wires-within, answered, best_for-first}

-- a module's cycles are the sum of those of its layouts at its wires
abbrev Sums : ℕ → Soc → PlacedModule → Type 0
Sums c s x = x.cycles.0 ≡ layouts_cycles s x.number x.wires.0 c

module _ (c : ℕ) (first : 1 ≤ c) (last : c ≤ capture_max) (s : Soc) (good : good_soc s ≡ true) where
  -- the time of a planned module on a bus of width w, and its wires there
  time-sum : (i w : ℕ) → i < length (planned_of s) → 1 ≤ w → w ≤ width_max
      → time_in c s i w ≡ layouts_cycles s (get_or (planned_of s) i 0) (wires_in c s i w) c
  unfolding time_in wires_in
  time-sum i w h k l =
      let u = wires-within c s i w k in
      let high : wires_in c s i w ≤ width_max = omega (arith, u.1) in
      sym (layouts_figure s (get_or (planned_of s) i 0) (wires_in c s i w) c good u.0 high first last (planned-number s i h).0
      ∙ time-at c (planned_module s i) w k)

  records_sum : (ws all : List ℕ) (i : ℕ) (bs : List ℕ) → i + length bs ≡ length (planned_of s)
      → ((j : ℕ) → j < length bs → (1 ≤ get_or ws (get_or bs j 0 - 1) 0) × (get_or ws (get_or bs j 0 - 1) 0 ≤ width_max)) → (j : ℕ) → j < length bs
      → Sums c s (get_or (module_records (planned_of s) (time_in c s) (wires_in c s) ws all i bs) j no_placed)
  unfolding module_records
  records_sum ws all i [] e h j k = absurd (omega arith)
  records_sum ws all i (b ∷ bs) e h zero k =
      let w = h 0 (omega arith) in
      time-sum i (get_or ws (b - 1) 0) (omega arith) w.0 w.1
  records_sum ws all i (b ∷ bs) e h (suc j) k = records_sum ws all (suc i) bs (omega arith) (λ l m. h (suc l) (omega arith)) j (omega arith)

-- "at the width that the plan names as the module's wires"
pub answer_layouts : (s : Soc) (W B c : ℕ) {r : BusPlan} → plan_answer s W B c ≡ Ok r → (i : ℕ) → i < r.module_count →
    let x = module_of r i in
    x.cycles.0 ≡ layouts_cycles s x.number x.wires.0 c
unfolding plan_record
answer_layouts s W B c h i k =
    let a = answered s W B c h in
    let p = best_for c s W B in
    let r = (best_for-first c s W B a.low a.limit).is_plan in
    let n : i < length p.buses = omega (arith, r.placed, rw a.is at k) in
    let wide : (j : ℕ) → j < length p.buses
    → (1 ≤ get_or p.widths (get_or p.buses j 0 - 1) 0) × (get_or p.widths (get_or p.buses j 0 - 1) 0 ≤ width_max) =
    λ j l. let m : j < length (planned_of s) = omega (arith, r.placed) in
    let b = width_in r (get_or p.buses j 0 - 1) (omega (arith, r.low j m, r.high j m)) in
    (b.0, omega (arith, b.1, a.narrow))
    in
    rw a.is
    (rw (padded-at module_places no_placed (module_records (planned_of s) (time_in c s) (wires_in c s) p.widths p.buses 0 p.buses) i)
    (records_sum c a.first a.last s a.good p.widths p.buses 0 p.buses (omega (arith, r.placed)) wide i n))
