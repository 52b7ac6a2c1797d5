-- Laws of a good plan record: how its loops walk the modules and the buses, and what its figures keep (`GoodFigures`). Assumes nothing.
use Prim.Native.Nat.{ℕ, zero, suc, ◌+◌, ◌-◌, ◌*◌, ◌≤◌, ◌<◌}
use mathlib.Core.Path.{◌≡◌, ap, ◌∙◌}
use mathlib.Core.Bool.{Bool, true, false, cond, ◌&&◌}
use mathlib.Core.List.{List, [], ◌∷◌}
use native.Mathlib.Omega.{arith}
use native.Mathlib.Numerals.{add-one}
use borrow.Author.Tests.{leb-true, eqb-true}
use lib.ListN.{length, get_or, take, drop}
use lib.Seq.{drop-cons, get_or-take, length-take-le}
use lib.Dec.{leb, eqb}
use Rattle.units.proofs.TestLaws.{and_both, and_third}
use Rattle.units.specs.Places.{all_of}
use Rattle.units.proofs.PlaceLaws.{front-has}
use Rattle.plan_record.specs.Record.{bus_places, no_bus, no_placed, buses_of, modules_of, widths_of, cycles_on, busies_of, numbers_of, module_places}
use Rattle.plan_record.specs.Whole.{Whole}
use Rattle.wrapper_fit.specs.Maxima.{module_time_max}
use Rattle.plan_record.specs.declared.record.Bus.{Bus}
use Rattle.plan_record.specs.declared.record.PlacedModule.{PlacedModule}
use Rattle.plan_record.specs.declared.record.BusPlan.{BusPlan}
use Rattle.plan_rules.specs.Plans.{sum, largest}
use Rattle.plan_record.specs.Good.{within, good_counts, ascending_from, good_placed, rising_from, good_buses, good_busies, good_times, good_starts, spare_rest, good_plan}

-- the first n places of an array, from i on
module _ {A : Type 0} (n : ℕ) (l : List A) (i : ℕ) where
  pub front-cons : (d : A) → i < n → i < length l → drop i (take n l) ≡ get_or l i d ∷ drop (i + 1) (take n l)
  front-cons d h k = drop-cons (take n l) i d (front-has n l i h k) ∙ rw (get_or-take n l i d h, add-one)

-- what a turn of a loop over the modules in use leaves to decide
module _ (n : ℕ) (l : List PlacedModule) (i : ℕ) (h : i < n) (k : i < length l) where
  pub ascending_step : (low : ℕ) →
      let x = (get_or l i no_placed).number in
      ascending_from low (numbers_of (drop i (take n l))) ≡ (leb low x && (leb x 39 && ascending_from (x + 1) (numbers_of (drop (i + 1) (take n l)))))
  unfolding ascending_from
  ascending_step low = rw (front-cons n l i no_placed h k, add-one (get_or l i no_placed).number)

-- the same of the buses in use
module _ (n : ℕ) (l : List Bus) (i : ℕ) (h : i < n) (k : i < length l) where
  pub rising_step : (low : ℕ) →
      let w = (get_or l i no_bus).width.0 in
      rising_from low (widths_of (drop i (take n l))) ≡ (leb low w && rising_from w (widths_of (drop (i + 1) (take n l))))
  unfolding rising_from
  rising_step low = rw (front-cons n l i no_bus h k)

-- a number that lies within its limits
within_both : (low high n : ℕ) → (leb low n && leb n high) ≡ true → (low ≤ n) × (n ≤ high)
within_both low high n e =
    let h = and_both (leb low n) (leb n high) e in
    (leb-true low n h.0, leb-true n high h.1)

ascending_at : (low : ℕ) (l : List PlacedModule) → ascending_from low (numbers_of l) ≡ true → (i : ℕ) → (get_or l i no_placed).number ≤ 39
unfolding ascending_from
ascending_at low [] e i = omega arith
ascending_at low (m ∷ ms) e i =
    let a = and_both (leb low m.number) (leb m.number 39 && ascending_from (suc m.number) (numbers_of ms)) e in
    let b = and_both (leb m.number 39) (ascending_from (suc m.number) (numbers_of ms)) a.1 in
    at i (leb-true m.number 39 b.0) (ascending_at (suc m.number) ms b.1)
  where
    at : (i : ℕ) → m.number ≤ 39 → ((j : ℕ) → (get_or ms j no_placed).number ≤ 39) → (get_or (m ∷ ms) i no_placed).number ≤ 39
    at zero h k = h
    at (suc j) h k = k j

-- a module within the limits of its place: no module keeps them too
pub record PlacedWithin (p : BusPlan) (m : PlacedModule) : Type 0 where
  pub bus : m.bus ≤ p.bus_count
  pub cycles : m.cycles.0 ≤ module_time_max
  pub wires : m.wires.0 ≤ (get_or p.buses (m.bus - 1) no_bus).width.0

placed-within : (p : BusPlan) (m : PlacedModule) → good_placed p m ≡ true → PlacedWithin p m
unfolding good_placed
placed-within p m e =
    let a = and_both _ _ e in
    let b = and_both _ _ a.1 in
    record {
      bus = (within_both 1 p.bus_count m.bus a.0).1;
      cycles = (within_both 1 module_time_max m.cycles.0 b.0).1;
      wires = (within_both 1 (get_or p.buses (m.bus - 1) no_bus).width.0 m.wires.0 b.1).1;
    }

placed-none : (p : BusPlan) → PlacedWithin p no_placed
placed-none p = record { bus = omega arith; cycles = omega arith; wires = omega arith }

placed-at : (p : BusPlan) (l : List PlacedModule) → all_of (good_placed p) l ≡ true → (i : ℕ) → PlacedWithin p (get_or l i no_placed)
unfolding all_of
placed-at p [] e i = placed-none p
placed-at p (m ∷ ms) e zero = placed-within p m (and_both (good_placed p m) (all_of (good_placed p) ms) e).0
placed-at p (m ∷ ms) e (suc i) = placed-at p ms (and_both (good_placed p m) (all_of (good_placed p) ms) e).1 i

-- of the modules in use
pub placed-front : (p : BusPlan) → all_of (good_placed p) (modules_of p) ≡ true → (i : ℕ) → i < p.module_count → PlacedWithin p (get_or p.modules i no_placed)
placed-front p e i h = rw get_or-take at (placed-at p (modules_of p) e i)

width-at : (l : List Bus) (i : ℕ) → (get_or l i no_bus).width.0 ≤ sum (widths_of l)
unfolding sum
width-at [] i = omega arith
width-at (b ∷ bs) zero = omega arith
width-at (b ∷ bs) (suc i) = omega (arith, width-at bs i)

-- the figures of a good plan are small
pub record GoodFigures (p : BusPlan) : Type 0 where
  pub wires_low : 1 ≤ p.wires.0
  pub wires_high : p.wires.0 ≤ 64
  pub limit_low : 1 ≤ p.limit
  pub limit_high : p.limit ≤ bus_places
  pub buses_low : 1 ≤ p.bus_count
  pub buses_high : p.bus_count ≤ bus_places
  pub modules_low : 1 ≤ p.module_count
  pub modules_high : p.module_count ≤ module_places
  pub number : (i : ℕ) → i < p.module_count → (get_or p.modules i no_placed).number ≤ 39
  pub bus : (i : ℕ) → i < p.module_count → (get_or p.modules i no_placed).bus ≤ bus_places
  pub wires : (i : ℕ) → i < p.module_count → (get_or p.modules i no_placed).wires.0 ≤ 64
  pub cycles : (i : ℕ) → i < p.module_count → (get_or p.modules i no_placed).cycles.0 ≤ module_time_max
  pub width : (b : ℕ) → b < p.bus_count → (get_or p.buses b no_bus).width.0 ≤ 64

-- and those that the counts alone tell
pub record GoodCounts (p : BusPlan) : Type 0 where
  pub wires_low : 1 ≤ p.wires.0
  pub wires_high : p.wires.0 ≤ 64
  pub limit_low : 1 ≤ p.limit
  pub limit_high : p.limit ≤ bus_places
  pub modules_low : 1 ≤ p.module_count
  pub modules_high : p.module_count ≤ module_places

pub good-counts : (p : BusPlan) → good_counts p ≡ true → GoodCounts p
unfolding good_counts
good-counts p e =
    let a = and_both _ _ e in
    let b = and_both _ _ a.1 in
    let w = within_both 1 64 p.wires.0 a.0 in
    let l = within_both 1 bus_places p.limit b.0 in
    let n = within_both 1 module_places p.module_count b.1 in
    record {
      wires_low = w.0;
      wires_high = w.1;
      limit_low = l.0;
      limit_high = l.1;
      modules_low = n.0;
      modules_high = n.1;
    }

pub good-bus-count : (p : BusPlan) → good_buses p ≡ true → (1 ≤ p.bus_count) × (p.bus_count ≤ p.limit)
unfolding good_buses
good-bus-count p e = within_both 1 p.limit p.bus_count (and_both _ _ e).0

-- a bus is at most as wide as all together
good-width : (p : BusPlan) → good_buses p ≡ true → (b : ℕ) → b < p.bus_count → (get_or p.buses b no_bus).width.0 ≤ p.wires.0
unfolding good_buses
good-width p e b h =
    let a = and_both (within 1 p.limit p.bus_count) (rising_from 1 (widths_of (buses_of p)) && eqb (sum (widths_of (buses_of p))) p.wires.0) e in
    let s = and_both (rising_from 1 (widths_of (buses_of p))) (eqb (sum (widths_of (buses_of p))) p.wires.0) a.1 in
    let w : (get_or p.buses b no_bus).width.0 ≤ sum (widths_of (buses_of p)) = rw get_or-take at (width-at (buses_of p) b) in
    omega (arith, eqb-true (sum (widths_of (buses_of p))) p.wires.0 s.1)

-- the buses may be looked at before the modules
pub plan-order : (p : BusPlan) →
    let ms = modules_of p in
    good_plan p
    ≡ (good_counts p
    && (good_buses p && (ascending_from 1 (numbers_of ms) && (all_of (good_placed p) ms && (good_times p && (good_starts ms && spare_rest p))))))
unfolding good_plan
plan-order p =
    let ms = modules_of p in
    ap (λ (r : Bool). good_counts p && r)
    (and_third (ascending_from 1 (numbers_of ms)) (all_of (good_placed p) ms) (good_buses p) (good_times p && (good_starts ms && spare_rest p)))

-- the parts of a good plan
pub record GoodParts (p : BusPlan) : Type 0 where
  pub counts : good_counts p ≡ true
  pub ascending : ascending_from 1 (numbers_of (modules_of p)) ≡ true
  pub placed : all_of (good_placed p) (modules_of p) ≡ true
  pub buses : good_buses p ≡ true
  pub times : good_times p ≡ true
  pub starts : good_starts (modules_of p) ≡ true
  pub spare : spare_rest p ≡ true

pub good_parts : (p : BusPlan) → good_plan p ≡ true → GoodParts p
unfolding good_plan
good_parts p e =
    let a = and_both _ _ e in
    let b = and_both _ _ a.1 in
    let d = and_both _ _ b.1 in
    let g = and_both _ _ d.1 in
    let h = and_both _ _ g.1 in
    let s = and_both _ _ h.1 in
    record { counts = a.0; ascending = b.0; placed = d.0; buses = g.0; times = h.0; starts = s.0; spare = s.1 }

pub good-figures : (p : BusPlan) → good_plan p ≡ true → GoodFigures p
good-figures p e =
    let g = good_parts p e in
    let n = good-counts p g.counts in
    let m = good-bus-count p g.buses in
    record {
      wires_low = n.wires_low;
      wires_high = n.wires_high;
      limit_low = n.limit_low;
      limit_high = n.limit_high;
      buses_low = m.0;
      buses_high = omega arith;
      modules_low = n.modules_low;
      modules_high = n.modules_high;
      number = λ i h. rw get_or-take at (ascending_at 1 (modules_of p) g.ascending i);
      bus = λ i h. let f = placed-front p g.placed i h in omega arith;
      wires = λ i h. let f = placed-front p g.placed i h in omega (arith, good-width p g.buses ((get_or p.modules i no_placed).bus - 1) (omega arith));
      cycles = λ i h. (placed-front p g.placed i h).cycles;
      width = λ b h. omega (arith, good-width p g.buses b h);
    }

-- sums of cycles are small
cond-most : (t : Bool) (n k : ℕ) → n ≤ k → cond t n 0 ≤ k
cond-most true n k h = h
cond-most false n k h = omega arith

cycles-most : (b : ℕ) (ms : List PlacedModule) → ((i : ℕ) → i < length ms → (get_or ms i no_placed).cycles.0 ≤ module_time_max) → cycles_on b ms ≤ module_time_max * length ms
unfolding cycles_on
cycles-most b [] g = omega arith
cycles-most b (m ∷ ms) g =
    omega (arith, cond-most (eqb m.bus b) m.cycles.0 module_time_max (g 0 (omega arith)), cycles-most b ms (λ i h. g (suc i) (omega arith)))

busy-most : (ms : List PlacedModule) (k : ℕ) → ((b : ℕ) → cycles_on b ms ≤ k) → (b : ℕ) (xs : List Bus) → good_busies ms b xs ≡ true → (i : ℕ) → i < length xs → (get_or xs i no_bus).busy.0 ≤ k
unfolding good_busies
busy-most ms k g b [] e i h = absurd (omega arith)
busy-most ms k g b (x ∷ xs) e zero h =
    let q : x.busy.0 ≡ cycles_on b ms = eqb-true x.busy.0 (cycles_on b ms) (and_both (eqb x.busy.0 (cycles_on b ms)) (good_busies ms (suc b) xs) e).0 in
    omega (arith, g b)
busy-most ms k g b (x ∷ xs) e (suc i) h =
    busy-most ms k g (suc b) xs (and_both (eqb x.busy.0 (cycles_on b ms)) (good_busies ms (suc b) xs) e).1 i (omega arith)

largest-most : (k : ℕ) (xs : List Bus) → ((i : ℕ) → i < length xs → (get_or xs i no_bus).busy.0 ≤ k) → largest (busies_of xs) ≤ k
unfolding largest
largest-most k [] g = omega arith
largest-most k (x ∷ xs) g =
    let a : x.busy.0 ≤ k = g 0 (omega arith) in
    let b : largest (busies_of xs) ≤ k = largest-most k xs (λ i h. g (suc i) (omega arith)) in
    omega arith

pub times_both : (p : BusPlan) → good_times p ≡ true
    → (good_busies (modules_of p) 1 (buses_of p) ≡ true) × (p.time.0 ≡ largest (busies_of (buses_of p)))
unfolding good_times
times_both p e =
    let a = and_both (good_busies (modules_of p) 1 (buses_of p)) (eqb p.time.0 (largest (busies_of (buses_of p)))) e in
    (a.0, eqb-true p.time.0 (largest (busies_of (buses_of p))) a.1)

-- busy figures and the time of a good plan
module _ (p : BusPlan) (w : Whole p) (e : good_plan p ≡ true) where
  pub good-busy : (i : ℕ) → i < length (buses_of p) → (get_or (buses_of p) i no_bus).busy.0 ≤ module_time_max * module_places
  good-busy =
      let g = good-figures p e in
      let m : length (modules_of p) ≡ p.module_count = length-take-le p.module_count p.modules (omega (arith, w.modules)) in
      let c : (i : ℕ) → i < length (modules_of p) → (get_or (modules_of p) i no_placed).cycles.0 ≤ module_time_max = λ i h. let k : i < p.module_count = omega arith in rw get_or-take (g.cycles i k) in
      busy-most (modules_of p) (module_time_max * module_places) (λ b. omega (arith, cycles-most b (modules_of p) c)) 1 (buses_of p) (times_both p (good_parts p e).times).0

  pub good-time : p.time.0 ≤ module_time_max * module_places
  good-time = omega (arith, (times_both p (good_parts p e).times).1, largest-most (module_time_max * module_places) (buses_of p) good-busy)
