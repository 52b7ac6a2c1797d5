-- Laws of the planner's entry: the busy figures, the buses and the placed modules as loops fill them, and that what is made of the plan that the search
-- finds over the tables is that plan's record. Assumes nothing.
use Prim.Native.Nat.{ℕ, suc, ◌+◌, ◌-◌, ◌≤◌, ◌<◌}
use mathlib.Core.Path.{◌≡◌, refl, ap, ◌∙◌}
use mathlib.Core.List.{List, [], ◌∷◌, ◌++◌}
use native.Mathlib.Omega.{arith}
use native.Mathlib.Numerals.{add-one}
use lib.ListN.{length, get_or, take, set, replicate, length-take}
use lib.Seq.{take-suc, take-append-le, length-take-le}
use Rattle.soc.specs.Limits.{modules_max}
use Rattle.units.specs.Places.{padded}
use Rattle.units.specs.declared.Cycles.{Cycles}
use Rattle.soc.specs.Planned.{planned_of, planned_is}
use Rattle.soc.specs.declared.planned.Planned.{Planned}
use Rattle.soc.specs.declared.record.Soc.{Soc}
use Rattle.units.proofs.PlaceLaws.{padded-take, padded-set, padded-at}
use Rattle.wrapper_fit.specs.Maxima.{width_max}
use Rattle.wrapper_fit.specs.Counts.{wires, cycles}
use Rattle.plan_rules.specs.Plans.{Plan, IsPlan, busy_from, busies, time_of}
use Rattle.plan_rules.specs.Listed.{best_plan}
use Rattle.plan_rules.proofs.Demand.{best-first}
use Rattle.plan_rules.proofs.BoundLaws.{width_in}
use Rattle.plan_record.specs.Record.{bus_places, module_places, no_bus, no_placed, bus_records, module_records, plan_record}
use Rattle.plan_record.proofs.RecordLaws.{length_records}
use Rattle.plan_search.specs.Search.{found_buses, found_modules, table_time, AreTimes, found_of}
use Rattle.plan.specs.PlanAnswers.{time_in, wires_in, best_for, record_of}
use Rattle.plan.specs.Records.{IsFound, buses_is, placed_at, placed_from, modules_is, record_from}
use Rattle.plan.specs.Tables.{TablesAre}
use Rattle.plan_record.specs.declared.record.Bus.{Bus}
use Rattle.plan_record.specs.declared.record.PlacedModule.{PlacedModule}
use Rattle.plan.specs.declared.tables.Tables.{Tables}
use Rattle.plan_search.specs.declared.widths.Found.{Found}
use Rattle.plan_rules.proofs.BusyLaws.{length-busies}
use Rattle.plan.proofs.TableLaws.{busy-same, busies-same, time-same, best-same}

-- cycles are what their number says
pub cycles_of_lem : {r : Cycles} {n : ℕ} → r.0 ≡ n → r ≡ cycles n
cycles_of_lem e = ap cycles e

-- an array is filled at the place behind those in use
fill_step : {A : Type 0} (n : ℕ) (z v : A) (list xs : List A) (i : ℕ) → list ≡ padded n z xs → length xs ≡ i → i < n → set list i v ≡ padded n z (xs ++ v ∷ [])
fill_step n z v list xs i e l h = rw (e, ← l) (padded-set n z v xs (omega arith))

records_end : (ws bs : List ℕ) (w b : ℕ) → length bs ≡ length ws → bus_records (ws ++ w ∷ []) (bs ++ b ∷ []) ≡ bus_records ws bs ++ record { width = wires w; busy = cycles b } ∷ []
unfolding bus_records
records_end [] [] w b e = refl
records_end [] (y ∷ bs) w b e = absurd (omega arith)
records_end (x ∷ ws) [] w b e = absurd (omega arith)
records_end (x ∷ ws) (y ∷ bs) w b e = rw (records_end ws bs w b (omega arith))

module _ (time : ℕ → ℕ → ℕ) where
  -- one bus more
  busies-end : (bs : List ℕ) (k w : ℕ) (ws : List ℕ) → busies time bs k (ws ++ w ∷ []) ≡ busies time bs k ws ++ busy_from time 0 (k + length ws) w bs ∷ []
  unfolding busies
  busies-end bs k w [] = let e : k + 0 ≡ k = omega arith in rw e
  busies-end bs k w (v ∷ ws) = let e : k + suc (length ws) ≡ suc k + length ws = omega arith in rw (e, busies-end bs (suc k) w ws)

  -- the records of the first b buses
  unfoldable pub bus_front : List ℕ → List ℕ → ℕ → List Bus
  bus_front bs ws b = bus_records (take b ws) (busies time bs 1 (take b ws))

  front_length : (bs ws : List ℕ) (b : ℕ) → b ≤ length ws → length (bus_front bs ws b) ≡ b
  unfolding bus_front
  front_length bs ws b h = length_records (take b ws) (busies time bs 1 (take b ws)) (length-busies time 1 (take b ws) bs) ∙ length-take-le b ws h

  pub front-none : (bs ws : List ℕ) → bus_front bs ws 0 ≡ []
  unfolding bus_front bus_records
  front-none bs ws = refl

  front_step : (bs ws : List ℕ) (b : ℕ) → b < length ws
      → bus_front bs ws (b + 1) ≡ bus_front bs ws b ++ record { width = wires (get_or ws b 0); busy = cycles (busy_from time 0 (b + 1) (get_or ws b 0) bs) } ∷ []
  unfolding bus_front
  front_step bs ws b h =
      let k : 1 + length (take b ws) ≡ b + 1 = omega (arith, length-take-le b ws (omega arith)) in
      let e : take (b + 1) ws ≡ take b ws ++ get_or ws b 0 ∷ [] = rw add-one (take-suc ws b 0 h) in
      rw (e, busies-end bs 1 (get_or ws b 0) (take b ws), k)
      (records_end (take b ws) (busies time bs 1 (take b ws)) (get_or ws b 0) (busy_from time 0 (b + 1) (get_or ws b 0) bs) (length-busies time 1 (take b ws) bs))

  pub front_fill : (bs ws : List ℕ) (b : ℕ) (list : List Bus) → b < length ws → b < bus_places → list ≡ padded bus_places no_bus (bus_front bs ws b)
      → set list b (record { width = wires (get_or ws b 0); busy = cycles (busy_from time 0 (b + 1) (get_or ws b 0) bs) }) ≡ padded bus_places no_bus (bus_front bs ws (b + 1))
  front_fill bs ws b list h k e = rw (front_step bs ws b h) (fill_step bus_places no_bus _ list (bus_front bs ws b) b e (front_length bs ws b (omega arith)) k)

  pub front-all : (f : Found) (n : ℕ) → padded bus_places no_bus (bus_front (take n f.buses) f.widths f.count) ≡ buses_is time f n
  unfolding bus_front buses_is
  front-all f n = refl

module _ (p : Planned) (t : Tables) (f : Found) where
  placed_end : (i : ℕ) (bs : List ℕ) (b : ℕ) → placed_from p t f i (bs ++ b ∷ []) ≡ placed_from p t f i bs ++ placed_at p t f (i + length bs) b ∷ []
  unfolding placed_from
  placed_end i [] b = let e : i + 0 ≡ i = omega arith in rw e
  placed_end i (x ∷ bs) b = let e : i + suc (length bs) ≡ suc i + length bs = omega arith in rw (e, placed_end (suc i) bs b)

  length-placed : (i : ℕ) (bs : List ℕ) → length (placed_from p t f i bs) ≡ length bs
  unfolding placed_from
  length-placed i [] = refl
  length-placed i (x ∷ bs) = ap suc (length-placed (suc i) bs)

  placed-length : (i : ℕ) → i ≤ length f.buses → length (placed_from p t f 0 (take i f.buses)) ≡ i
  placed-length i h = length-placed 0 (take i f.buses) ∙ length-take-le i f.buses h

  pub placed-none : placed_from p t f 0 (take 0 f.buses) ≡ []
  unfolding placed_from
  placed-none = refl

  placed_step : (i : ℕ) → i < length f.buses
      → placed_from p t f 0 (take (i + 1) f.buses) ≡ placed_from p t f 0 (take i f.buses) ++ placed_at p t f i (get_or f.buses i 0) ∷ []
  placed_step i h =
      let k : 0 + length (take i f.buses) ≡ i = omega (arith, length-take-le i f.buses (omega arith)) in
      let e : take (i + 1) f.buses ≡ take i f.buses ++ get_or f.buses i 0 ∷ [] = rw add-one (take-suc f.buses i 0 h) in
      rw (e, placed_end 0 (take i f.buses) (get_or f.buses i 0), k)

  pub placed_fill : (i : ℕ) (list : List PlacedModule) → i < length f.buses → i < module_places → list ≡ padded module_places no_placed (placed_from p t f 0 (take i f.buses))
      → set list i (placed_at p t f i (get_or f.buses i 0)) ≡ padded module_places no_placed (placed_from p t f 0 (take (i + 1) f.buses))
  placed_fill i list h k e = rw (placed_step i h) (fill_step module_places no_placed _ list (placed_from p t f 0 (take i f.buses)) i e (placed-length i (omega arith)) k)

  pub placed-all : padded module_places no_placed (placed_from p t f 0 (take p.count f.buses)) ≡ modules_is p t f
  unfolding modules_is
  placed-all = refl

module _ {W B n : ℕ} {p : Plan} (r : IsPlan W B n p) where
  -- what was found keeps the limits of a plan
  found-is : (time : ℕ → ℕ → ℕ) → W ≤ width_max → B ≤ bus_places → IsFound (found_of time p) n
  found-is time h k = record {
    few = omega (arith, r.limit);
    wide = λ b l. rw (padded-at found_buses 0 p.widths b) ((width_in r b l).0, omega (arith, (width_in r b l).1));
    placed = λ i l. rw (padded-at found_modules 0 p.buses i) (r.low i l, r.high i l);
  }

  module _ {c : ℕ} {s : Soc} {t : Tables} (a : TablesAre c s W n t) where
    buses-are : buses_is (table_time t.cycles) (found_of (table_time t.cycles) p) n
        ≡ padded bus_places no_bus (bus_records p.widths (busies (time_in c s) p.buses 1 p.widths))
    unfolding buses_is
    buses-are =
        let e : take n (padded found_modules 0 p.buses) ≡ p.buses = rw (← r.placed) (padded-take found_modules 0 p.buses) in
        rw (padded-take found_buses 0 p.widths, e, busies-same a.cycles_are r)

    -- the times of the modules before module i on a bus, over the tables
    starts-are : (time : ℕ → ℕ → ℕ) (i b : ℕ) → i < n →
        let w = get_or p.widths (b - 1) 0 in
        1 ≤ w → w ≤ W
        → busy_from (table_time t.cycles) 0 b w (take i (found_of time p).buses) ≡ busy_from (time_in c s) 0 b w (take i p.buses)
    unfolding padded
    starts-are time i b h k l =
        let spare : List ℕ = replicate (found_modules - length p.buses) 0 in
        let e : take i (p.buses ++ spare) ≡ take i p.buses = take-append-le i p.buses spare (omega (arith, r.placed)) in
        rw e (busy-same a.cycles_are 0 b (get_or p.widths (b - 1) 0) (take i p.buses) (omega (arith, length-take i p.buses)) k l)

    modules-from : (time : ℕ → ℕ → ℕ) (i : ℕ) (bs : List ℕ) → i + length bs ≤ n
        → ((j : ℕ) → j < length bs → (1 ≤ get_or bs j 0) × (get_or bs j 0 ≤ length p.widths))
        → placed_from (planned_is (planned_of s)) t (found_of time p) i bs
        ≡ module_records (planned_of s) (time_in c s) (wires_in c s) p.widths p.buses i bs
    unfolding placed_from module_records
    modules-from time i [] h q = refl
    modules-from time i (b ∷ bs) h q =
        let m = q 0 (omega arith) in
        let l : b - 1 < length p.widths = omega arith in
        let v = width_in r (b - 1) l in
        let k : i < n = omega arith in
        rw (
          padded-at modules_max 0 (planned_of s) i,
          padded-at found_buses 0 p.widths (b - 1),
          a.cycles_are i (get_or p.widths (b - 1) 0) k v.0 v.1,
          a.wires_are i (get_or p.widths (b - 1) 0) k v.0 v.1,
          starts-are time i b k v.0 v.1,
          modules-from time (suc i) bs (omega arith) (λ j g. q (suc j) (omega arith)),
        )

    modules_are : (time : ℕ → ℕ → ℕ) → n ≡ length (planned_of s)
        → modules_is (planned_is (planned_of s)) t (found_of time p)
        ≡ padded module_places no_placed (module_records (planned_of s) (time_in c s) (wires_in c s) p.widths p.buses 0 p.buses)
    unfolding modules_is
    modules_are time count =
        let e : take (length (planned_of s)) (padded found_modules 0 p.buses) ≡ p.buses = rw (← count, ← r.placed) (padded-take found_modules 0 p.buses) in
        rw (e, modules-from time 0 p.buses (omega (arith, r.placed)) (λ j g. (r.low j (omega (arith, r.placed)), r.high j (omega (arith, r.placed)))))

-- a table of the times of n modules is one of fewer
pub times-fewer : {t : List ℕ} {n i : ℕ} → AreTimes t n → i ≤ n → AreTimes t i
times-fewer a h = record { few = omega (arith, a.few); long = omega (arith, a.long); times = a.times }

-- a plan that a search found over the tables of the planned modules: it keeps the limits of a record, and its record is the plan's
module _ {c : ℕ} {s : Soc} {W B : ℕ} {t : Tables} {p : Planned} {q : Plan} {f : Found}
    (a : TablesAre c s W (length (planned_of s)) t) (numbers : p ≡ planned_is (planned_of s)) (is : IsPlan W B (length (planned_of s)) q)
    (found : f ≡ found_of (table_time t.cycles) q) (narrow : W ≤ width_max) (few : B ≤ bus_places) where
  count-is : p.count ≡ length (planned_of s)
  count-is = ap (λ x. x.count) numbers

  pub found-fits : IsFound f p.count
  found-fits = rw (found, count-is) (found-is is (table_time t.cycles) narrow few)

  pub record_is : record_from p t W B f ≡ record_of c s W B q
  unfolding plan_record
  record_is =
      let ms = modules_are is a (table_time t.cycles) refl in
      rw (found, numbers, buses-are is a, ms, time-same a.cycles_are is)

-- the plan that the first planner's search finds
module _ {c : ℕ} {s : Soc} {W B : ℕ} {t : Tables} {p : Planned} {f : Found}
    (a : TablesAre c s W (length (planned_of s)) t) (numbers : p ≡ planned_is (planned_of s))
    (found : f ≡ found_of (table_time t.cycles) (best_plan (table_time t.cycles) W B p.count))
    (some : 1 ≤ W) (limit : 1 ≤ B) where
  pub best-plan : IsPlan W B (length (planned_of s)) (best_for c s W B)
  unfolding best_for
  best-plan = (best-first (time_of (time_in c s)) W B (length (planned_of s)) some limit).is_plan

  pub found-best : f ≡ found_of (table_time t.cycles) (best_for c s W B)
  unfolding best_for
  found-best = found ∙ rw (ap (λ x. x.count) numbers, best-same a.cycles_are B)
