-- Laws of the record of a plan: it has the plan's widths, buses and numbers; its busy figures are the cycles of the modules that name a bus
-- and its time the largest of them (document 01, "The plan"); its starts are those of document 02, item 1; and it is good where its numbers
-- ascend and its times and wires keep their limits. Assumes nothing.
use Prim.Native.Nat.{ℕ, zero, suc, ◌+◌, ◌-◌, ◌≤◌, ◌<◌}
use mathlib.Core.Path.{◌≡◌, refl, sym, ap, ◌∙◌}
use mathlib.Core.Bool.{Bool, true, false, cond}
use mathlib.Core.List.{List, [], ◌∷◌}
use native.Mathlib.Omega.{arith}
use borrow.Author.Tests.{le-leb, eq-eqb, eqb-true}
use lib.ListN.{length, get_or, take, drop, replicate, length-take, drop_of_length-le}
use lib.Seq.{get_or-take, drop-cons}
use lib.Dec.{eqb}
use Rattle.units.proofs.TestLaws.{and_holds, within_true}
use Rattle.units.specs.Places.{all_of, padded}
use Rattle.units.proofs.PlaceLaws.{all_replicate, padded-length, padded-take, padded-drop}
use Rattle.wrapper_fit.specs.Maxima.{width_max, module_time_max}
use Rattle.plan_rules.specs.Plans.{Plan, IsPlan, sum, busy_from, busies, largest, time_of}
use Rattle.plan_rules.proofs.BusyLaws.{length-busies, busies-at}
use Rattle.plan_record.specs.Record.{bus_places, module_places, no_bus, no_placed, buses_of, modules_of, widths_of, busies_of, numbers_of, places_of, plan_of, cycles_on, start_of, bus_records, module_records, plan_record}
use Rattle.plan_record.specs.Good.{within, good_counts, ascending_from, good_placed, rising_from, good_buses, good_busies, good_times, start_is, good_starts, spare_bus, spare_placed, spare_rest, good_plan}
use Rattle.plan_record.proofs.StartLaws.{start-front}
use Rattle.plan_record.specs.declared.record.Bus.{Bus}
use Rattle.plan_record.specs.declared.record.PlacedModule.{PlacedModule}
use Rattle.plan_record.specs.declared.record.BusPlan.{BusPlan}

-- the records of buses, one for each width
pub length_records : (ws bs : List ℕ) → length bs ≡ length ws → length (bus_records ws bs) ≡ length ws
unfolding bus_records
length_records [] bs e = refl
length_records (x ∷ ws) [] e = absurd (omega arith)
length_records (x ∷ ws) (y ∷ bs) e = ap suc (length_records ws bs (omega arith))

widths-are : (ws bs : List ℕ) → length bs ≡ length ws → widths_of (bus_records ws bs) ≡ ws
unfolding bus_records
widths-are [] bs e = refl
widths-are (w ∷ ws) [] e = absurd (omega arith)
widths-are (w ∷ ws) (b ∷ bs) e = ap (λ l. w ∷ l) (widths-are ws bs (omega arith))

busies-are : (ws bs : List ℕ) → length bs ≡ length ws → busies_of (bus_records ws bs) ≡ bs
unfolding bus_records
busies-are [] [] e = refl
busies-are [] (b ∷ bs) e = absurd (omega arith)
busies-are (w ∷ ws) [] e = absurd (omega arith)
busies-are (w ∷ ws) (b ∷ bs) e = ap (λ l. b ∷ l) (busies-are ws bs (omega arith))

-- the records of modules, one for each bus number
module _ (numbers : List ℕ) (time used : ℕ → ℕ → ℕ) (ws all : List ℕ) where
  length-modules : (i : ℕ) (bs : List ℕ) → length (module_records numbers time used ws all i bs) ≡ length bs
  unfolding module_records
  length-modules i [] = refl
  length-modules i (b ∷ bs) = ap suc (length-modules (suc i) bs)

  places-are : (i : ℕ) (bs : List ℕ) → places_of (module_records numbers time used ws all i bs) ≡ bs
  unfolding module_records
  places-are i [] = refl
  places-are i (b ∷ bs) = ap (λ l. b ∷ l) (places-are (suc i) bs)

  numbers-are : (i : ℕ) (bs : List ℕ) → i + length bs ≡ length numbers
      → numbers_of (module_records numbers time used ws all i bs) ≡ drop i numbers
  unfolding module_records
  numbers-are i [] e = sym (drop_of_length-le numbers {i = i} (omega arith))
  numbers-are i (b ∷ bs) e = rw (drop-cons numbers i 0 (omega arith), numbers-are (suc i) bs (omega arith))

  cycles-one : (i b k : ℕ) (t : Bool) → eqb b (suc k) ≡ t → cond t (time i (get_or ws (b - 1) 0)) 0 ≡ cond t (time i (get_or ws k 0)) 0
  cycles-one i b k true e = let p : b - 1 ≡ k = omega (arith, eqb-true b (suc k) e) in rw p
  cycles-one i b k false e = refl

  cycles-busy : (i k : ℕ) (bs : List ℕ)
      → cycles_on (suc k) (module_records numbers time used ws all i bs) ≡ busy_from time i (suc k) (get_or ws k 0) bs
  unfolding cycles_on module_records busy_from
  cycles-busy i k [] = refl
  cycles-busy i k (b ∷ bs) = rw (cycles-one i b k (eqb b (suc k)) refl, cycles-busy (suc i) k bs)

  -- the first k of them, and the bus and the start of module i
  take_records : (k i : ℕ) (bs : List ℕ)
      → take k (module_records numbers time used ws all i bs) ≡ module_records numbers time used ws all i (take k bs)
  unfolding module_records
  take_records zero i bs = refl
  take_records (suc k) i [] = refl
  take_records (suc k) i (b ∷ bs) = rw (take_records k (suc i) bs)

  record_at : (i j : ℕ) (bs : List ℕ) → j < length bs →
      let m = get_or (module_records numbers time used ws all i bs) j no_placed in
      let b = get_or bs j 0 in
      (m.bus ≡ b) × (m.start.0 ≡ busy_from time 0 b (get_or ws (b - 1) 0) (take (i + j) all))
  unfolding module_records
  record_at i j [] h = absurd (omega arith)
  record_at i zero (b ∷ bs) h = let e : i + 0 ≡ i = omega arith in (refl, rw e)
  record_at i (suc j) (b ∷ bs) h = let e : i + suc j ≡ suc i + j = omega arith in rw e (record_at (suc i) j bs (omega arith))

-- every element is what p asks for
all-each : {A : Type 0} (p : A → Bool) (z : A) (xs : List A) → ((i : ℕ) → i < length xs → p (get_or xs i z) ≡ true) → all_of p xs ≡ true
unfolding all_of
all-each p z [] h = refl
all-each p z (x ∷ xs) h = and_holds (h 0 (omega arith)) (all-each p z xs (λ i k. h (suc i) (omega arith)))

-- widths that are plan widths rise
rising-widths : (low : ℕ) (ws : List ℕ) → ((i : ℕ) → i < length ws → low ≤ get_or ws i 0) → ((i : ℕ) → suc i < length ws → get_or ws i 0 ≤ get_or ws (suc i) 0) → rising_from low ws ≡ true
unfolding rising_from
rising-widths low [] h r = refl
rising-widths low (w ∷ ws) h r = and_holds (le-leb low w (h 0 (omega arith))) (rising-widths w ws (from ws r) (λ i k. r (suc i) (omega arith)))
  where
    from : (ws : List ℕ) → ((i : ℕ) → suc i < suc (length ws) → get_or (w ∷ ws) i 0 ≤ get_or ws i 0) → (i : ℕ) → i < length ws → w ≤ get_or ws i 0
    from ws r zero k = r 0 (omega arith)
    from ws r (suc i) k = omega (arith, r (suc i) (omega arith), from ws r i (omega arith))

width-at : (bs : List Bus) (j : ℕ) → get_or (widths_of bs) j 0 ≡ (get_or bs j no_bus).width.0
width-at [] j = refl
width-at (b ∷ bs) zero = refl
width-at (b ∷ bs) (suc j) = width-at bs j

busy_sums : (ms : List PlacedModule) (b : ℕ) (bs : List Bus) → ((j : ℕ) → j < length bs → get_or (busies_of bs) j 0 ≡ cycles_on (b + j) ms) → good_busies ms b bs ≡ true
unfolding good_busies
busy_sums ms b [] h = refl
busy_sums ms b (x ∷ bs) h =
    let z : b + 0 ≡ b = omega arith in
    and_holds (eq-eqb x.busy.0 (cycles_on b ms) (rw z at (h 0 (omega arith))))
    (busy_sums ms (suc b) bs (λ j k. let e : b + suc j ≡ suc b + j = omega arith in rw e at (h (suc j) (omega arith))))

-- what a record asks of the numbers, times and wires that it is made of
pub record Recordable (numbers : List ℕ) (time used : ℕ → ℕ → ℕ) : Type 0 where
  pub some : 1 ≤ length numbers
  pub few : length numbers ≤ module_places
  pub ascending : ascending_from 1 numbers ≡ true
  pub times : (i w : ℕ) → i < length numbers → 1 ≤ w → (1 ≤ time i w) × (time i w ≤ module_time_max)
  pub wires : (i w : ℕ) → 1 ≤ w → (1 ≤ used i w) × (used i w ≤ w)

module _ (numbers : List ℕ) (time used : ℕ → ℕ → ℕ) (W B : ℕ) (p : Plan) where
  -- the plan's busy figures, its records of buses and of modules, and its record
  abbrev figures : List ℕ
  figures = busies time p.buses 1 p.widths

  abbrev placed : List PlacedModule
  placed = module_records numbers time used p.widths p.buses 0 p.buses

  abbrev r : BusPlan
  r = plan_record numbers time used W B p

  figures-length : length figures ≡ length p.widths
  figures-length = length-busies time 1 p.widths p.buses

  buses_length : length (bus_records p.widths figures) ≡ length p.widths
  buses_length = length_records p.widths figures figures-length

  buses-are : buses_of r ≡ bus_records p.widths figures
  unfolding plan_record
  buses-are = rw (← buses_length) (padded-take bus_places no_bus (bus_records p.widths figures))

  record_busies : busies_of (buses_of r) ≡ figures
  record_busies = rw buses-are (busies-are p.widths figures figures-length)

  -- the record has the plan's widths
  pub record_widths : widths_of (buses_of r) ≡ p.widths
  record_widths = rw buses-are (widths-are p.widths figures figures-length)

  -- "the plan's time is the largest busy figure"
  pub record_time : r.time.0 ≡ largest (busies_of (buses_of r))
  unfolding time_of plan_record
  record_time = sym (ap largest record_busies)

  module _ (is : IsPlan W B (length numbers) p) where
    placed-length : length placed ≡ length numbers
    placed-length = length-modules numbers time used p.widths p.buses 0 p.buses ∙ is.placed

    modules_are : modules_of r ≡ placed
    unfolding plan_record
    modules_are = rw (← placed-length) (padded-take module_places no_placed placed)

    -- it has the planned modules, ascending, each on its bus
    pub record_numbers : numbers_of (modules_of r) ≡ numbers
    record_numbers = rw modules_are (numbers-are numbers time used p.widths p.buses 0 p.buses (omega (arith, is.placed)))

    -- and it holds that plan
    pub record_plan : plan_of r ≡ p
    record_plan =
        let b : places_of (modules_of r) ≡ p.buses = rw modules_are (places-are numbers time used p.widths p.buses 0 p.buses) in
        rw (record_widths, b)

    -- "A bus is busy for the sum of its modules' times": bus j + 1 for the cycles of the modules that name it
    pub record_busy : (j : ℕ) → j < r.bus_count → get_or (busies_of (buses_of r)) j 0 ≡ cycles_on (suc j) (modules_of r)
    unfolding plan_record
    record_busy j h =
        let e : 1 + j ≡ suc j = omega arith in
        rw (record_busies, modules_are, cycles-busy numbers time used p.widths p.buses 0 j p.buses)
        (busies-at time p.buses 1 p.widths j h ∙ rw e)

    -- bus j + 1 has the plan's width
    record_width : (j : ℕ) → j < length p.widths → (get_or r.buses j no_bus).width.0 ≡ get_or p.widths j 0
    unfolding plan_record
    record_width j h =
        rw (get_or-take (length p.widths) r.buses j no_bus h) at (sym (width-at (buses_of r) j) ∙ ap (λ l. get_or l j 0) record_widths)

    bus-within : (b : ℕ) → 1 ≤ b → b ≤ length p.widths → within 1 r.bus_count b ≡ true
    unfolding plan_record
    bus-within b h k = within_true 1 b (length p.widths) h k

    -- "bus count and widths obey the plan rules"
    record_buses_good : good_buses r ≡ true
    unfolding good_buses plan_record
    record_buses_good =
        and_holds (within_true 1 (length p.widths) B is.some is.limit)
        (and_holds (ap (rising_from 1) record_widths ∙ rising-widths 1 p.widths is.wide is.rising) (eq-eqb _ W (ap sum record_widths ∙ is.wires)))

    -- "busy and time are the sums and the maximum"
    busy-at : (j : ℕ) → j < length (buses_of r) → get_or (busies_of (buses_of r)) j 0 ≡ cycles_on (1 + j) (modules_of r)
    busy-at j h =
        let k : j < r.bus_count = omega (arith, length-take r.bus_count r.buses) in
        let e : suc j ≡ 1 + j = omega arith in
        record_busy j k ∙ ap (λ b. cycles_on b (modules_of r)) e

    record_times : good_times r ≡ true
    unfolding good_times
    record_times = and_holds (busy_sums (modules_of r) 1 (buses_of r) busy-at) (eq-eqb r.time.0 (largest (busies_of (buses_of r))) record_time)

    -- "a module starts at the sum of the cycles of lower-numbered modules on its bus"
    module _ (ascending : ascending_from 1 numbers ≡ true) where
      record_start : (i : ℕ) → i < length numbers → (get_or placed i no_placed).start.0 ≡ start_of placed (get_or placed i no_placed)
      record_start i h =
          let n : i < length p.buses = omega (arith, is.placed) in
          let k : i < length placed = omega (arith, placed-length) in
          let all = numbers-are numbers time used p.widths p.buses 0 p.buses (omega (arith, is.placed)) in
          let a : ascending_from 1 (numbers_of placed) ≡ true = rw all ascending in
          let m = record_at numbers time used p.widths p.buses 0 i p.buses n in
          let b = get_or p.buses i 0 in
          let s : suc (b - 1) ≡ b = omega (arith, is.low i h) in
          let e : 0 + i ≡ i = omega arith in
          let t : cycles_on b (take i placed) ≡ busy_from time 0 b (get_or p.widths (b - 1) 0) (take i p.buses) =
          rw (take_records numbers time used p.widths p.buses i 0 p.buses)
          (rw s at (cycles-busy numbers time used p.widths p.buses 0 (b - 1) (take i p.buses))) in
          rw e at m.1 ∙ sym (start-front 1 placed a i k ∙ ap (λ x. cycles_on x (take i placed)) m.0 ∙ t)

      record_starts : good_starts (modules_of r) ≡ true
      unfolding good_starts
      record_starts =
          rw modules_are (all-each (start_is placed) no_placed placed (λ i h. eq-eqb _ _ (record_start i (omega (arith, placed-length)))))

    -- "spare places are 0"
    spare-buses : all_of spare_bus (drop r.bus_count r.buses) ≡ true
    unfolding spare_bus plan_record
    spare-buses =
        let bs = bus_records p.widths figures in
        let e : drop (length p.widths) (padded bus_places no_bus bs) ≡ replicate (bus_places - length bs) no_bus = rw (← buses_length) (padded-drop bus_places no_bus bs) in
        ap (all_of spare_bus) e ∙ all_replicate spare_bus (bus_places - length bs) no_bus refl

    spare-modules : all_of spare_placed (drop r.module_count r.modules) ≡ true
    unfolding spare_placed plan_record
    spare-modules =
        let e : drop (length numbers) (padded module_places no_placed placed) ≡ replicate (module_places - length placed) no_placed = rw (← placed-length) (padded-drop module_places no_placed placed) in
        ap (all_of spare_placed) e ∙ all_replicate spare_placed (module_places - length placed) no_placed refl

    -- the arrays of the record have their places
    pub record_bus_places : B ≤ bus_places → length r.buses ≡ bus_places
    unfolding plan_record
    record_bus_places h = padded-length bus_places no_bus _ (omega (arith, buses_length, is.limit))

    pub record_module_places : length numbers ≤ module_places → length r.modules ≡ module_places
    unfolding plan_record
    record_module_places h = padded-length module_places no_placed _ (omega (arith, placed-length))

    module _ (fit : Recordable numbers time used) where
      -- "each bus from 1 to the number of buses, cycles 1 to the module maximum above, wires 1 to the bus's width"
      placed-good : (i : ℕ) (bs : List ℕ) → i + length bs ≤ length numbers
          → ((j : ℕ) → j < length bs → (1 ≤ get_or bs j 0) × (get_or bs j 0 ≤ length p.widths))
          → all_of (good_placed r) (module_records numbers time used p.widths p.buses i bs) ≡ true
      unfolding all_of good_placed module_records
      placed-good i [] h q = refl
      placed-good i (b ∷ bs) h q =
          let v = q 0 (omega arith) in
          let l : b - 1 < length p.widths = omega arith in
          let w = get_or p.widths (b - 1) 0 in
          let a : 1 ≤ w = is.wide (b - 1) l in
          let t = fit.times i w (omega arith) a in
          let u = fit.wires i w a in
          and_holds
          (and_holds (bus-within b v.0 v.1) (and_holds (within_true 1 (time i w) module_time_max t.0 t.1) (rw (record_width (b - 1) l) (within_true 1 (used i w) w u.0 u.1))))
          (placed-good (suc i) bs (omega arith) (λ j k. q (suc j) (omega arith)))

      record_placed : all_of (good_placed r) (modules_of r) ≡ true
      record_placed =
          let n = is.placed in
          rw modules_are (placed-good 0 p.buses (omega arith) (λ j k. (is.low j (omega arith), is.high j (omega arith))))

      module _ (low : 1 ≤ W) (narrow : W ≤ width_max) (limit : 1 ≤ B) (few : B ≤ bus_places) where
        record_counts : good_counts r ≡ true
        unfolding good_counts plan_record
        record_counts = and_holds (within_true 1 W width_max low narrow) (and_holds (within_true 1 B bus_places limit few) (within_true 1 (length numbers) module_places fit.some fit.few))

        -- the record of a plan is good
        pub record_good : good_plan r ≡ true
        unfolding good_plan spare_rest
        record_good =
            and_holds record_counts
            (and_holds (ap (ascending_from 1) record_numbers ∙ fit.ascending)
            (and_holds record_placed
            (and_holds record_buses_good
            (and_holds record_times (and_holds (record_starts fit.ascending) (and_holds spare-buses spare-modules))))))
