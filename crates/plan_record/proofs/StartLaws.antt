-- Laws of starts (document 02, item 1). Of any good plan record: on one bus no two modules run at the same cycle, the last module of a bus
-- ends at the bus's busy figure, and every module ends by the plan's time. And of a list whose numbers ascend: a module's start is the
-- cycles on its bus of the modules before it. Assumes nothing.
use Prim.Native.Nat.{ℕ, zero, suc, ◌+◌, ◌-◌, ◌≤◌, ◌<◌}
use mathlib.Core.Path.{◌≡◌, refl, sym, ap, ◌∙◌}
use mathlib.Core.Bool.{Bool, true, false, cond, ◌&&◌, and-false, false≢true}
use mathlib.Core.Logic.{◌⊎◌, inl, inr, ⊎_elim}
use mathlib.Core.List.{List, [], ◌∷◌}
use native.Mathlib.Omega.{arith}
use borrow.Author.Tests.{leb-true, ltb-true, eqb-true, eq-eqb, lt-ltb, le-ltb}
use lib.ListN.{length, get_or, take}
use lib.Seq.{get_or-take, length-take-le}
use lib.Dec.{leb, ltb, eqb}
use Rattle.soc.specs.Limits.{modules_max}
use Rattle.units.proofs.TestLaws.{and_both, and_holds}
use Rattle.units.specs.Places.{all_of}
use Rattle.plan_rules.specs.Plans.{largest}
use Rattle.plan_record.specs.Record.{no_bus, no_placed, buses_of, modules_of, busies_of, numbers_of, cycles_on, runs_before, start_of}
use Rattle.plan_record.specs.Good.{within, ascending_from, good_placed, good_busies, start_is, good_starts, good_plan}
use Rattle.plan_record.specs.Starts.{end_of, RunsAt, module_of, bus_of, IsLast}
use Rattle.plan_record.specs.Whole.{Whole}
use Rattle.plan_record.specs.declared.record.Bus.{Bus}
use Rattle.plan_record.specs.declared.record.PlacedModule.{PlacedModule}
use Rattle.plan_record.specs.declared.record.BusPlan.{BusPlan}
use Rattle.plan_record.proofs.GoodPlanLaws.{GoodParts, good_parts, good-figures, times_both, placed-front}

-- which modules run before m, and which do not
module _ (x m : PlacedModule) where
  before-holds : x.bus ≡ m.bus → x.number < m.number → runs_before x m ≡ true
  before-holds b n = and_holds (eq-eqb x.bus m.bus b) (lt-ltb x.number m.number n)

  before-says : runs_before x m ≡ true → (x.bus ≡ m.bus) × (x.number < m.number)
  before-says e =
      let a = and_both (eqb x.bus m.bus) (ltb x.number m.number) e in
      (eqb-true x.bus m.bus a.0, ltb-true x.number m.number a.1)

  before_later : m.number ≤ x.number → runs_before x m ≡ false
  before_later h = rw (le-ltb x.number m.number h) (and-false (eqb x.bus m.bus))

  -- with a lower number the bus alone decides
  before-bus : x.number < m.number → runs_before x m ≡ eqb x.bus m.bus
  before-bus h = go (eqb x.bus m.bus)
    where
      go : (t : Bool) → (t && ltb x.number m.number) ≡ t
      go true = lt-ltb x.number m.number h
      go false = refl

-- what module x adds to the start of m is at most what it adds to that of a later one on m's bus, and to the cycles there
cond_le : (s t : Bool) (n : ℕ) → (s ≡ true → t ≡ true) → cond s n 0 ≤ cond t n 0
cond_le true true n h = omega arith
cond_le true false n h = absurd (false≢true (h refl))
cond_le false t n h = omega arith

one_later : (x m k : PlacedModule) → m.bus ≡ k.bus → m.number ≤ k.number
    → cond (runs_before x m) x.cycles.0 0 ≤ cond (runs_before x k) x.cycles.0 0
one_later x m k b n =
    cond_le (runs_before x m) (runs_before x k) x.cycles.0
    (λ e. let s = before-says x m e in before-holds x k (s.0 ∙ b) (omega arith))

one_on : (x m : PlacedModule) → cond (runs_before x m) x.cycles.0 0 ≤ cond (eqb x.bus m.bus) x.cycles.0 0
one_on x m =
    cond_le (runs_before x m) (eqb x.bus m.bus) x.cycles.0 (λ e. eq-eqb x.bus m.bus (before-says x m e).0)

-- so are their sums
start_le : (xs : List PlacedModule) (m k : PlacedModule) → m.bus ≡ k.bus → m.number ≤ k.number → start_of xs m ≤ start_of xs k
unfolding start_of
start_le [] m k b n = omega arith
start_le (x ∷ xs) m k b n = omega (arith, one_later x m k b n, start_le xs m k b n)

start_on : (xs : List PlacedModule) (m : PlacedModule) → start_of xs m ≤ cycles_on m.bus xs
unfolding start_of cycles_on
start_on [] m = omega arith
start_on (x ∷ xs) m = omega (arith, one_on x m, start_on xs m)

-- a module ends by the start of a later one on its bus, and by the cycles of all modules there
start_apart : (xs : List PlacedModule) (i : ℕ) (k : PlacedModule) → i < length xs →
    let m = get_or xs i no_placed in
    m.bus ≡ k.bus → m.number < k.number → start_of xs m + m.cycles.0 ≤ start_of xs k
unfolding start_of
start_apart [] i k h b n = absurd (omega arith)
start_apart (x ∷ xs) zero k h b n =
    rw (before_later x x (omega arith), before-holds x k b n) (omega (arith, start_le xs x k b (omega arith)))
start_apart (x ∷ xs) (suc i) k h b n =
    omega (arith, one_later x (get_or xs i no_placed) k b (omega arith), start_apart xs i k (omega arith) b n)

start-within : (xs : List PlacedModule) (i : ℕ) → i < length xs →
    let m = get_or xs i no_placed in
    start_of xs m + m.cycles.0 ≤ cycles_on m.bus xs
unfolding start_of cycles_on
start-within [] i h = absurd (omega arith)
start-within (x ∷ xs) zero h = rw (before_later x x (omega arith), eq-eqb x.bus x.bus refl) (omega (arith, start_on xs x))
start-within (x ∷ xs) (suc i) h = omega (arith, one_on x (get_or xs i no_placed), start-within xs i (omega arith))

-- numbers that ascend
abbrev Ascends : ℕ → List PlacedModule → Type 0
Ascends low xs = ascending_from low (numbers_of xs) ≡ true

ascending_both : (low : ℕ) (x : PlacedModule) (xs : List PlacedModule) → Ascends low (x ∷ xs)
    → (low ≤ x.number) × Ascends (suc x.number) xs
unfolding ascending_from
ascending_both low x xs e =
    let a = and_both (leb low x.number) _ e in
    let b = and_both (leb x.number (modules_max - 1)) _ a.1 in
    (leb-true low x.number a.0, b.1)

ascending_low : (low : ℕ) (xs : List PlacedModule) → Ascends low xs → (i : ℕ) → i < length xs → low ≤ (get_or xs i no_placed).number
ascending_low low [] e i h = absurd (omega arith)
ascending_low low (x ∷ xs) e zero h = (ascending_both low x xs e).0
ascending_low low (x ∷ xs) e (suc i) h =
    let a = ascending_both low x xs e in
    omega (arith, a.0, ascending_low (suc x.number) xs a.1 i (omega arith))

ascending_places : (low : ℕ) (xs : List PlacedModule) → Ascends low xs → (i j : ℕ) → i < j → j < length xs
    → (get_or xs i no_placed).number < (get_or xs j no_placed).number
ascending_places low [] e i j l h = absurd (omega arith)
ascending_places low (x ∷ xs) e i zero l h = absurd (omega arith)
ascending_places low (x ∷ xs) e zero (suc j) l h = ascending_low (suc x.number) xs (ascending_both low x xs e).1 j (omega arith)
ascending_places low (x ∷ xs) e (suc i) (suc j) l h =
    ascending_places (suc x.number) xs (ascending_both low x xs e).1 i j (omega arith) (omega arith)

-- no module of a list runs before m where each has a number that is not lower
start_none : (xs : List PlacedModule) (m : PlacedModule)
    → ((i : ℕ) → i < length xs → m.number ≤ (get_or xs i no_placed).number) → start_of xs m ≡ 0
unfolding start_of
start_none [] m h = refl
start_none (x ∷ xs) m h = rw (before_later x m (h 0 (omega arith)), start_none xs m (λ i k. h (suc i) (omega arith)))

-- the start of module i: the cycles on its bus of those before it in the list
pub start-front : (low : ℕ) (xs : List PlacedModule) → Ascends low xs → (i : ℕ) → i < length xs →
    let m = get_or xs i no_placed in
    start_of xs m ≡ cycles_on m.bus (take i xs)
unfolding start_of cycles_on
start-front low [] e i h = absurd (omega arith)
start-front low (x ∷ xs) e zero h =
    let a = ascending_both low x xs e in
    rw (before_later x x (omega arith), start_none xs x (λ i k. omega (arith, ascending_low (suc x.number) xs a.1 i k)))
start-front low (x ∷ xs) e (suc i) h =
    let a = ascending_both low x xs e in
    let l = ascending_low (suc x.number) xs a.1 i (omega arith) in
    rw (before-bus x (get_or xs i no_placed) l, start-front (suc x.number) xs a.1 i (omega arith))

-- where all modules on m's bus have a lower number its start is the cycles of all of them
start-all : (xs : List PlacedModule) (m : PlacedModule)
    → ((i : ℕ) → i < length xs → (get_or xs i no_placed).bus ≡ m.bus → (get_or xs i no_placed).number < m.number)
    → start_of xs m ≡ cycles_on m.bus xs
unfolding start_of cycles_on
start-all [] m h = refl
start-all (x ∷ xs) m h =
    let one : runs_before x m ≡ eqb x.bus m.bus = go (eqb x.bus m.bus) refl in
    rw (one, start-all xs m (λ i k. h (suc i) (omega arith)))
  where
    go : (t : Bool) → eqb x.bus m.bus ≡ t → runs_before x m ≡ eqb x.bus m.bus
    go true e = before-bus x m (h 0 (omega arith) (eqb-true x.bus m.bus e))
    go false e = rw e

-- module i where none on its bus has a higher number
start-last : (low : ℕ) (xs : List PlacedModule) → Ascends low xs → (i : ℕ) → i < length xs →
    let m = get_or xs i no_placed in
    ((j : ℕ) → j < length xs → (get_or xs j no_placed).bus ≡ m.bus → (get_or xs j no_placed).number ≤ m.number)
    → start_of xs m + m.cycles.0 ≡ cycles_on m.bus xs
unfolding start_of cycles_on
start-last low [] e i h l = absurd (omega arith)
start-last low (x ∷ xs) e zero h l =
    let a = ascending_both low x xs e in
    let s = start-all xs x (λ j k b. omega (arith, l (suc j) (omega arith) b, ascending_low (suc x.number) xs a.1 j k)) in
    rw (before_later x x (omega arith), eq-eqb x.bus x.bus refl) (omega (arith, s))
start-last low (x ∷ xs) e (suc i) h l =
    let a = ascending_both low x xs e in
    let m = get_or xs i no_placed in
    let s = start-last (suc x.number) xs a.1 i (omega arith) (λ j k b. l (suc j) (omega arith) b) in
    rw (before-bus x m (ascending_low (suc x.number) xs a.1 i (omega arith))) (omega (arith, s))

-- the busy figure of bus b + j of a list, and the largest
busy-is : (ms : List PlacedModule) (b : ℕ) (xs : List Bus) → good_busies ms b xs ≡ true → (j : ℕ) → j < length xs
    → (get_or xs j no_bus).busy.0 ≡ cycles_on (b + j) ms
unfolding good_busies
busy-is ms b [] e j h = absurd (omega arith)
busy-is ms b (x ∷ xs) e zero h =
    let z : b + 0 ≡ b = omega arith in
    let a = and_both (eqb x.busy.0 (cycles_on b ms)) (good_busies ms (suc b) xs) e in
    rw z (eqb-true x.busy.0 (cycles_on b ms) a.0)
busy-is ms b (x ∷ xs) e (suc j) h =
    let z : b + suc j ≡ suc b + j = omega arith in
    let a = and_both (eqb x.busy.0 (cycles_on b ms)) (good_busies ms (suc b) xs) e in
    rw z (busy-is ms (suc b) xs a.1 j (omega arith))

busy-largest : (xs : List Bus) (j : ℕ) → j < length xs → (get_or xs j no_bus).busy.0 ≤ largest (busies_of xs)
unfolding largest
busy-largest [] j h = absurd (omega arith)
busy-largest (x ∷ xs) zero h = omega arith
busy-largest (x ∷ xs) (suc j) h = omega (arith, busy-largest xs j (omega arith))

-- what every module of a list keeps, module i keeps
all-at : (p : PlacedModule → Bool) (xs : List PlacedModule) → all_of p xs ≡ true → (i : ℕ) → i < length xs → p (get_or xs i no_placed) ≡ true
unfolding all_of
all-at p [] e i h = absurd (omega arith)
all-at p (x ∷ xs) e zero h = (and_both (p x) (all_of p xs) e).0
all-at p (x ∷ xs) e (suc i) h = all-at p xs (and_both (p x) (all_of p xs) e).1 i (omega arith)

-- a module in its place names a bus
placed-low : (p : BusPlan) (m : PlacedModule) → good_placed p m ≡ true → 1 ≤ m.bus
unfolding good_placed
placed-low p m e =
    let a = and_both (within 1 p.bus_count m.bus) _ e in
    leb-true 1 m.bus (and_both (leb 1 m.bus) (leb m.bus p.bus_count) a.0).0

order : (i j : ℕ) → (i ≡ j) ⊎ ((i < j) ⊎ (j < i))
order zero zero = inl refl
order zero (suc j) = inr (inl (omega arith))
order (suc i) zero = inr (inr (omega arith))
order (suc i) (suc j) =
    ⊎_elim (λ e. inl (ap suc e)) (λ l. ⊎_elim (λ a. inr (inl (omega arith))) (λ a. inr (inr (omega arith))) l) (order i j)

module _ (p : BusPlan) (w : Whole p) (good : good_plan p ≡ true) where
  parts : GoodParts p
  parts = good_parts p good

  count-is : length (modules_of p) ≡ p.module_count
  count-is = length-take-le p.module_count p.modules (omega (arith, w.modules, (good-figures p good).modules_high))

  in_use : (i : ℕ) → i < p.module_count → get_or (modules_of p) i no_placed ≡ module_of p i
  in_use i h = get_or-take p.module_count p.modules i no_placed h

  -- what is judged of every module
  each : (q : PlacedModule → Bool) → all_of q (modules_of p) ≡ true → (i : ℕ) → i < p.module_count → q (module_of p i) ≡ true
  each q e i h = ap q (sym (in_use i h)) ∙ all-at q (modules_of p) e i (omega (arith, count-is))

  -- numbers ascend with the places
  good-order : (i j : ℕ) → i < j → j < p.module_count → (module_of p i).number < (module_of p j).number
  good-order i j l h =
      rw (in_use i (omega arith), in_use j h) at
      (ascending_places 1 (modules_of p) parts.ascending i j l (omega (arith, count-is)))

  -- "a plan record or plan file that names module 0 is 12"
  pub good-number : (i : ℕ) → i < p.module_count → 1 ≤ (module_of p i).number
  good-number i h = rw (in_use i h) at (ascending_low 1 (modules_of p) parts.ascending i (omega (arith, count-is)))

  -- "A good file or record has exactly these starts."
  pub good_start : (i : ℕ) → i < p.module_count → (module_of p i).start.0 ≡ start_of (modules_of p) (module_of p i)
  unfolding good_starts
  good_start i h =
      let m = module_of p i in
      eqb-true m.start.0 (start_of (modules_of p) m) (each (start_is (modules_of p)) parts.starts i h)

  -- of two modules on one bus the one with the lower number ends before the other starts
  pub good_apart : (i j : ℕ) → i < p.module_count → j < p.module_count → (module_of p i).bus ≡ (module_of p j).bus
      → (module_of p i).number < (module_of p j).number → end_of (module_of p i) ≤ (module_of p j).start.0
  good_apart i j h k b n =
      let a = rw (in_use i h) at (start_apart (modules_of p) i (module_of p j) (omega (arith, count-is))) in
      omega (arith, good_start i h, good_start j k, a b n)

  -- so no two run at the same cycle
  pub good-alone : (i j t : ℕ) → i < p.module_count → j < p.module_count → (module_of p i).bus ≡ (module_of p j).bus
      → RunsAt (module_of p i) t → RunsAt (module_of p j) t → i ≡ j
  good-alone i j t h k b x y = go (order i j)
    where
      go : (i ≡ j) ⊎ ((i < j) ⊎ (j < i)) → i ≡ j
      go (inl e) = e
      go (inr (inl l)) =
          let a = good_apart i j h k b (good-order i j l k) in
          let z : ⊥ = omega (arith, a, x.going, y.begun) in
          absurd z
      go (inr (inr l)) =
          let a = good_apart j i k h (sym b) (good-order j i l h) in
          let z : ⊥ = omega (arith, a, y.going, x.begun) in
          absurd z

  module _ (i : ℕ) (h : i < p.module_count) where
    -- the place of the module's bus
    abbrev place : ℕ
    place = (module_of p i).bus - 1

    low : 1 ≤ (module_of p i).bus
    low = placed-low p (module_of p i) (each (good_placed p) parts.placed i h)

    place_in : place < p.bus_count
    place_in = omega (arith, low, (placed-front p parts.placed i h).bus)

    place_there : place < length (buses_of p)
    place_there =
        let l = length-take-le p.bus_count p.buses (omega (arith, w.buses, (good-figures p good).buses_high)) in
        omega (arith, l, place_in)

    bus-is : get_or (buses_of p) place no_bus ≡ bus_of p i
    bus-is = get_or-take p.bus_count p.buses place no_bus place_in

    times : (good_busies (modules_of p) 1 (buses_of p) ≡ true) × (p.time.0 ≡ largest (busies_of (buses_of p)))
    times = times_both p parts.times

    -- the busy figure of its bus is the cycles on it
    busy-cycles : (bus_of p i).busy.0 ≡ cycles_on (module_of p i).bus (modules_of p)
    busy-cycles =
        let e : 1 + place ≡ (module_of p i).bus = omega (arith, low) in
        rw (bus-is, e) at (busy-is (modules_of p) 1 (buses_of p) times.0 place place_there)

    -- the last module of a bus ends at its busy figure
    pub good-last : IsLast p i → end_of (module_of p i) ≡ (bus_of p i).busy.0
    good-last l =
        let e = rw (in_use i h) at (start-last 1 (modules_of p) parts.ascending i (omega (arith, count-is))) in
        let a = e (λ j k. let m : j < p.module_count = omega (arith, count-is) in rw (in_use j m) (l j m)) in
        omega (arith, good_start i h, busy-cycles, a)

    -- every module ends by the plan's time
    pub good-end : end_of (module_of p i) ≤ p.time.0
    good-end =
        let a = rw (in_use i h) at (start-within (modules_of p) i (omega (arith, count-is))) in
        let b = rw bus-is at (busy-largest (buses_of p) place place_there) in
        omega (arith, good_start i h, busy-cycles, a, b, times.1)
