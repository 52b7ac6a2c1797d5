-- Laws of the tables of times: the numbers of the planned modules, what the wrapper layer promises of their times makes a table to search
-- over, and the plan that is best by two times that agree. Assumes nothing.
use Prim.Native.Nat.{ℕ, zero, suc, ◌+◌, ◌-◌, ◌*◌, ◌/◌, ◌%◌, ◌≤◌, ◌<◌}
use mathlib.Core.Path.{◌≡◌, refl, ap, ◌∙◌}
use mathlib.Core.Bool.{Bool, true, false, cond}
use mathlib.Core.Logic.{◌⊎◌, inl, inr, ⊎_elim}
use mathlib.Core.List.{List, [], ◌∷◌, Memᴰ}
use native.Mathlib.Omega.{arith}
use borrow.Author.Count.{below_more}
use lib.ListN.{length, get_or, take, replicate, length-take}
use Rattle.std.specs.Prelude.{Ok}
use Rattle.soc.specs.Record.{modules_of}
use Rattle.soc.specs.Planned.{is_planned, planned_from, planned_of, planned_is}
use Rattle.soc.specs.declared.planned.Planned.{Planned}
use Rattle.soc.specs.Limits.{modules_max}
use Rattle.units.proofs.PlaceLaws.{padded-take}
use Rattle.soc.specs.Rules.{good_soc}
use Rattle.soc.specs.declared.record.Module.{Module}
use Rattle.soc.specs.declared.record.Soc.{Soc}
use Rattle.wrapper_fit.specs.Maxima.{width_max, capture_max}
use Rattle.wrapper_times.specs.TimeAnswers.{module_times_answer}
use Rattle.wrapper_times.specs.declared.times.Times.{Times}
use Rattle.wrapper_times.proofs.BestLaws.{time-falls}
use Rattle.wrapper_times.proofs.PromisedTimes.{time-most, times-at, wires-at, times-past}
use Rattle.plan_rules.specs.Plans.{Plan, IsPlan, busy_from, busies, largest, time_of}
use Rattle.plan_rules.specs.Listed.{plans, first_least, first_of, best_plan, best_of}
use Rattle.plan_rules.proofs.ListedLaws.{sound}
use Rattle.plan_rules.proofs.BoundLaws.{width_in}
use Rattle.plan_record.specs.Record.{module_places}
use Rattle.plan.specs.PlanAnswers.{limit_max, planned_max, planned_module, time_in, wires_in}
use Rattle.wrapper_fit.specs.Maxima.{module_time_max}
use Rattle.plan_search.specs.Search.{search_buses, search_modules, row_places, table_time, AreTimes, IsTable}
use Rattle.plan.specs.Tables.{table_places, TimesStand, TablesAre}
use Rattle.plan.specs.declared.tables.Tables.{Tables}

below_or : (a b : ℕ) → (a < b) ⊎ (b ≤ a)
below_or a zero = inr (omega arith)
below_or zero (suc b) = inl (omega arith)
below_or (suc a) (suc b) = ⊎_elim (λ h. inl (omega arith)) (λ h. inr (omega arith)) (below_or a b)

-- a place of an array whose spare places hold z
replicate-at : {A : Type 0} (n : ℕ) (z : A) (i : ℕ) → get_or (replicate n z) i z ≡ z
replicate-at zero z i = refl
replicate-at (suc n) z zero = refl
replicate-at (suc n) z (suc i) = replicate-at n z i

-- the numbers of the planned modules are those of modules
planned_below : (m : ℕ) (ds : List Module) (i : ℕ) → i < length (planned_from m ds) → get_or (planned_from m ds) i 0 < m + length ds
unfolding planned_from
planned_below m [] i h = absurd (omega arith)
planned_below m (d ∷ ds) i h = go (is_planned d) i h (planned_below (suc m) ds)
  where
    go : (b : Bool) (i : ℕ) → i < length (cond b (m ∷ planned_from (suc m) ds) (planned_from (suc m) ds)) → ((i : ℕ) → i < length (planned_from (suc m) ds) → get_or (planned_from (suc m) ds) i 0 < suc m + length ds)
        → get_or (cond b (m ∷ planned_from (suc m) ds) (planned_from (suc m) ds)) i 0 < m + suc (length ds)
    go true zero h r = omega arith
    go true (suc i) h r = omega (arith, r i (omega arith))
    go false i h r = omega (arith, r i h)

pub planned-number : (s : Soc) (i : ℕ) → i < length (planned_of s) → (get_or (planned_of s) i 0 < s.module_count) × (get_or (planned_of s) i 0 < length s.modules)
planned-number s i h =
    let b = planned_below 0 (modules_of s) i h in
    let l = length-take s.module_count s.modules in
    (omega arith, omega arith)

-- and stand in the places in use
pub numbers_are : (s : Soc) {p : Planned} → p ≡ planned_is (planned_of s) → take p.count p.numbers ≡ planned_of s
numbers_are s e = rw e (padded-take modules_max 0 (planned_of s))

-- a planned module's time is at most the limit, and does not rise with the width
pub time-limit : (c : ℕ) (s : Soc) (i w : ℕ) → 1 ≤ c → c ≤ capture_max → good_soc s ≡ true → i < length (planned_of s) → 1 ≤ w
    → time_in c s i w ≤ module_time_max
unfolding time_in
time-limit c s i w first last good h k = time-most c first last s (get_or (planned_of s) i 0) good (planned-number s i h).0 w k

pub time_fall : (c : ℕ) (s : Soc) (i v w : ℕ) → 1 ≤ v → v ≤ w → time_in c s i w ≤ time_in c s i v
unfolding time_in
time_fall c s i v w h k = time-falls c (planned_module s i) v w h k

-- the tables hold the times of the planned modules: a table to search over
module _ {c : ℕ} {s : Soc} {W n : ℕ} {t : Tables} (a : TablesAre c s W n t) (first : 1 ≤ c) (last : c ≤ capture_max)
    (good : good_soc s ≡ true) (count : n ≡ length (planned_of s)) where
  row_most : (i j : ℕ) → i < n → j < row_places → get_or t.cycles (i * row_places + j) 0 ≤ module_time_max
  row_most i j h k = ⊎_elim
      (λ l.
      let e : suc j - 1 ≡ j = omega arith in
      rw (rw e at (a.cycles_are i (suc j) h (omega arith) (omega arith)))
      (time-limit c s i (suc j) first last good (omega arith) (omega arith)))
      (λ l. rw (a.past i j h l k) (omega arith))
      (below_or j W)

  table-most : (j : ℕ) → get_or t.cycles j 0 ≤ module_time_max
  table-most j = ⊎_elim
      (λ h.
      let p : j / row_places * row_places + j % row_places ≡ j = omega arith in
      rw p at (row_most (j / row_places) (j % row_places) (omega arith) (omega arith)))
      (λ h. rw (a.spare j h) (omega arith))
      (below_or j (n * row_places))

  row_falls : (i v w : ℕ) → i < n → 1 ≤ v → v ≤ w → w ≤ row_places → table_time t.cycles i w ≤ table_time t.cycles i v
  row_falls i v w h k o p = ⊎_elim
      (λ l. rw (a.past i (w - 1) h (omega arith) (omega arith)) (omega arith))
      (λ l. rw (a.cycles_are i w h (omega arith) l, a.cycles_are i v h k (omega arith)) (time_fall c s i v w k o))
      (below_or W w)

  pub times-are : length t.cycles ≡ table_places → n ≤ module_places → AreTimes t.cycles n
  times-are l m = record { few = m; long = omega arith; times = λ i w. omega (arith, table-most (i * row_places + (w - 1))) }

  pub table_is : length t.cycles ≡ table_places → n ≤ planned_max → IsTable t.cycles n
  table_is l m =
      let r = times-are l (omega arith) in
      record { few = m; long = r.long; times = r.times; falls = row_falls }

-- a table has a place for each width of the wrapper layer, and the search has room for as many buses and modules as the planner takes
pub row_width : row_places ≡ width_max
row_width = refl

pub limit-searched : limit_max ≤ search_buses
limit-searched = omega arith

pub planned-searched : planned_max ≤ search_modules
planned-searched = omega arith

-- no times stand in the tables yet, and what the wrapper layer answers for one planned module more does
pub tables_none : (c : ℕ) (s : Soc) (W : ℕ)
    → TablesAre c s W 0 (record { cycles = replicate table_places 0; wires = replicate table_places 0 })
tables_none c s W =
    record {
      cycles_are = λ i w h k l. absurd (omega arith);
      wires_are = λ i w h k l. absurd (omega arith);
      past = λ i j h k l. absurd (omega arith);
      spare = λ j h. replicate-at table_places 0 j;
    }

module _ (c : ℕ) (s : Soc) (W k : ℕ) {t r : Tables} (first : 1 ≤ c) (last : c ≤ capture_max) (good : good_soc s ≡ true)
    (h : k < length (planned_of s)) (low : 1 ≤ W) (high : W ≤ width_max)
    {times : Times} (e : module_times_answer s (get_or (planned_of s) k 0) W c ≡ Ok times) (b : TimesStand t k times r) where
  there : get_or (planned_of s) k 0 < s.module_count
  there = (planned-number s k h).0

  cycles_here : (w : ℕ) → 1 ≤ w → w ≤ W → get_or r.cycles (k * row_places + (w - 1)) 0 ≡ time_in c s k w
  unfolding time_in
  cycles_here w l m =
      b.cycles_here (w - 1) (omega arith) ∙ ap (λ x. x.0) (times-at c first last s (get_or (planned_of s) k 0) good there W low high e w l m)

  wires_here : (w : ℕ) → 1 ≤ w → w ≤ W → get_or r.wires (k * row_places + (w - 1)) 0 ≡ wires_in c s k w
  unfolding wires_in
  wires_here w l m =
      b.wires_here (w - 1) (omega arith) ∙ ap (λ x. x.0) (wires-at c first last s (get_or (planned_of s) k 0) good there W low high e w l m)

  past-here : (j : ℕ) → W ≤ j → j < row_places → get_or r.cycles (k * row_places + j) 0 ≡ 0
  past-here j l m = b.cycles_here j m ∙ ap (λ x. x.0) (times-past c first last s (get_or (planned_of s) k 0) good there W low high e j l)

  pub tables_more : TablesAre c s W k t → TablesAre c s W (k + 1) r
  tables_more a =
      record {
        cycles_are = λ i w l.
            below_more (λ j. 1 ≤ w → w ≤ W → get_or r.cycles (j * row_places + (w - 1)) 0 ≡ time_in c s j w) k
            (λ j l m n. (b.cycles_else (j * row_places + (w - 1))).0 (omega arith) ∙ a.cycles_are j w l m n) (cycles_here w) i l;
        wires_are = λ i w l.
            below_more (λ j. 1 ≤ w → w ≤ W → get_or r.wires (j * row_places + (w - 1)) 0 ≡ wires_in c s j w) k
            (λ j l m n. (b.wires_else (j * row_places + (w - 1))).0 (omega arith) ∙ a.wires_are j w l m n) (wires_here w) i l;
        past = λ i x l.
            below_more (λ j. W ≤ x → x < row_places → get_or r.cycles (j * row_places + x) 0 ≡ 0) k
            (λ j l m n. (b.cycles_else (j * row_places + x)).0 (omega arith) ∙ a.past j x l m n) (past-here x) i l;
        spare = λ j l. (b.cycles_else j).1 (omega arith) ∙ a.spare j (omega arith);
      }

-- two times that agree on the plans of a list
least-same : (u v : Plan → ℕ) (p : Plan) (ps : List Plan) → u p ≡ v p → ((q : Plan) → Memᴰ q ps → u q ≡ v q) → first_least u p ps ≡ first_least v p ps
unfolding first_least
least-same u v p [] e h = refl
least-same u v p (q ∷ qs) e h =
    let k : (r : Plan) → Memᴰ r qs → u r ≡ v r = λ r m. h r (Memᴰ.tail m) in
    let z = h q (Memᴰ.head refl) in
    rw (z, e, least-same u v q qs z k, least-same u v p qs e k)

first-same : (u v : Plan → ℕ) (ps : List Plan) → ((q : Plan) → Memᴰ q ps → u q ≡ v q) → first_of u ps ≡ first_of v ps
unfolding first_of
first-same u v [] h = refl
first-same u v (p ∷ ps) h = least-same u v p ps (h p (Memᴰ.head refl)) (λ q m. h q (Memᴰ.tail m))

-- two times that agree on n modules and the widths 1 to W
module _ {f g : ℕ → ℕ → ℕ} {W n : ℕ} (same : (i w : ℕ) → i < n → 1 ≤ w → w ≤ W → f i w ≡ g i w) where
  pub busy-same : (i b w : ℕ) (xs : List ℕ) → i + length xs ≤ n → 1 ≤ w → w ≤ W → busy_from f i b w xs ≡ busy_from g i b w xs
  unfolding busy_from
  busy-same i b w [] h k l = refl
  busy-same i b w (x ∷ xs) h k l = rw (same i w (omega arith) k l, busy-same (suc i) b w xs (omega arith) k l)

  busies-all : (bs : List ℕ) (b : ℕ) (ws : List ℕ) → length bs ≤ n → ((i : ℕ) → i < length ws → (1 ≤ get_or ws i 0) × (get_or ws i 0 ≤ W)) → busies f bs b ws ≡ busies g bs b ws
  unfolding busies
  busies-all bs b [] h k = refl
  busies-all bs b (w ∷ ws) h k =
      let l = k 0 (omega arith) in
      rw (busy-same 0 b w bs (omega arith) l.0 l.1, busies-all bs (suc b) ws h (λ i m. k (suc i) (omega arith)))

  pub busies-same : {B : ℕ} {p : Plan} → IsPlan W B n p → busies f p.buses 1 p.widths ≡ busies g p.buses 1 p.widths
  busies-same {p = p} r = busies-all p.buses 1 p.widths (omega (arith, r.placed)) (width_in r)

  pub time-same : {B : ℕ} {p : Plan} → IsPlan W B n p → time_of f p ≡ time_of g p
  unfolding time_of
  time-same r = ap largest (busies-same r)

  pub best-same : (B : ℕ) → best_plan f W B n ≡ best_plan g W B n
  unfolding best_of
  best-same B = first-same (time_of f) (time_of g) (plans W B n) (λ p m. time-same (sound W B n p m))
