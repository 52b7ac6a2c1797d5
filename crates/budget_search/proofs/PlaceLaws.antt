-- Laws that tie the steps of placing to the definition of the search with a spending limit: what a try comes to, and what is left while the
-- buses are tried (`Left`). Assumes nothing.
use Prim.Native.Nat.{ℕ, zero, suc, ◌+◌, ◌-◌, ◌*◌, min, max, ◌≤◌, ◌<◌}
use mathlib.Core.Path.{◌≡◌, refl, sym, ap, ◌∙◌}
use mathlib.Core.Bool.{Bool, true, false, cond}
use mathlib.Core.List.{List, [], ◌∷◌, ◌++◌}
use native.Mathlib.Omega.{arith}
use native.Mathlib.Numerals.{add-one}
use lib.ListN.{length, get_or, set, take, replicate, length-set, length-replicate}
use lib.Seq.{take-suc-set, take-length, take-take, take-set-le, set-set, set-get_or}
use lib.Dec.{leb, ltb}
use borrow.Author.Tests.{ltb-true, ltb-false, lt-ltb, le-ltb, lt-leb}
use Rattle.plan_rules.specs.Plans.{Plan}
use Rattle.plan_rules.specs.Listed.{plan}
use Rattle.plan_rules.proofs.BusyLaws.{largest-set, largest-zeros}
use Rattle.budget_rules.specs.Tries.{Best, Sought, reached, keep, counted, each, busy_with, placed}
use Rattle.budget_search.specs.declared.steps.Progress.{Progress}
use Rattle.budget_search.specs.Steps.{budget_max, no_time, plan_in, reaches, counts, stops, keeps, held_in}
use Rattle.plan_search.specs.Search.{table_time, time_bound, TimeIn, AreTimes}
use Rattle.budget_search.specs.Place.{AreWidths, Rooms, Ready, attempted, Placed}

-- ---- the buses from b on are left
pub each_step : (c b : ℕ) (f : ℕ → Sought → Sought) (s : Sought) → b < c → each (c - b) b f s ≡ each (c - (b + 1)) (b + 1) f (f b s)
unfolding each
each_step c b f s h = let e : c - b ≡ suc (c - (b + 1)) = omega arith in rw e

each_none : (c b : ℕ) (f : ℕ → Sought → Sought) (s : Sought) → c ≤ b → each (c - b) b f s ≡ s
unfolding each
each_none c b f s h = let e : c - b ≡ 0 = omega arith in rw e

-- ---- the record's steps are the definition's
reached-at : (x t : ℕ) (p : Plan) (k : Bool) → ltb x no_time ≡ k → t < no_time → reached (cond k (Best.known x p) Best.unknown) t ≡ leb x t
unfolding reached
reached-at x t p true e h = refl
reached-at x t p false e h = let z = ltb-false x no_time e in sym (lt-leb x t (omega arith))

module _ (n budget : ℕ) (s : Progress) (best : List ℕ) where
  -- a time that a plan can take is judged alike where none is known
  reached-held : (t : ℕ) → t < no_time → reached (held_in n budget s best).best t ≡ reaches s t
  reached-held t h = reached-at s.best t (plan_in n best) (ltb s.best no_time) refl h

  abbrev held : Bool → ℕ → Sought
  held v t = record { best = (held_in n budget s best).best; stopped = v; tries = t }

  counted-held : s.tries < budget → held_in n budget (counts s) best ≡ counted (held_in n budget s best)
  counted-held h =
      let m : min budget (s.tries + 1) ≡ min budget s.tries + 1 = omega arith in
      let v : ltb budget (s.tries + 1) ≡ ltb budget s.tries =
      le-ltb budget (s.tries + 1) (omega arith) ∙ sym (le-ltb budget s.tries (omega arith)) in
      ap (λ x. held x (min budget (s.tries + 1))) v ∙ ap (held (ltb budget s.tries)) m

  -- whether the budget is spent
  pub spent_held : stops budget s ≡ true → budget ≤ (held_in n budget s best).tries
  spent_held e = let z = ltb-true budget s.tries e in omega arith

-- ---- busy figures
set_bound : (l : List ℕ) (b k v m : ℕ) → get_or l k 0 ≤ m → v ≤ m → get_or (set l b v) k 0 ≤ m
set_bound [] b k v m h j = h
set_bound (x ∷ l) zero zero v m h j = j
set_bound (x ∷ l) zero (suc k) v m h j = h
set_bound (x ∷ l) (suc b) zero v m h j = h
set_bound (x ∷ l) (suc b) (suc k) v m h j = set_bound l b k v m h j

set_back : (l : List ℕ) (b v : ℕ) → set (set l b v) b (get_or l b 0) ≡ l
set_back l b v = set-set l b v (get_or l b 0) ∙ set-get_or l b 0

zeros-at : (c b : ℕ) → ◌≡◌ {A = ℕ} (get_or (replicate c 0) b 0) 0
zeros-at zero b = refl
zeros-at (suc c) zero = refl
zeros-at (suc c) (suc b) = zeros-at c b

-- ---- while module i is placed: the buses from b on are left to try
pub record Left (t ws : List ℕ) (budget i : ℕ) (l₀ buses₀ best₀ : List ℕ) (s₀ : Progress) (l buses best : List ℕ) (s : Progress) (b : ℕ)
    : Type 0 where
  pub upto : b ≤ length ws
  pub loads_same : l ≡ l₀
  pub buses_length : length buses ≡ length buses₀
  pub buses_same : take i buses ≡ take i buses₀
  pub rooms : Rooms best
  pub is : placed (table_time t) ws budget (length buses₀ - i) i l₀ (take i buses₀) (held_in (length buses₀) budget s₀ best₀)
      ≡ each (length ws - b) b (attempted (table_time t) ws budget (length buses₀ - (i + 1)) i l₀ (take i buses₀))
      (held_in (length buses₀) budget s best)

module _ {t ws : List ℕ} {budget i top : ℕ} {l buses best : List ℕ} (r : Ready t ws budget i top l buses best) where
  abbrev held_by : Progress → Sought
  held_by s = held_in (length buses) budget s best

  abbrev to_place : Progress → Sought
  to_place s = placed (table_time t) ws budget (length buses - i) i l (take i buses) (held_by s)

  abbrev to_try : ℕ → Progress → Sought
  to_try b s = attempted (table_time t) ws budget (length buses - (i + 1)) i l (take i buses) b (held_by s)

  top_below : top < no_time
  top_below = omega (arith, r.top_most, r.upto, r.table.few)

  -- every module has its bus: the placement is no use, or it is kept
  module _ (s : Progress) (all : i ≡ length buses) where
    placed-all : to_place s ≡ keep (held_by s) top (plan ws buses)
    unfolding placed
    placed-all =
        let e : length buses - i ≡ 0 = omega arith in
        let p : take i buses ≡ buses = rw (all, take-length) in
        rw (e, p, r.top_is)

    pub placed-reached : true ≡ reaches s top → Placed budget i l l buses buses best s (to_place s)
    placed-reached h = record {
      loads_same = refl;
      buses_same = refl;
      rooms = r.rooms;
      is =
          sym (placed-all ∙ rw (reached-held (length buses) budget s best top top_below ∙ sym h));
    }

    pub placed-kept : {best' : List ℕ} {q : Progress} → false ≡ reaches s top → plan_in (length buses) best' ≡ plan ws buses → Rooms best'
        → q ≡ keeps s top → Placed budget i l l buses buses best' q (to_place s)
    placed-kept {best'} {q} h e m k =
        let g : reaches s top ≡ false = sym h in
        let q-is : q ≡ record { best = top; tries = s.tries } = k ∙ rw g in
        let known : Best → Sought = λ x. record { best = x; stopped = stops budget s; tries = min budget s.tries } in
        record {
          loads_same = refl;
          buses_same = refl;
          rooms = m;
          is =
              ap (λ x. held_in (length buses) budget x best') q-is
              ∙ ap (λ v. known (cond v (Best.known top (plan_in (length buses) best')) Best.unknown)) (lt-ltb top no_time top_below)
              ∙ ap (λ x. known (Best.known top x)) e
              ∙ sym (placed-all ∙ rw (reached-held (length buses) budget s best top top_below ∙ g));
        }

  module _ (less : i < length buses) where
    pub time_in_lem : (b : ℕ) → b < length ws → TimeIn t i (get_or ws b 0)
    time_in_lem b h = record { low = (r.widths.wide b h).0; high = (r.widths.wide b h).1; entry = omega (arith, r.table.long) }

    pub busy-most : (b : ℕ) → busy_with (table_time t) ws i l b ≤ (i + 1) * time_bound
    busy-most b = omega (arith, r.loads_most b, r.table.times i (get_or ws b 0))

    pub left-start : (s : Progress) → Left t ws budget i l buses best s l buses best s 0
    unfolding placed
    left-start s =
        let e : length buses - i ≡ suc (length buses - (i + 1)) = omega arith in
        let z : length ws - 0 ≡ length ws = omega arith in
        record {
          upto = omega arith;
          loads_same = refl;
          buses_length = refl;
          buses_same = refl;
          rooms = r.rooms;
          is = rw (e, z);
        }

    module _ (b : ℕ) (in-range : b < length ws) where
      pub ready_next : {busy next : ℕ} → busy ≡ busy_with (table_time t) ws i l b → next ≡ max top busy
          → Ready t ws budget (i + 1) next (set l b busy) (set buses i (b + 1)) best
      ready_next {busy} {next} e m =
          let n : length (set buses i (b + 1)) ≡ length buses = length-set buses i (b + 1) in
          let k : busy ≤ (i + 1) * time_bound = rw e (busy-most b) in
          let o : get_or l b 0 ≤ busy = omega arith in
          record {
            table = rw n r.table;
            widths = r.widths;
            limit = r.limit;
            upto = omega arith;
            room = length-set l b busy ∙ r.room;
            rooms = r.rooms;
            loads_most = λ j. set_bound l b j busy ((i + 1) * time_bound) (omega (arith, r.loads_most j)) k;
            top_most = omega (arith, m, k, r.top_most);
            top_is = m ∙ ap (λ x. max x busy) r.top_is ∙ sym (largest-set l b busy (omega (arith, r.room)) o);
          }

      -- what a try comes to: it is dropped, or it goes on
      module _ (s : Progress) where
        module _ {q : Progress} {busy : ℕ} (h : s.tries < budget) (c : q ≡ counts s) (e : busy ≡ busy_with (table_time t) ws i l b) where
          test : {v : Bool} → v ≡ reaches q busy → reached (held_by s).best (busy_with (table_time t) ws i l b) ≡ v
          test {v} d =
              let m : busy < no_time = omega (arith, e, busy-most b, r.table.few) in
              rw (← e) (reached-held (length buses) budget s best busy m ∙ ap (λ x. reaches x busy) (sym c) ∙ sym d)

          goes : ltb (min budget s.tries) budget ≡ true
          goes = lt-ltb (min budget s.tries) budget (omega arith)

          spent_is : held_by q ≡ counted (held_by s)
          spent_is = ap (λ x. held_in (length buses) budget x best) c ∙ counted-held (length buses) budget s best h

          pub attempt_dropped : true ≡ reaches q busy → Placed budget i l l buses buses best q (to_try b s)
          attempt_dropped d = record {
            loads_same = refl;
            buses_same = refl;
            rooms = r.rooms;
            is = rw (goes, test d) spent_is;
          }

          pub attempt_on : {l' buses' best' : List ℕ} {p : Progress} → false ≡ reaches q busy
              → Placed budget (i + 1) (set l b busy) l' (set buses i (b + 1)) buses' best' p
              (placed (table_time t) ws budget (length (set buses i (b + 1)) - (i + 1)) (i + 1) (set l b busy)
              (take (i + 1) (set buses i (b + 1)))
              (held_in (length (set buses i (b + 1))) budget q best))
              → Placed budget i l (set l' b (get_or l b 0)) buses buses' best' p (to_try b s)
          attempt_on {l'} {buses'} {best'} {p} d k =
              let n : length (set buses i (b + 1)) ≡ length buses = length-set buses i (b + 1) in
              let bs' = take i buses ++ (b + 1) ∷ [] in
              let f : take (i + 1) (set buses i (b + 1)) ≡ bs' = rw (add-one, take-suc-set buses i (b + 1) less) in
              let m = length buses - (i + 1) in
              record {
                loads_same = ap (λ x. set x b (get_or l b 0)) k.loads_same ∙ set_back l b busy;
                buses_same =
                    sym (take-take i (i + 1) buses' (omega arith)) ∙ ap (take i) k.buses_same
                    ∙ take-take i (i + 1) (set buses i (b + 1)) (omega arith) ∙ take-set-le i buses i (b + 1) (omega arith);
                rooms = k.rooms;
                is = rw (goes, test d)
                    (ap (λ x. held_in x budget p best') (sym n)
                    ∙ k.is
                    ∙ ap (λ x. placed (table_time t) ws budget (x - (i + 1)) (i + 1) (set l b busy) (take (i + 1) (set buses i (b + 1)))
                    (held_in x budget q best)) n
                    ∙ ap (λ x. placed (table_time t) ws budget m (i + 1) (set l b busy) x (held_by q)) f
                    ∙ ap (λ x. placed (table_time t) ws budget m (i + 1) (set l b busy) bs' x) spent_is
                    ∙ ap (λ x. placed (table_time t) ws budget m (i + 1) (set l b x) bs' (counted (held_by s))) e);
              }

-- ---- the buses one by one
module _ {t ws : List ℕ} {budget i : ℕ} {l₀ buses₀ best₀ : List ℕ} {s₀ : Progress} {l buses best : List ℕ} {s : Progress} {b : ℕ}
    (f : Left t ws budget i l₀ buses₀ best₀ s₀ l buses best s b) where
  abbrev next : ℕ → Sought → Sought
  next = attempted (table_time t) ws budget (length buses₀ - (i + 1)) i l₀ (take i buses₀)

  pub left-tried : {l' buses' best' : List ℕ} {s' : Progress} → b < length ws
      → Placed budget i l l' buses buses' best' s' (attempted (table_time t) ws budget (length buses - (i + 1)) i l (take i buses) b
      (held_in (length buses) budget s best))
      → length buses' ≡ length buses
      → Left t ws budget i l₀ buses₀ best₀ s₀ l' buses' best' s' (b + 1)
  left-tried h p n = record {
    upto = omega arith;
    loads_same = p.loads_same ∙ f.loads_same;
    buses_length = n ∙ f.buses_length;
    buses_same = p.buses_same ∙ f.buses_same;
    rooms = p.rooms;
    is =
        f.is ∙ each_step (length ws) b next (held_in (length buses₀) budget s best) h
        ∙ ap (each (length ws - (b + 1)) (b + 1) next) (sym (rw (f.loads_same, f.buses_same, f.buses_length) at p.is));
  }

  pub left_end : length ws ≤ b
      → Placed budget i l₀ l buses₀ buses best s
      (placed (table_time t) ws budget (length buses₀ - i) i l₀ (take i buses₀) (held_in (length buses₀) budget s₀ best₀))
  left_end h = record {
    loads_same = f.loads_same;
    buses_same = f.buses_same;
    rooms = f.rooms;
    is = sym (f.is ∙ each_none (length ws) b next (held_in (length buses₀) budget s best) h);
  }

-- ---- no module has a bus
pub ready_first : {t ws : List ℕ} {budget : ℕ} {buses best : List ℕ} → AreTimes t (length buses) → AreWidths ws → budget ≤ budget_max
    → Rooms best → Ready t ws budget 0 0 (replicate (length ws) 0) buses best
ready_first {ws = ws} table widths limit rooms = record {
  table = table;
  widths = widths;
  limit = limit;
  upto = omega arith;
  room = length-replicate (length ws) 0;
  rooms = rooms;
  loads_most = λ b. let z = zeros-at (length ws) b in omega arith;
  top_most = omega arith;
  top_is = sym (largest-zeros (length ws));
}
