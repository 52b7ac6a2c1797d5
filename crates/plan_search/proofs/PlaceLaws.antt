-- Laws of placing one module: what is left to try while its buses are tried in turn, and what a turn does to it. Assumes nothing.
use Prim.Native.Nat.{ℕ, ◌+◌, ◌-◌, ◌*◌, ◌≤◌, ◌<◌, max}
use mathlib.Core.Path.{◌≡◌, refl, sym, ap, ◌∙◌, subst}
use mathlib.Core.List.Memᴰ
use mathlib.Core.List.{List, [], ◌∷◌, ◌++◌, map, map-id, append-nil}
use native.Mathlib.Omega.{arith}
use native.Mathlib.Numerals.{add-one}
use lib.ListN.{length, get_or, take, set, replicate, length-set}
use lib.Seq.{take-suc-set, take-set-le, take-take, take-length, length-take-le, set-set, set-get_or}
use Rattle.plan_rules.specs.Plans.{busies, largest, time_of}
use Rattle.plan_rules.specs.Listed.{upward, placements}
use Rattle.plan_rules.specs.Least.{keep_all}
use Rattle.plan_search.specs.Search.{search_modules, row_places, time_on, table_time, time_bound, TimeIn, Ready, Placed}
use Rattle.plan_rules.proofs.BusyLaws.{largest_grows, length-busies, busies-one, busies-most, largest-set, busies-none, largest-zeros}
use Rattle.plan_search.proofs.SearchLaws.{keep_append, keep-none, keep_one, upward_step, upward-end, tries, placements-more}

-- while module i is placed: the buses from b on are left to try
pub record Left (t ws : List ℕ) (i : ℕ) (loads₀ buses₀ best₀ loads buses best : List ℕ) (b : ℕ) : Type 0 where
  pub upto : b ≤ length ws
  pub loads_same : loads ≡ loads₀
  pub buses_length : length buses ≡ length buses₀
  pub best_length : length best ≡ length best₀
  pub buses_same : take i buses ≡ take i buses₀
  pub best_is : keep_all (time_on t ws) best₀ (map (λ bs. take i buses₀ ++ bs) (placements (length buses₀ - i) (length ws)))
      ≡ keep_all (time_on t ws) best (upward (length ws - b) (b + 1) (tries (take i buses₀) (length buses₀ - (i + 1)) (length ws)))

module _ {t ws : List ℕ} {i top : ℕ} {loads₀ buses₀ best₀ : List ℕ} (r : Ready t ws i top loads₀ buses₀ best₀) where
  pub length_loads : length loads₀ ≡ length ws
  length_loads = ap length r.loads_are ∙ length-busies (table_time t) 1 ws (take i buses₀)

  pub load_most : (b : ℕ) → get_or loads₀ b 0 ≤ i * time_bound
  load_most b =
      let k : length (take i buses₀) ≡ i = length-take-le i buses₀ r.at in
      let e : get_or loads₀ b 0 ≡ get_or (busies (table_time t) (take i buses₀) 1 ws) b 0 = ap (λ l. get_or l b 0) r.loads_are in
      rw e (rw k at (busies-most (table_time t) time_bound r.times 1 b ws (take i buses₀)))

  pub time_in_lem : (b : ℕ) → i < length buses₀ → b < length ws → TimeIn t i (get_or ws b 0)
  time_in_lem b less h = record { low = (r.wide b h).0; high = (r.wide b h).1; entry = omega (arith, r.table) }

  -- every module has its bus
  pub placed-all : {best : List ℕ} → i ≡ length buses₀ → best ≡ top ∷ buses₀ → Placed t ws i loads₀ loads₀ buses₀ buses₀ best₀ best
  unfolding placements time_of
  placed-all e k =
      let z : length buses₀ - i ≡ 0 = omega arith in
      let p : take i buses₀ ≡ buses₀ = rw (e, take-length) in
      let s : time_on t ws buses₀ ≡ top = rw (← p) (sym (r.top_is ∙ ap largest r.loads_are)) in
      record {
        loads_same = refl;
        buses_same = refl;
        best_is = k ∙ sym (rw (z, p, append-nil) (keep_one (time_on t ws) best₀ buses₀ (omega (arith, r.below)) ∙ rw s));
      }

  module _ (less : i < length buses₀) where
    pub left-start : Left t ws i loads₀ buses₀ best₀ loads₀ buses₀ best₀ 0
    left-start = record {
      upto = omega arith;
      loads_same = refl;
      buses_length = refl;
      best_length = refl;
      buses_same = refl;
      best_is = ap (keep_all (time_on t ws) best₀) (placements-more (take i buses₀) (length buses₀) i (length ws) less);
    }

    module _ {loads buses best : List ℕ} {b : ℕ} (l : Left t ws i loads₀ buses₀ best₀ loads buses best b) where
      pub left_end : length ws ≤ b → Placed t ws i loads₀ loads buses₀ buses best₀ best
      unfolding keep_all
      left_end h = record {
        loads_same = l.loads_same;
        buses_same = l.buses_same;
        best_is = sym (l.best_is ∙ rw (upward-end (length ws) b (tries (take i buses₀) (length buses₀ - (i + 1)) (length ws)) h));
      }

      left-more : b < length ws
          → keep_all (time_on t ws) best₀ (map (λ bs. take i buses₀ ++ bs) (placements (length buses₀ - i) (length ws)))
          ≡ keep_all (time_on t ws) (keep_all (time_on t ws) best (tries (take i buses₀) (length buses₀ - (i + 1)) (length ws) (b + 1)))
          (upward (length ws - (b + 1)) (b + 1 + 1) (tries (take i buses₀) (length buses₀ - (i + 1)) (length ws)))
      left-more h =
          let f = tries (take i buses₀) (length buses₀ - (i + 1)) (length ws) in
          l.best_is ∙ ap (keep_all (time_on t ws) best) (upward_step (length ws) b f h)
          ∙ keep_append (time_on t ws) best (f (b + 1)) (upward (length ws - (b + 1)) (b + 1 + 1) f)

      next-buses : take (i + 1) (set buses i (b + 1)) ≡ take i buses₀ ++ (b + 1) ∷ []
      next-buses = rw (add-one i) (take-suc-set buses i (b + 1) (omega (arith, l.buses_length)) ∙ rw l.buses_same)

      module _ {load next : ℕ} (h : b < length ws) (e : load ≡ get_or loads b 0 + table_time t i (get_or ws b 0)) (n : next ≡ max top load) where
        next_loads : set loads b load ≡ busies (table_time t) (take i buses₀ ++ (b + 1) ∷ []) 1 ws
        next_loads =
            let p : busies (table_time t) (take i buses₀) 1 ws ≡ loads = sym (l.loads_same ∙ r.loads_are) in
            let k : length (take i buses₀) ≡ i = length-take-le i buses₀ r.at in
            rw (busies-one (table_time t) 1 b ws (take i buses₀) (b + 1) h (omega arith), p, k, e)

        next_top : next ≡ largest (set loads b load)
        next_top =
            let q : top ≡ largest loads = r.top_is ∙ ap largest (sym l.loads_same) in
            let k : b < length loads = omega (arith, ap length l.loads_same, length_loads) in
            n ∙ rw q (sym (largest-set loads b load k (omega arith)))

        -- the try is made
        pub ready_next : next < get_or best 0 0 → Ready t ws (i + 1) next (set loads b load) (set buses i (b + 1)) best
        ready_next lower = record {
          table = simp length-set (omega (arith, r.table, l.buses_length));
          times = r.times;
          wide = r.wide;
          modules = simp length-set (omega (arith, r.modules, l.buses_length));
          at = simp length-set (omega (arith, l.buses_length));
          loads_are = rw next-buses next_loads;
          top_is = next_top;
          below = lower;
          room = simp length-set (omega (arith, r.room, l.buses_length, l.best_length));
        }

        pub left-tried : {loads' buses' best' : List ℕ}
            → Placed t ws (i + 1) (set loads b load) loads' (set buses i (b + 1)) buses' best best'
            → length buses' ≡ length (set buses i (b + 1)) → length best' ≡ length best
            → Left t ws i loads₀ buses₀ best₀ (set loads' b (get_or loads b 0)) buses' best' (b + 1)
        unfolding tries
        left-tried {loads'} {buses'} p u v =
            let s : length (set buses i (b + 1)) ≡ length buses₀ = simp length-set l.buses_length in
            record {
              upto = omega arith;
              loads_same = rw (p.loads_same, set-set loads b load (get_or loads b 0), set-get_or loads b 0) l.loads_same;
              buses_length = u ∙ s;
              best_length = v ∙ l.best_length;
              buses_same =
                  sym (take-take i (i + 1) buses' (omega arith)) ∙ ap (take i) p.buses_same
                  ∙ take-take i (i + 1) (set buses i (b + 1)) (omega arith)
                  ∙ take-set-le i buses i (b + 1) (omega arith)
                  ∙ l.buses_same;
              best_is = left-more h ∙ rw (p.best_is, s, next-buses);
            }

        -- the try is dropped
        dropped : get_or best 0 0 ≤ next
            → keep_all (time_on t ws) best (tries (take i buses₀) (length buses₀ - (i + 1)) (length ws) (b + 1)) ≡ best
        unfolding tries time_of
        dropped g =
            let q = take i buses₀ ++ (b + 1) ∷ [] in
            let w : next ≡ largest (busies (table_time t) q 1 ws) = next_top ∙ ap largest next_loads in
            keep-none (time_on t ws) best (map (λ bs. q ++ bs) (placements (length buses₀ - (i + 1)) (length ws)))
            (λ x m.
            let u = Memᴰ.of_map (λ bs. q ++ bs) (placements (length buses₀ - (i + 1)) (length ws)) m in
            subst (λ y. get_or best 0 0 ≤ time_on t ws y) u.2 (omega (arith, largest_grows (table_time t) 1 ws q u.0)))

        pub left_dropped : get_or best 0 0 ≤ next → Left t ws i loads₀ buses₀ best₀ loads buses best (b + 1)
        left_dropped g = record {
          upto = omega arith;
          loads_same = l.loads_same;
          buses_length = l.buses_length;
          best_length = l.best_length;
          buses_same = l.buses_same;
          best_is =
              left-more h
              ∙ ap (λ x. keep_all (time_on t ws) x (upward (length ws - (b + 1)) (b + 1 + 1) (tries (take i buses₀) (length buses₀ - (i + 1)) (length ws)))) (dropped g);
        }

-- no module is placed: the loads are zeros
pub ready_first : {t ws buses best : List ℕ} → length buses * row_places ≤ length t → ((j w : ℕ) → table_time t j w ≤ time_bound)
    → ((b : ℕ) → b < length ws → (1 ≤ get_or ws b 0) × (get_or ws b 0 ≤ row_places)) → length buses ≤ search_modules → 0 < get_or best 0 0 → length best ≡ length buses + 1
    → Ready t ws 0 0 (replicate (length ws) 0) buses best
ready_first {t} {ws} p q h m b l = record {
  table = p;
  times = q;
  wide = h;
  modules = m;
  at = omega arith;
  loads_are = sym (busies-none (table_time t) 1 ws);
  top_is = sym (largest-zeros (length ws));
  below = b;
  room = l;
}

-- and all placements are tried
pub placed_first : {t ws loads loads' buses buses' best best' : List ℕ} → Placed t ws 0 loads loads' buses buses' best best'
    → best' ≡ keep_all (time_on t ws) best (placements (length buses) (length ws))
placed_first {t} {ws} {buses = buses} {best = best} p =
    let z : length buses - 0 ≡ length buses = omega arith in
    p.best_is ∙ rw (z, map-id (placements (length buses) (length ws)))
