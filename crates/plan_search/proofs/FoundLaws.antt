-- Laws of what was found: the list of widths that is kept is that of the first plan of least time, and the first placement on it that
-- keeps to the time is its own. Assumes nothing.
use Prim.Native.Nat.{ℕ, suc, ◌+◌, ◌*◌, ◌≤◌, ◌<◌}
use mathlib.Core.Path.{◌≡◌, refl, sym, ap, ◌∙◌}
use mathlib.Core.List.{List, [], ◌∷◌}
use native.Mathlib.Omega.{arith}
use native.Mathlib.Nat.{mul-le-mul_right}
use lib.ListN.{length, get_or, take, drop, length-drop}
use lib.Seq.{length-take-le}
use Rattle.plan_rules.specs.Plans.{Plan, sum, busies, largest, time_of}
use Rattle.plan_rules.specs.Listed.{width_lists, plans_on, plans, placements, best_plan}
use Rattle.plan_rules.specs.Least.{least_on, Kept, keep_lists, all_lists, keep_all, Reached, Stands}
use Rattle.plan_rules.specs.Reordered.{InOrder}
use Rattle.plan_rules.proofs.ListLaws.{upward_of}
use Rattle.plan_rules.proofs.ListedLaws.{Widths, widths_sound, plans_on_of, complete}
use Rattle.plan_rules.proofs.Demand.{best-first}
use Rattle.plan_rules.proofs.FirstLaws.{best-below-order, reached-best}
use Rattle.plan_rules.proofs.LastLaws.{last_search}
use Rattle.plan_rules.proofs.BusyLaws.{busies-most}
use Rattle.plan_search.specs.Search.{search_buses, search_modules, row_places, time_bound, table_time, time_on, found_of, found_in, IsTable, AreWidths}
use Rattle.plan_search.specs.Order.{RowsIn}
use Rattle.plan_search.specs.Lists.{kept}

largest-sum : (xs : List ℕ) → largest xs ≤ sum xs
unfolding largest sum
largest-sum [] = omega arith
largest-sum (x ∷ xs) = omega (arith, largest-sum xs)

largest-most : (m : ℕ) (xs : List ℕ) → ((j : ℕ) → get_or xs j 0 ≤ m) → largest xs ≤ m
unfolding largest
largest-most m [] h = omega arith
largest-most m (x ∷ xs) h = omega (arith, h 0, largest-most m xs (λ j. h (suc j)))

-- no plan takes longer than this
pub time-most : {t : List ℕ} {n : ℕ} → IsTable t n → (p : Plan) → length p.buses ≡ n → time_of (table_time t) p ≤ search_modules * time_bound
unfolding time_of
time-most {t} {n} table p e =
    let few : length p.buses ≤ search_modules = rw e table.few in
    let m : length p.buses * time_bound ≤ search_modules * time_bound = mul-le-mul_right time_bound few in
    largest-most (search_modules * time_bound) (busies (table_time t) p.buses 1 p.widths)
    (λ j. omega (arith, m, busies-most (table_time t) time_bound table.times 1 j p.widths p.buses))

module _ (t : List ℕ) (W B n : ℕ) (wires : 1 ≤ W) (buses : 1 ≤ B) where
  abbrev best : Plan
  best = best_plan (table_time t) W B n

  best-listed : Widths (length best.widths) 1 W best.widths
  unfolding plans
  best-listed =
      let p = (best-first (time_of (table_time t)) W B n wires buses).is_plan in
      let u = upward_of (_) 1 (λ c. plans_on n c (width_lists c 1 W)) best (complete W B n best p) in
      let v = plans_on_of n u.0 (width_lists u.0 1 W) best u.3 in
      let r = widths_sound u.0 1 W best.widths v.0 in
      record { count = refl; wires = r.wires; rising = r.rising }

  -- a time that some plan takes, with the rows in another order, is the time of a search's start: what is kept from there on stands
  pub stands_from : {order new : List ℕ} (k : Kept) {k' : Kept} {bound : ℕ} → W ≤ row_places → length order ≡ n → RowsIn t order new
      → Reached (table_time new) W B n bound
      → k.time ≡ bound + 1 → k' ≡ keep_lists (least_on (table_time new) n) k (all_lists W B) → Stands (time_of (table_time t)) n k' best
  stands_from {order} {new} k {k'} {bound} narrow long r a e f =
      let i : InOrder n row_places order (table_time t) (table_time new) = rw long at r.in_order in
      let h = reached-best (table_time t) W B n wires buses row_places order (table_time new) bound narrow i a in
      rw f (best-below-order (table_time t) W B n wires buses row_places order (table_time new) narrow i k (omega arith))

  -- its widths can be placed on
  pub best-widths : W ≤ row_places → B ≤ search_buses → AreWidths best.widths
  best-widths narrow few =
      let p = (best-first (time_of (table_time t)) W B n wires buses).is_plan in
      record {
        some = p.some;
        few = omega (arith, p.limit);
        rising = best-listed.rising;
        narrow = omega (arith, largest-sum best.widths, best-listed.wires);
      }

  -- what the buffers hold where its widths are kept and its placement was found
  module _ (T : ℕ) (found : List ℕ) (s : Stands (time_of (table_time t)) n (kept T found) best) (count : get_or found 0 0 < length found) where
    pub found-widths : take (get_or found 0 0) (drop 1 found) ≡ best.widths
    found-widths = sym (ap (λ (p : Plan). p.widths) s.plan_is)

    pub found-count : get_or found 0 0 ≡ length best.widths
    found-count =
        let l : length (take (get_or found 0 0) (drop 1 found)) ≡ get_or found 0 0 = length-take-le (get_or found 0 0) (drop 1 found) (simp length-drop (omega arith)) in
        sym l ∙ ap length found-widths

    pub found-buses : {ws : List ℕ} (b : List ℕ) {b' : List ℕ} {m : ℕ} → ws ≡ take (get_or found 0 0) (drop 1 found) → m ≡ n
        → get_or b 0 0 ≡ suc T
        → b' ≡ keep_all (time_on t ws) b (placements m (length ws)) → b' ≡ T ∷ best.buses
    found-buses b e f h g = g ∙ rw (e, f) (last_search (time_of (table_time t)) W B n wires buses (kept T found) s b h)

    -- its time is that of a plan
    pub found-most : IsTable t n → T ≤ search_modules * time_bound
    found-most table = omega (arith, s.time_is, time-most table best (best-first (time_of (table_time t)) W B n wires buses).is_plan.placed)

    pub found-is : (b : List ℕ) → b ≡ T ∷ best.buses → found_in b found ≡ found_of (table_time t) best
    found-is b e = rw (e, found-widths, found-count, s.time_is)
