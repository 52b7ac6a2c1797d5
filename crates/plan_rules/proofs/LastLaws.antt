-- The last search: on the list of widths that was kept, in ascending order of the modules, from one above the time that was kept.
-- Assumes nothing.
use Prim.Native.Nat.{ℕ, suc, ◌≤◌, ◌<◌, min}
use mathlib.Core.Path.{◌≡◌, refl, sym, ap, ◌∙◌}
use mathlib.Core.Bool.{Bool, true, false, cond}
use mathlib.Core.List.{List, [], ◌∷◌, Memᴰ}
use native.Mathlib.Omega.{arith}
use lib.ListN.{length, get_or}
use lib.Dec.{ltb, leb}
use borrow.Author.Tests.{ltb-true, ltb-false, le-ltb, leb-true, leb-false}
use Rattle.plan_rules.specs.Plans.{Plan, IsPlan}
use Rattle.plan_rules.specs.Listed.{placements, plan, best_of}
use Rattle.plan_rules.proofs.ListedLaws.{placements_sound, placements_complete}
use Rattle.plan_rules.proofs.Demand.{best-first}
use Rattle.plan_rules.specs.Least.{least_all, cost_on, Kept, first_within, Stands, keep_all}
use Rattle.plan_rules.proofs.AllLaws.{all_le, all_in, all_ge}

module _ (key : List ℕ → ℕ) where
  -- the time that is kept is the least
  pub keep-all-time : (b : List ℕ) (xs : List (List ℕ)) → get_or (keep_all key b xs) 0 0 ≡ least_all key (get_or b 0 0) xs
  unfolding keep_all least_all
  keep-all-time b [] = refl
  keep-all-time b (x ∷ xs) = pick (keep-all-time (key x ∷ x) xs) (keep-all-time b xs) (ltb (key x) (get_or b 0 0)) refl
    where
      pick : get_or (keep_all key (key x ∷ x) xs) 0 0 ≡ least_all key (key x) xs → get_or (keep_all key b xs) 0 0 ≡ least_all key (get_or b 0 0) xs
          → (t : Bool) → ltb (key x) (get_or b 0 0) ≡ t → get_or (cond t (keep_all key (key x ∷ x) xs) (keep_all key b xs)) 0 0 ≡ least_all key
          (min (get_or b 0 0) (key x)) xs
      pick p q true e = let m : min (get_or b 0 0) (key x) ≡ key x = omega (arith, ltb-true (key x) (get_or b 0 0) e) in rw m p
      pick p q false e = let m : min (get_or b 0 0) (key x) ≡ get_or b 0 0 = omega (arith, ltb-false (key x) (get_or b 0 0) e) in rw m q

  keep-all-none : (b : List ℕ) (xs : List (List ℕ)) → ((x : List ℕ) → Memᴰ x xs → get_or b 0 0 ≤ key x) → keep_all key b xs ≡ b
  unfolding keep_all
  keep-all-none b [] h = refl
  keep-all-none b (x ∷ xs) h = rw (le-ltb (key x) (get_or b 0 0) (h x (mathlib.Core.List.Memᴰ.head refl))) (keep-all-none b xs (λ y m. h y (mathlib.Core.List.Memᴰ.tail m)))

  -- and where it is less than at the start, the placement is the first that takes no more
  pub keep-all-first : (b : List ℕ) (xs : List (List ℕ)) (T : ℕ) → least_all key (get_or b 0 0) xs ≡ T → T < get_or b 0 0
      → keep_all key b xs ≡ T ∷ first_within key T xs
  unfolding keep_all least_all first_within
  keep-all-first b [] T e h = absurd (omega arith)
  keep-all-first b (x ∷ xs) T e h = pick (keep-all-first (key x ∷ x) xs T) (keep-all-first b xs T) (ltb (key x) (get_or b 0 0)) refl (leb (key x) T) refl
    where
      pick : (least_all key (key x) xs ≡ T → T < key x → keep_all key (key x ∷ x) xs ≡ T ∷ first_within key T xs)
          → (least_all key (get_or b 0 0) xs ≡ T → T < get_or b 0 0 → keep_all key b xs ≡ T ∷ first_within key T xs)
          → (t : Bool) → ltb (key x) (get_or b 0 0) ≡ t → (s : Bool) → leb (key x) T ≡ s → cond t (keep_all key (key x ∷ x) xs)
          (keep_all key b xs) ≡ T ∷ cond s x (first_within key T xs)
      pick p q true f true g =
          let m : min (get_or b 0 0) (key x) ≡ key x = omega (arith, ltb-true (key x) (get_or b 0 0) f) in
          let l : least_all key (key x) xs ≡ T = rw m at e in
          let z : key x ≡ T = omega (arith, all_le key (key x) xs, leb-true (key x) T g) in
          keep-all-none (key x ∷ x) xs (λ y n. omega (arith, all_in key (key x) xs y n)) ∙ ap (λ (v : ℕ). v ∷ x) z
      pick p q true f false g =
          let m : min (get_or b 0 0) (key x) ≡ key x = omega (arith, ltb-true (key x) (get_or b 0 0) f) in
          p (rw m at e) (leb-false (key x) T g)
      pick p q false f true g = absurd (omega (arith, ltb-false (key x) (get_or b 0 0) f, leb-true (key x) T g))
      pick p q false f false g =
          let m : min (get_or b 0 0) (key x) ≡ get_or b 0 0 = omega (arith, ltb-false (key x) (get_or b 0 0) f) in
          q (rw m at e) h

module _ (cost : Plan → ℕ) (W B n : ℕ) (wires : 1 ≤ W) (buses : 1 ≤ B) (k : Kept) (s : Stands cost n k (best_of cost W B n)) where
  widths-are : (best_of cost W B n).widths ≡ k.widths
  widths-are = ap (λ (p : Plan). p.widths) s.plan_is

  -- a plan on these widths
  plan_on : (bs : List ℕ) → Memᴰ bs (placements n (length k.widths)) → IsPlan W B n (plan k.widths bs)
  plan_on bs m =
      let r = (best-first cost W B n wires buses).is_plan in
      let p = placements_sound n (length k.widths) bs m in
      let l : length (best_of cost W B n).widths ≡ length k.widths = ap length widths-are in
      record {
        some = rw l at r.some;
        limit = rw l at r.limit;
        wide = rw widths-are at r.wide;
        rising = rw widths-are at r.rising;
        wires = rw widths-are at r.wires;
        placed = p.placed;
        low = p.low;
        high = p.high;
      }

  last-least : least_all (cost_on cost k.widths) (suc k.time) (placements n (length k.widths)) ≡ k.time
  last-least =
      let r = (best-first cost W B n wires buses).is_plan in
      let bs = (best_of cost W B n).buses in
      let xs = placements n (length k.widths) in
      let m : Memᴰ bs xs = placements_complete n (length k.widths) bs (record { placed = r.placed; low = r.low; high = λ i h. omega (arith, r.high i h, ap length widths-are) }) in
      let e : cost_on cost k.widths bs ≡ k.time = rw (← widths-are) s.time_is in
      omega (
        arith,
        all_in (cost_on cost k.widths) (suc k.time) xs bs m,
        all_ge (cost_on cost k.widths) (suc k.time) k.time xs (omega arith)
            (λ cs o. omega (arith, s.time_is, (best-first cost W B n wires buses).least (plan k.widths cs) (plan_on cs o))),
      )

  -- what is kept from one above that time on is the first plan of least time
  pub last_search : (b : List ℕ) → get_or b 0 0 ≡ suc k.time
      → keep_all (cost_on cost k.widths) b (placements n (length k.widths)) ≡ k.time ∷ (best_of cost W B n).buses
  last_search b e =
      keep-all-first (cost_on cost k.widths) b (placements n (length k.widths)) k.time (rw e last-least) (omega arith)
      ∙ ap (λ (v : List ℕ). k.time ∷ v) (sym (ap (λ (p : Plan). p.buses) s.plan_is))
