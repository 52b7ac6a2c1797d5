-- The first plan of least cost, found from the least costs: it stands on the first list of widths whose least cost is the least of all,
-- with the first placement on it that costs no more. For any cost of plans. Assumes nothing.
use Prim.Native.Nat.{ℕ, zero, suc, ◌-◌, ◌≤◌, ◌<◌, min, max}
use mathlib.Core.Path.{◌≡◌, refl, sym, ap, ◌∙◌}
use mathlib.Core.Bool.{Bool, true, false, cond}
use mathlib.Core.List.{List, [], ◌∷◌, ◌++◌, map, append_assoc, Memᴰ}
use native.Mathlib.Omega.{arith}
use lib.ListN.{length, get_or, replicate}
use lib.Dec.{ltb, leb}
use borrow.Author.Tests.{ltb-true, ltb-false, lt-ltb, le-ltb, leb-true, leb-false, le-leb}
use Rattle.plan_rules.specs.Plans.{Plan, IsPlan, time_of}
use Rattle.plan_rules.specs.Listed.{upward, width_lists, placements, plan, plans_on, first_least, first_of, best_of, best_plan}
use Rattle.plan_rules.proofs.ListLaws.{upward_of}
use Rattle.plan_rules.proofs.ListedLaws.{widths_sound, width_lists-one, placements-one, placements_sound, placements_complete, some}
use Rattle.plan_rules.proofs.LeastLaws.{least-same}
use Rattle.plan_rules.proofs.SkipLaws.{least-append}
use Rattle.plan_rules.proofs.AllLaws.{all_le, all-lower}
use Rattle.plan_rules.specs.Least.{least_all, cost_on, least_by, least_on, Kept, keep, keep_lists, all_lists, first_within, Stands, Reached}
use Rattle.plan_rules.specs.Reordered.{Narrow, InOrder}
use Rattle.plan_rules.proofs.ReorderLaws.{order_old, least-order, widths-narrow}
use Rattle.plan_rules.proofs.FromLaws.{at_sum}
use Rattle.plan_rules.proofs.Demand.{best-first}

-- the placements on buses of one list of widths, behind a plan p
module _ (time : Plan → ℕ) (f : List ℕ → Plan) where
  abbrev key : List ℕ → ℕ
  key x = time (f x)

  -- what they leave takes the least time,
  group-time : (p : Plan) (xs : List (List ℕ)) → least_all key (time p) xs ≡ time (first_least time p (map f xs))
  unfolding least_all first_least
  group-time p [] = refl
  group-time p (x ∷ xs) = pick (group-time (f x) xs) (group-time p xs) (ltb (key x) (time p)) refl
    where
      pick : least_all key (key x) xs ≡ time (first_least time (f x) (map f xs))
          → least_all key (time p) xs ≡ time (first_least time p (map f xs))
          → (t : Bool) → ltb (key x) (time p) ≡ t → least_all key (min (time p) (key x)) xs ≡ time
          (cond t (first_least time (f x) (map f xs)) (first_least time p (map f xs)))
      pick a b true e = let m : min (time p) (key x) ≡ key x = omega (arith, ltb-true (key x) (time p) e) in rw m a
      pick a b false e = let m : min (time p) (key x) ≡ time p = omega (arith, ltb-false (key x) (time p) e) in rw m b

  within-at : (r : Plan) (x : List ℕ) (xs : List (List ℕ)) → (key x ≤ time r → r ≡ f x)
      → (time r < key x → r ≡ f (first_within key (time r) xs)) → r ≡ f (first_within key (time r) (x ∷ xs))
  unfolding first_within
  within-at r x xs a b = pick (leb (key x) (time r)) refl
    where
      pick : (t : Bool) → leb (key x) (time r) ≡ t → r ≡ f (cond t x (first_within key (time r) xs))
      pick true e = a (leb-true (key x) (time r) e)
      pick false e = b (leb-false (key x) (time r) e)

  -- and where that is less than p's it is the first of them that takes no more
  group-first : (p : Plan) (xs : List (List ℕ)) → time (first_least time p (map f xs)) < time p
      → first_least time p (map f xs) ≡ f (first_within key (time (first_least time p (map f xs))) xs)
  unfolding first_least
  group-first p [] h = absurd (omega arith)
  group-first p (x ∷ xs) h = pick (first_least time (f x) (map f xs)) (first_least time p (map f xs)) (least-same time (f x) (map f xs)) (group-first (f x) xs) (group-first p xs) (ltb (key x) (time p)) refl h
    where
      pick : (r q : Plan) → (key x ≤ time r → r ≡ f x) → (time r < key x → r ≡ f (first_within key (time r) xs))
          → (time q < time p → q ≡ f (first_within key (time q) xs))
          → (t : Bool) → ltb (key x) (time p) ≡ t → time (cond t r q) < time p → cond t r q ≡ f
          (first_within key (time (cond t r q)) (x ∷ xs))
      pick r q s a b true e k = within-at r x xs s a
      pick r q s a b false e k = within-at q x xs (λ l. absurd (omega (arith, ltb-false (key x) (time p) e))) (λ l. b k)

-- the plans on each of these lists of widths
on_lists : ℕ → List (List ℕ) → List Plan
on_lists n [] = []
on_lists n (ws ∷ wss) = map (plan ws) (placements n (length ws)) ++ on_lists n wss

on_append : (n : ℕ) (wss vss : List (List ℕ)) → on_lists n (wss ++ vss) ≡ on_lists n wss ++ on_lists n vss
unfolding on_lists
on_append n [] vss = refl
on_append n (ws ∷ wss) vss = rw (on_append n wss vss) (sym (append_assoc (map (plan ws) (placements n (length ws))) (on_lists n wss) (on_lists n vss)))

on_same : (n c : ℕ) (wss : List (List ℕ)) → ((ws : List ℕ) → Memᴰ ws wss → length ws ≡ c) → plans_on n c wss ≡ on_lists n wss
unfolding on_lists plans_on
on_same n c [] h = refl
on_same n c (ws ∷ wss) h = rw (h ws (Memᴰ.head refl), on_same n c wss (λ vs m. h vs (Memᴰ.tail m)))

on_upward : (n W k i : ℕ) → upward k i (λ c. plans_on n c (width_lists c 1 W)) ≡ on_lists n (upward k i (λ c. width_lists c 1 W))
unfolding upward on_lists
on_upward n W zero i = refl
on_upward n W (suc k) i =
    rw (on_same n i (width_lists i 1 W) (λ ws m. (widths_sound i 1 W ws m).count), on_upward n W k (suc i))
    (sym (on_append n (width_lists i 1 W) (upward k (suc i) (λ c. width_lists c 1 W))))

module _ (cost : Plan → ℕ) (n : ℕ) where
  -- one more list of widths
  stands_more : (k : Kept) (p : Plan) (ws : List ℕ) → Stands cost n k p
      → Stands cost n (keep (least_by cost n) k ws) (first_least (cost) p (map (plan ws) (placements n (length ws))))
  unfolding keep least_by
  stands_more k p ws s =
      let e = group-time (cost) (plan ws) p (placements n (length ws)) in
      pick (first_least (cost) p (map (plan ws) (placements n (length ws)))) (least_all (cost_on cost ws) k.time (placements n (length ws)))
      (rw s.time_is at e) (least-same (cost) p (map (plan ws) (placements n (length ws)))) (group-first (cost) (plan ws) p (placements n (length ws)))
      (ltb (least_all (cost_on cost ws) k.time (placements n (length ws))) k.time) refl
    where
      pick : (r : Plan) (t : ℕ) → t ≡ cost r → (cost p ≤ cost r → r ≡ p)
          → (cost r < cost p → r ≡ plan ws (first_within (cost_on cost ws) (cost r) (placements n (length ws))))
          → (b : Bool) → ltb t k.time ≡ b → Stands cost n (cond b (record { time = t; widths = ws }) k) r
      pick r t e a g true c = record { time_is = sym e; plan_is = rw e (g (omega (arith, ltb-true t k.time c, s.time_is, e))) }
      pick r t e a g false c = rw (a (omega (arith, ltb-false t k.time c, s.time_is, e))) s

  stands_all : (k : Kept) (p : Plan) (wss : List (List ℕ)) → Stands cost n k p
      → Stands cost n (keep_lists (least_by cost n) k wss) (first_least (cost) p (on_lists n wss))
  unfolding keep_lists on_lists first_least
  stands_all k p [] s = s
  stands_all k p (ws ∷ wss) s =
      rw (least-append (cost) p (map (plan ws) (placements n (length ws))) (on_lists n wss))
      (stands_all (keep (least_by cost n) k ws) (first_least (cost) p (map (plan ws) (placements n (length ws)))) wss (stands_more k p ws s))

-- the least times of the lists of widths may come from elsewhere, as from the modules in another order
pub keep_same : (f g : List ℕ → ℕ → ℕ) (k : Kept) (wss : List (List ℕ)) → ((ws : List ℕ) → Memᴰ ws wss → (t : ℕ) → f ws t ≡ g ws t)
    → keep_lists f k wss ≡ keep_lists g k wss
unfolding keep_lists keep
keep_same f g k [] h = refl
keep_same f g k (ws ∷ wss) h = rw (h ws (Memᴰ.head refl) k.time) (keep_same f g (keep g k ws) wss (λ vs m. h vs (Memᴰ.tail m)))

-- the least is at most what was known
pub least_le : (cost : Plan → ℕ) (n : ℕ) (ws : List ℕ) (t : ℕ) → least_by cost n ws t ≤ t
unfolding least_by
least_le cost n ws t = all_le (cost_on cost ws) t (placements n (length ws))

-- a step of the search over the lists of widths
pub keep-next : (least : List ℕ → ℕ → ℕ) (k k' : Kept) (ws : List ℕ) (wss : List (List ℕ)) → keep least k ws ≡ k'
    → keep_lists least k (ws ∷ wss) ≡ keep_lists least k' wss
unfolding keep_lists
keep-next least k k' ws wss e = ap (λ (m : Kept). keep_lists least m wss) e

-- the lists may be looked at in two stretches
pub keep_append : (least : List ℕ → ℕ → ℕ) (k : Kept) (xs ys : List (List ℕ))
    → keep_lists least k (xs ++ ys) ≡ keep_lists least (keep_lists least k xs) ys
unfolding keep_lists
keep_append least k [] ys = refl
keep_append least k (x ∷ xs) ys = keep_append least (keep least k x) xs ys

-- lists on which nothing less is found may be skipped
pub keep-none : (least : List ℕ → ℕ → ℕ) (k : Kept) (wss : List (List ℕ))
    → ((ws : List ℕ) → Memᴰ ws wss → least ws k.time ≡ k.time) → keep_lists least k wss ≡ k
unfolding keep_lists keep
keep-none least k [] h = refl
keep-none least k (ws ∷ wss) h =
    let e : ltb (least ws k.time) k.time ≡ false = le-ltb (least ws k.time) k.time (omega (arith, h ws (Memᴰ.head refl))) in
    rw e (keep-none least k wss (λ vs m. h vs (Memᴰ.tail m)))

-- what is kept is no more than what was kept before
pub keep_le : (least : List ℕ → ℕ → ℕ) (k : Kept) (wss : List (List ℕ)) → (keep_lists least k wss).time ≤ k.time
unfolding keep_lists keep
keep_le least k [] = omega arith
keep_le least k (ws ∷ wss) = pick (keep_le least (record { time = least ws k.time; widths = ws }) wss) (keep_le least k wss) (ltb (least ws k.time) k.time) refl
  where
    new : Kept
    new = record { time = least ws k.time; widths = ws }

    pick : (keep_lists least new wss).time ≤ least ws k.time → (keep_lists least k wss).time ≤ k.time → (b : Bool)
        → ltb (least ws k.time) k.time ≡ b
        → (keep_lists least (cond b new k) wss).time ≤ k.time
    pick p q true e = omega (arith, ltb-true (least ws k.time) k.time e)
    pick p q false e = q

-- a search may begin at any time above the least
pub keep-start-lower : (least : List ℕ → ℕ → ℕ) → ((ws : List ℕ) (t s : ℕ) → t ≤ s → least ws t ≡ min t (least ws s))
    → (k k' : Kept)
    (wss : List (List ℕ)) → k'.time ≤ k.time → (keep_lists least k wss).time < k'.time → keep_lists least k' wss ≡ keep_lists least k wss
unfolding keep_lists keep
keep-start-lower least lower k k' [] h l = absurd (omega arith)
keep-start-lower least lower k k' (ws ∷ wss) h l =
    pick (keep-start-lower least lower (found k) k' wss) (keep-start-lower least lower k k' wss h) (ltb (least ws k.time) k.time) refl (ltb (least ws k'.time) k'.time) refl l
  where
    found : Kept → Kept
    found k = record { time = least ws k.time; widths = ws }

    pick : (k'.time ≤ least ws k.time → (keep_lists least (found k) wss).time < k'.time → keep_lists least k' wss ≡ keep_lists least (found k) wss)
        → ((keep_lists least k wss).time < k'.time → keep_lists least k' wss ≡ keep_lists least k wss)
        → (a : Bool) → ltb (least ws k.time) k.time ≡ a → (b : Bool) → ltb (least ws k'.time) k'.time ≡ b
        → (keep_lists least (cond a (found k) k) wss).time < k'.time → keep_lists least (cond b (found k') k') wss ≡ keep_lists least
        (cond a (found k) k) wss
    pick p q true e true f m =
        let g : least ws k'.time ≡ least ws k.time = omega (arith, lower ws k'.time k.time h, ltb-true (least ws k'.time) k'.time f) in
        ap (λ (t : ℕ). keep_lists least (record { time = t; widths = ws }) wss) g
    pick p q true e false f m = p (omega (arith, lower ws k'.time k.time h, ltb-false (least ws k'.time) k'.time f)) m
    pick p q false e true f m = absurd (omega (arith, lower ws k'.time k.time h, ltb-true (least ws k'.time) k'.time f, ltb-false (least ws k.time) k.time e))
    pick p q false e false f m = q m

-- all lists of widths: the first has one bus with all the wires
lists_some : (W B : ℕ) → 1 ≤ W → 1 ≤ B → all_lists W B ≡ (W ∷ []) ∷ upward (min B W - 1) 2 (λ c. width_lists c 1 W)
unfolding all_lists upward
lists_some W B h k =
    let e : min B W ≡ suc (min B W - 1) = omega arith in
    ap (λ m. upward m 1 (λ c. width_lists c 1 W)) e ∙ rw (width_lists-one W h)

pub lists_narrow : (W B : ℕ) (ws : List ℕ) → Memᴰ ws (all_lists W B) → Narrow W ws
unfolding all_lists
lists_narrow W B ws m = let u = upward_of (min B W) 1 (λ c. width_lists c 1 W) ws m in widths-narrow u.0 W ws u.3

-- one bus has one placement, and its time is the least
keep-start : (cost : Plan → ℕ) (n W : ℕ) (k : Kept) → cost_on cost (W ∷ []) (replicate n 1) < k.time
    → keep (least_by cost n) k (W ∷ []) ≡ record { time = cost_on cost (W ∷ []) (replicate n 1); widths = W ∷ [] }
unfolding keep least_by least_all
keep-start cost n W k h =
    let t = cost_on cost (W ∷ []) (replicate n 1) in
    let e : min k.time t ≡ t = omega arith in
    rw (placements-one n, e, lt-ltb t k.time h)

stands_start : (cost : Plan → ℕ) (n W : ℕ)
    → Stands cost n (record { time = cost_on cost (W ∷ []) (replicate n 1); widths = W ∷ [] }) (plan (W ∷ []) (replicate n 1))
unfolding first_within
stands_start cost n W =
    let t = cost_on cost (W ∷ []) (replicate n 1) in
    record { time_is = refl; plan_is = rw (placements-one n, le-leb t t (omega arith)) }

module _ (cost : Plan → ℕ) (W B n : ℕ) (wires : 1 ≤ W) (buses : 1 ≤ B) where
  -- the first plan of least time stands on the first list of widths of least time, with the first placement on it that takes no more; k
  -- is what is held before the search, a time above that of the first plan
  pub best_stands : (k : Kept) → cost_on cost (W ∷ []) (replicate n 1) < k.time
      → Stands cost n (keep_lists (least_by cost n) k (all_lists W B)) (best_of cost W B n)
  unfolding best_of first_of
  best_stands k h =
      let k' : Kept = record { time = cost_on cost (W ∷ []) (replicate n 1); widths = W ∷ [] } in
      let wss = upward (min B W - 1) 2 (λ c. width_lists c 1 W) in
      rw (lists_some W B wires buses, some W B n wires buses, on_upward n W (min B W - 1) 2, keep-next (least_by cost n) k k' (W ∷ []) wss (keep-start cost n W k h))
      (stands_all cost n k' (plan (W ∷ []) (replicate n 1)) wss (stands_start cost n W))

  -- so it does where what is held before the search is a time above that of the first plan of least cost
  pub best-below : (k : Kept) → cost (best_of cost W B n) < k.time
      → Stands cost n (keep_lists (least_by cost n) k (all_lists W B)) (best_of cost W B n)
  unfolding least_by
  best-below k h =
      let one = cost_on cost (W ∷ []) (replicate n 1) in
      let k₀ : Kept = record { time = max k.time (suc one); widths = k.widths } in
      let s = best_stands k₀ (omega arith) in
      rw (keep-start-lower (least_by cost n) (λ ws t u. all-lower (cost_on cost ws) t u (placements n (length ws))) k₀ k (all_lists W B) (omega arith) (omega (arith, s.time_is))) s

module _ (time : ℕ → ℕ → ℕ) (W B n : ℕ) (wires : 1 ≤ W) (buses : 1 ≤ B) where
  -- with the time as the cost, and the modules in another order
  pub best-below-order : (top : ℕ) (order : List ℕ) (new : ℕ → ℕ → ℕ) → W ≤ top → InOrder n top order time new → (k : Kept)
      → time_of time (best_plan time W B n) < k.time
      → Stands (time_of time) n (keep_lists (least_on new n) k (all_lists W B)) (best_plan time W B n)
  best-below-order top order new h r k a =
      rw (keep_same (least_on new n) (least_on time n) k (all_lists W B) (λ ws m. least-order n top order time new r ws (λ j i. let o = lists_narrow W B ws m j i in (o.0, omega (arith, o.1))))) (best-below (time_of time) W B n wires buses k a)

  -- a time that some plan takes, with the modules in another order, is at least the least
  pub reached-best : (top : ℕ) (order : List ℕ) (new : ℕ → ℕ → ℕ) (t : ℕ) → W ≤ top → InOrder n top order time new → Reached new W B n t
      → time_of time (best_plan time W B n) ≤ t
  reached-best top order new t h r a =
      let p = a.reached in
      let i = a.is_plan in
      let m = placements_complete n (length p.widths) p.buses (record { placed = i.placed; low = i.low; high = i.high }) in
      let u = order_old n top order time new r p.widths (λ j k. plan-narrow i j k) p.buses m in
      let s = placements_sound n (length p.widths) u.0 u.1 in
      let q : IsPlan W B n (plan p.widths u.0) = record {
        some = i.some;
        limit = i.limit;
        wide = i.wide;
        rising = i.rising;
        wires = i.wires;
        placed = s.placed;
        low = s.low;
        high = s.high;
      } in
      omega (arith, (best-first (time_of time) W B n wires buses).least (plan p.widths u.0) q, u.2, a.takes)
    where
      plan-narrow : IsPlan W B n a.reached → (j : ℕ) → j < length a.reached.widths
          → (1 ≤ get_or a.reached.widths j 0) × (get_or a.reached.widths j 0 ≤ top)
      plan-narrow i j k = (i.wide j k, omega (arith, i.wires, at_sum a.reached.widths j))
