-- How the search runs: it is `searched_by` with its own tries; two searches with different tries run side by side; and a search goes through
-- the list of plans in its order. The last two are one induction each, over whatever is to be shown of a step. Assumes nothing.
use Prim.Native.Nat.{ℕ, zero, suc, ◌+◌, ◌≤◌, ◌<◌, min}
use mathlib.Core.Path.{◌≡◌, refl, sym, ap, ◌∙◌, subst}
use mathlib.Core.Bool.{cond}
use mathlib.Core.List.Memᴰ
use mathlib.Core.List.{List, [], ◌∷◌, ◌++◌, map, append-nil, append_assoc, Memᴰ}
use native.Mathlib.Omega.{arith}
use lib.ListN.{length, set, replicate, length-append}
use lib.Seq.{get_or-set_same}
use lib.Dec.{ltb}
use Rattle.plan_rules.specs.Plans.{Plan, busies, largest, time_of}
use Rattle.plan_rules.specs.Listed.{upward, width_lists, placements, plan, plans_on, plans}
use Rattle.plan_rules.proofs.BusyLaws.{length-busies, busies-one, busies-none, largest_grows, largest_le}
use Rattle.plan_rules.proofs.ListedLaws.{widths_sound}
use Rattle.budget_rules.specs.Tries.{Sought, reached, keep, counted, halted, each, busy_with, tried, begin}
use Rattle.budget_rules.specs.Tries.{placed, on_lists, on_counts, searched}
use Rattle.budget_rules.specs.Needed.{Trying, placed_by, lists_by, counts_by, searched_by}

-- how the search goes on where module i, with k behind it, has bus b
abbrev pub on_from : Trying → (ℕ → ℕ → ℕ) → List ℕ → ℕ → ℕ → List ℕ → List ℕ → ℕ → Sought → Sought
on_from one time ws k i l bs b = placed_by one time ws k (i + 1) (set l b (busy_with time ws i l b)) (bs ++ (b + 1) ∷ [])

-- the try of bus b for it
abbrev pub try_of : Trying → (ℕ → ℕ → ℕ) → List ℕ → ℕ → ℕ → List ℕ → List ℕ → ℕ → Sought → Sought
try_of one time ws k i l bs b = one (busy_with time ws i l b) (on_from one time ws k i l bs b)

-- ---- the search, by its tries
each_same : (f g : ℕ → Sought → Sought) → ((b : ℕ) (s : Sought) → f b s ≡ g b s) → (j b : ℕ) (s : Sought) → each j b f s ≡ each j b g s
unfolding each
each_same f g h zero b s = refl
each_same f g h (suc j) b s = rw (h b s) (each_same f g h j (b + 1) (g b s))

module _ (time : ℕ → ℕ → ℕ) (budget : ℕ) where
  placed_by_lem : (ws : List ℕ) (k i : ℕ) (l bs : List ℕ) (s : Sought)
      → placed time ws budget k i l bs s ≡ placed_by (tried budget) time ws k i l bs s
  unfolding placed placed_by
  placed_by_lem ws zero i l bs s = refl
  placed_by_lem ws (suc k) i l bs s =
      each_same
      (λ b. tried budget (busy_with time ws i l b)
      (λ r. placed time ws budget k (i + 1) (set l b (busy_with time ws i l b)) (bs ++ (b + 1) ∷ []) r))
      (try_of (tried budget) time ws k i l bs)
      (λ b q.
      ap (λ (r : Sought). cond (ltb q.tries budget) (cond (reached q.best (busy_with time ws i l b)) (counted q) r) (halted q))
      (placed_by_lem ws k (i + 1) (set l b (busy_with time ws i l b)) (bs ++ (b + 1) ∷ []) (counted q)))
      (length ws) 0 s

  lists_by_lem : (n : ℕ) (wss : List (List ℕ)) (s : Sought) → on_lists time budget n wss s ≡ lists_by (tried budget) time n wss s
  unfolding on_lists lists_by
  lists_by_lem n [] s = refl
  lists_by_lem n (ws ∷ wss) s =
      rw (placed_by_lem ws n 0 (replicate (length ws) 0) [] s)
      (lists_by_lem n wss (placed_by (tried budget) time ws n 0 (replicate (length ws) 0) [] s))

  counts_by_lem : (W n k c : ℕ) (s : Sought) → on_counts time W budget n k c s ≡ counts_by (tried budget) time W n k c s
  unfolding on_counts counts_by
  counts_by_lem W n zero c s = refl
  counts_by_lem W n (suc k) c s =
      rw (lists_by_lem n (width_lists c 1 W) s) (counts_by_lem W n k (suc c) (lists_by (tried budget) time n (width_lists c 1 W) s))

  pub searched_by_lem : (W B n : ℕ) → searched time W B n budget ≡ searched_by (tried budget) time W B n
  unfolding searched
  searched_by_lem W B n = counts_by_lem W n (min B W) 1 begin

-- ---- two searches side by side: F is to hold of the steps of both
pub record Pairs (F : (Sought → Sought) → (Sought → Sought) → Type 0) (one other : Trying) : Type 0 where
  pub stays : F (λ s. s) (λ s. s)
  pub goes : (f f' g g' : Sought → Sought) → F f f' → F g g' → F (λ s. g (f s)) (λ s. g' (f' s))
  pub keeps : (t : ℕ) (p : Plan) → F (λ s. keep s t p) (λ s. keep s t p)
  pub tries : (busy : ℕ) (on on' : Sought → Sought) → F on on' → F (one busy on) (other busy on')

module _ (F : (Sought → Sought) → (Sought → Sought) → Type 0) (one other : Trying) (r : Pairs F one other) where
  each_pairs : (f g : ℕ → Sought → Sought) → ((b : ℕ) → F (f b) (g b)) → (j b : ℕ) → F (each j b f) (each j b g)
  unfolding each
  each_pairs f g h zero b = r.stays
  each_pairs f g h (suc j) b = r.goes (f b) (g b) (each j (b + 1) f) (each j (b + 1) g) (h b) (each_pairs f g h j (b + 1))

  module _ (time : ℕ → ℕ → ℕ) where
    placed_pairs : (ws : List ℕ) (k i : ℕ) (l bs : List ℕ) → F (placed_by one time ws k i l bs) (placed_by other time ws k i l bs)
    unfolding placed_by
    placed_pairs ws zero i l bs = r.keeps (largest l) (plan ws bs)
    placed_pairs ws (suc k) i l bs =
        each_pairs (try_of one time ws k i l bs) (try_of other time ws k i l bs)
        (λ b.
        r.tries (busy_with time ws i l b) (on_from one time ws k i l bs b) (on_from other time ws k i l bs b)
        (placed_pairs ws k (i + 1) (set l b (busy_with time ws i l b)) (bs ++ (b + 1) ∷ [])))
        (length ws) 0

    lists_pairs : (n : ℕ) (wss : List (List ℕ)) → F (lists_by one time n wss) (lists_by other time n wss)
    unfolding lists_by
    lists_pairs n [] = r.stays
    lists_pairs n (ws ∷ wss) =
        r.goes (placed_by one time ws n 0 (replicate (length ws) 0) []) (placed_by other time ws n 0 (replicate (length ws) 0) [])
        (lists_by one time n wss) (lists_by other time n wss)
        (placed_pairs ws n 0 (replicate (length ws) 0) []) (lists_pairs n wss)

    pub counts_pairs : (W n k c : ℕ) → F (counts_by one time W n k c) (counts_by other time W n k c)
    unfolding counts_by
    counts_pairs W n zero c = r.stays
    counts_pairs W n (suc k) c =
        r.goes (lists_by one time n (width_lists c 1 W)) (lists_by other time n (width_lists c 1 W))
        (counts_by one time W n k (suc c)) (counts_by other time W n k (suc c))
        (lists_pairs n (width_lists c 1 W)) (counts_pairs W n k (suc c))

-- ---- a search beside the list of plans: G is to hold of a step and the plans that it goes through
pub record Walks (G : (Sought → Sought) → List Plan → Type 0) (one : Trying) (time : Plan → ℕ) : Type 0 where
  pub stays : G (λ s. s) []
  pub goes : (f g : Sought → Sought) (ps qs : List Plan) → G f ps → G g qs → G (λ s. g (f s)) (ps ++ qs)
  pub keeps : (p : Plan) → G (λ s. keep s (time p) p) (p ∷ [])
  -- no plan behind a try takes less than its bus is busy
  pub tries : (busy : ℕ) (on : Sought → Sought) (ps : List Plan) → ((p : Plan) → Memᴰ p ps → busy ≤ time p) → G on ps
      → G (one busy on) ps

map-append : (ws pre : List ℕ) (x : ℕ) (xss yss : List (List ℕ))
    → map (λ bs. plan ws (pre ++ bs)) (map (λ bs. x ∷ bs) xss ++ yss)
    ≡ map (λ bs. plan ws ((pre ++ x ∷ []) ++ bs)) xss ++ map (λ bs. plan ws (pre ++ bs)) yss
map-append ws pre x [] yss = refl
map-append ws pre x (xs ∷ xss) yss = rw (map-append ws pre x xss yss, append_assoc)

map-upward : (ws pre : List ℕ) (xss : List (List ℕ)) (n i : ℕ)
    → map (λ bs. plan ws (pre ++ bs)) (upward n i (λ x. map (λ bs. x ∷ bs) xss))
    ≡ upward n i (λ x. map (λ bs. plan ws ((pre ++ x ∷ []) ++ bs)) xss)
unfolding upward
map-upward ws pre xss zero i = refl
map-upward ws pre xss (suc n) i =
    map-append ws pre i xss (upward n (suc i) (λ x. map (λ bs. x ∷ bs) xss))
    ∙ ap (λ r. map (λ bs. plan ws ((pre ++ i ∷ []) ++ bs)) xss ++ r) (map-upward ws pre xss n (suc i))

-- a bus's busy figure with the module added is no higher than the time of any plan that places the rest
busy-within : (time : ℕ → ℕ → ℕ) (ws pre : List ℕ) (b : ℕ) (bss : List (List ℕ)) → b < length ws
    → (p : Plan) → Memᴰ p (map (λ bs. plan ws ((pre ++ suc b ∷ []) ++ bs)) bss)
    → busy_with time ws (length pre) (busies time pre 1 ws) b ≤ time_of time p
unfolding time_of
busy-within time ws pre b bss h p m =
    let u = Memᴰ.of_map (λ bs. plan ws ((pre ++ suc b ∷ []) ++ bs)) bss m in
    let v = busy_with time ws (length pre) (busies time pre 1 ws) b in
    let e = busies-one time 1 b ws pre (suc b) h (omega arith) in
    let s = get_or-set_same (busies time pre 1 ws) b v 0 (rw (length-busies time 1 ws pre) h) in
    let a : v ≤ largest (busies time (pre ++ suc b ∷ []) 1 ws) = rw e (omega (arith, s, largest_le (set (busies time pre 1 ws) b v) b)) in
    let g = largest_grows time 1 ws (pre ++ suc b ∷ []) u.0 in
    rw (← u.2) (omega (arith, a, g))

module _ (G : (Sought → Sought) → List Plan → Type 0) (one : Trying) (time : ℕ → ℕ → ℕ) (r : Walks G one (time_of time)) where
  each_walks : (f : ℕ → Sought → Sought) (g : ℕ → List Plan) (c : ℕ) → ((b : ℕ) → b < c → G (f b) (g (suc b))) → (j b : ℕ) → b + j ≡ c
      → G (each j b f) (upward j (suc b) g)
  unfolding each upward
  each_walks f g c h zero b e = r.stays
  each_walks f g c h (suc j) b e =
      let k : b + 1 ≡ suc b = omega arith in
      r.goes (f b) (each j (b + 1) f) (g (suc b)) (upward j (suc (suc b)) g) (h b (omega arith))
      (rw k (each_walks f g c h j (suc b) (omega arith)))

  -- the modules before have the buses pre
  placed_walks : (ws : List ℕ) (k : ℕ) (pre : List ℕ)
      → G (placed_by one time ws k (length pre) (busies time pre 1 ws) pre) (map (λ bs. plan ws (pre ++ bs)) (placements k (length ws)))
  unfolding placed_by placements time_of
  placed_walks ws zero pre = rw append-nil (r.keeps (plan ws pre))
  placed_walks ws (suc k) pre =
      let i = length pre in
      let l = busies time pre 1 ws in
      let g : ℕ → List Plan = λ x. map (λ bs. plan ws ((pre ++ x ∷ []) ++ bs)) (placements k (length ws)) in
      subst (G (placed_by one time ws (suc k) i l pre)) (sym (map-upward ws pre (placements k (length ws)) (length ws) 1))
      (each_walks (try_of one time ws k i l pre) g (length ws)
      (λ b h.
      let e = busies-one time 1 b ws pre (suc b) h (omega arith) in
      let m : length (pre ++ suc b ∷ []) ≡ i + 1 = simp length-append (omega arith) in
      let n : b + 1 ≡ suc b = omega arith in
      r.tries (busy_with time ws i l b) (on_from one time ws k i l pre b) (g (suc b))
      (busy-within time ws pre b (placements k (length ws)) h)
      (rw (n, ← e, ← m) (placed_walks ws k (pre ++ suc b ∷ []))))
      (length ws) 0 (omega arith))

  lists_walks : (n c : ℕ) (wss : List (List ℕ)) → ((ws : List ℕ) → Memᴰ ws wss → length ws ≡ c)
      → G (lists_by one time n wss) (plans_on n c wss)
  unfolding lists_by plans_on
  lists_walks n c [] h = r.stays
  lists_walks n c (ws ∷ wss) h =
      r.goes (placed_by one time ws n 0 (replicate (length ws) 0) []) (lists_by one time n wss)
      (map (plan ws) (placements n c)) (plans_on n c wss)
      (rw (← busies-none time 1 ws, ← h ws (Memᴰ.head refl)) (placed_walks ws n []))
      (lists_walks n c wss (λ vs m. h vs (Memᴰ.tail m)))

  counts_walks : (W n k c : ℕ) → G (counts_by one time W n k c) (upward k c (λ d. plans_on n d (width_lists d 1 W)))
  unfolding counts_by upward
  counts_walks W n zero c = r.stays
  counts_walks W n (suc k) c =
      r.goes (lists_by one time n (width_lists c 1 W)) (counts_by one time W n k (suc c))
      (plans_on n c (width_lists c 1 W)) (upward k (suc c) (λ d. plans_on n d (width_lists d 1 W)))
      (lists_walks n c (width_lists c 1 W) (λ ws m. (widths_sound c 1 W ws m).count)) (counts_walks W n k (suc c))

  -- the whole search goes through the list of plans
  pub plans_walks : (W B n : ℕ) → G (counts_by one time W n (min B W) 1) (plans W B n)
  unfolding plans
  plans_walks W B n = counts_walks W n (min B W) 1
