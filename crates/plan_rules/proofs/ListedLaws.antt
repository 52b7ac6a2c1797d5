-- The list `plans W B n` holds the plans for W wires, limit B and n planned modules, all of them and nothing else, and it is not empty.
-- Assumes nothing.
use Prim.Native.Nat.{ℕ, zero, suc, ◌+◌, ◌-◌, ◌≤◌, ◌<◌, min}
use mathlib.Core.Path.{◌≡◌, refl, sym, ap, ◌∙◌, subst}
use mathlib.Core.Bool.{Bool, true, false, cond}
use mathlib.Core.Logic.{◌⊎◌, inl, inr}
use mathlib.Core.List.Memᴰ
use mathlib.Core.List.{List, [], ◌∷◌, ◌++◌, map, Memᴰ}
use native.Mathlib.Omega.{arith}
use native.Mathlib.Nat.{add-sub_cancel_left}
use lib.ListN.{length, get_or, replicate}
use lib.Dec.{eqb}
use borrow.Author.Tests.{eqb-true, eq-eqb, ne_eqb}
use Rattle.plan_rules.specs.Plans.{Plan, IsPlan, sum}
use Rattle.plan_rules.specs.Listed.{upward, width_lists, placements, plan, plans_on, plans}
use Rattle.plan_rules.specs.Widths.{Rising, none, more}
use Rattle.plan_rules.proofs.ListLaws.{upward_in, upward_of}

-- what a listed list of widths is
pub record Widths (c low W : ℕ) (ws : List ℕ) : Type 0 where
  pub count : length ws ≡ c
  pub wires : sum ws ≡ W
  pub rising : Rising low ws

widths-none : (low W : ℕ) (ws : List ℕ) (t : Bool) → eqb W 0 ≡ t → Memᴰ ws (cond t ([] ∷ []) []) → Widths 0 low W ws
unfolding sum
widths-none low W ws true e m = rw (Memᴰ.eq_of_singleton m) (record { count = refl; wires = sym (eqb-true W 0 e); rising = none })
widths-none low W ws false e m = absurd (Memᴰ.not-nil m)

pub widths_sound : (c low W : ℕ) (ws : List ℕ) → Memᴰ ws (width_lists c low W) → Widths c low W ws
unfolding width_lists sum
widths_sound zero low W ws m = widths-none low W ws (eqb W 0) refl m
widths_sound (suc c) low W ws m =
    let u = upward_of (suc W - low) low (λ w. map (λ vs. w ∷ vs) (width_lists c w (W - w))) ws m in
    let v = Memᴰ.of_map (λ vs. u.0 ∷ vs) (width_lists c u.0 (W - u.0)) u.3 in
    let r = widths_sound c u.0 (W - u.0) v.0 v.1 in
    subst (Widths (suc c) low W) v.2 (record { count = ap suc r.count; wires = omega (arith, r.wires, u.1, u.2); rising = more u.1 r.rising })

pub widths_complete : (low : ℕ) (ws : List ℕ) → Rising low ws → Memᴰ ws (width_lists (length ws) low (sum ws))
unfolding width_lists sum
widths_complete low [] none = Memᴰ.head refl
widths_complete low (w ∷ ws) (more h r) =
    let e : w + sum ws - w ≡ sum ws = add-sub_cancel_left w (sum ws) in
    upward_in (suc (w + sum ws) - low) low (λ v. map (λ vs. v ∷ vs) (width_lists (length ws) v (w + sum ws - v))) w (w ∷ ws) h (omega arith)
    (Memᴰ.map (λ vs. w ∷ vs) (rw (← e) at (widths_complete w ws r)))

pub record Placed (n c : ℕ) (bs : List ℕ) : Type 0 where
  pub placed : length bs ≡ n
  pub low : (i : ℕ) → i < n → 1 ≤ get_or bs i 0
  pub high : (i : ℕ) → i < n → get_or bs i 0 ≤ c

placed-more : (n c b : ℕ) (bs : List ℕ) → 1 ≤ b → b ≤ c → Placed n c bs → Placed (suc n) c (b ∷ bs)
placed-more n c b bs l h r = record { placed = ap suc r.placed; low = low; high = high }
  where
    low : (i : ℕ) → i < suc n → 1 ≤ get_or (b ∷ bs) i 0
    low zero k = l
    low (suc i) k = r.low i (omega arith)

    high : (i : ℕ) → i < suc n → get_or (b ∷ bs) i 0 ≤ c
    high zero k = h
    high (suc i) k = r.high i (omega arith)

pub placements_sound : (n c : ℕ) (bs : List ℕ) → Memᴰ bs (placements n c) → Placed n c bs
unfolding placements
placements_sound zero c bs m = rw (Memᴰ.eq_of_singleton m) (record { placed = refl; low = λ i k. absurd (omega arith); high = λ i k. absurd (omega arith) })
placements_sound (suc n) c bs m =
    let u = upward_of c 1 (λ b. map (λ vs. b ∷ vs) (placements n c)) bs m in
    let v = Memᴰ.of_map (λ vs. u.0 ∷ vs) (placements n c) u.3 in
    subst (Placed (suc n) c) v.2 (placed-more n c u.0 v.0 u.1 (omega (arith, u.2)) (placements_sound n c v.0 v.1))

pub placements_complete : (n c : ℕ) (bs : List ℕ) → Placed n c bs → Memᴰ bs (placements n c)
unfolding placements
placements_complete zero c [] r = Memᴰ.head refl
placements_complete zero c (b ∷ bs) r = absurd (omega arith)
placements_complete (suc n) c [] r = absurd (omega arith)
placements_complete (suc n) c (b ∷ bs) r =
    upward_in c 1 (λ x. map (λ vs. x ∷ vs) (placements n c)) b (b ∷ bs) (r.low 0 (omega arith)) (omega (arith, r.high 0 (omega arith)))
    (Memᴰ.map (λ vs. b ∷ vs) (placements_complete n c bs (record { placed = omega arith; low = λ i k. r.low (suc i) (omega arith); high = λ i k. r.high (suc i) (omega arith) })))

pub plans_on_of : (n c : ℕ) (wss : List (List ℕ)) (p : Plan) → Memᴰ p (plans_on n c wss) → Memᴰ p.widths wss × Memᴰ p.buses (placements n c)
unfolding plans_on
plans_on_of n c [] p m = absurd (Memᴰ.not-nil m)
plans_on_of n c (ws ∷ wss) p m = pick (plans_on_of n c wss p) (Memᴰ.append_cases (map (plan ws) (placements n c)) m)
  where
    pick : (Memᴰ p (plans_on n c wss) → Memᴰ p.widths wss × Memᴰ p.buses (placements n c)) → Memᴰ p (map (plan ws) (placements n c)) ⊎ Memᴰ p (plans_on n c wss)
        → Memᴰ p.widths (ws ∷ wss) × Memᴰ p.buses (placements n c)
    pick ih (inl l) =
        let u = Memᴰ.of_map (plan ws) (placements n c) l in
        (Memᴰ.head (ap (λ (q : Plan). q.widths) (sym u.2)), Memᴰ.cast (ap (λ (q : Plan). q.buses) (sym u.2)) u.1)
    pick ih (inr r) = let u = ih r in (Memᴰ.tail u.0, u.1)

pub plans_on_in : (n c : ℕ) (wss : List (List ℕ)) (ws bs : List ℕ) → Memᴰ ws wss → Memᴰ bs (placements n c) → Memᴰ (plan ws bs) (plans_on n c wss)
unfolding plans_on
plans_on_in n c [] ws bs m k = absurd (Memᴰ.not-nil m)
plans_on_in n c (vs ∷ wss) ws bs m k = pick (λ r. plans_on_in n c wss ws bs r k) (Memᴰ.cases_cons m)
  where
    pick : (Memᴰ ws wss → Memᴰ (plan ws bs) (plans_on n c wss)) → (ws ≡ vs) ⊎ Memᴰ ws wss → Memᴰ (plan ws bs) (map (plan vs) (placements n c) ++ plans_on n c wss)
    pick ih (inl e) = Memᴰ.append_left (plans_on n c wss) (Memᴰ.cast (ap (λ (us : List ℕ). plan us bs) e) (Memᴰ.map (plan vs) k))
    pick ih (inr r) = Memᴰ.append_right (map (plan vs) (placements n c)) (ih r)

-- widths that do not decrease, read by their places
rising-wide : (low : ℕ) (ws : List ℕ) → Rising low ws → (i : ℕ) → i < length ws → low ≤ get_or ws i 0
rising-wide low [] none i k = absurd (omega arith)
rising-wide low (w ∷ ws) (more h r) zero k = h
rising-wide low (w ∷ ws) (more h r) (suc i) k = let t = rising-wide w ws r i (omega arith) in omega arith

rising-rising : (low : ℕ) (ws : List ℕ) → Rising low ws → (i : ℕ) → suc i < length ws → get_or ws i 0 ≤ get_or ws (suc i) 0
rising-rising low [] none i k = absurd (omega arith)
rising-rising low (w ∷ ws) (more h r) zero k = rising-wide w ws r 0 (omega arith)
rising-rising low (w ∷ ws) (more h r) (suc i) k = rising-rising w ws r i (omega arith)

rising-is : (low : ℕ) (ws : List ℕ) → (0 < length ws → low ≤ get_or ws 0 0) → ((i : ℕ) → suc i < length ws → get_or ws i 0 ≤ get_or ws (suc i) 0) → Rising low ws
rising-is low [] h s = none
rising-is low (w ∷ ws) h s = more (h (omega arith)) (rising-is w ws (λ k. s 0 (omega arith)) (λ i k. s (suc i) (omega arith)))

-- there are at most as many buses as wires
buses-wires : (low : ℕ) (ws : List ℕ) → 1 ≤ low → Rising low ws → length ws ≤ sum ws
unfolding sum
buses-wires low [] h none = omega arith
buses-wires low (w ∷ ws) h (more k r) = let t = buses-wires w ws (omega arith) r in omega arith

-- every element of the list is a plan
pub sound : (W B n : ℕ) (p : Plan) → Memᴰ p (plans W B n) → IsPlan W B n p
unfolding plans
sound W B n p m =
    let u = upward_of (min B W) 1 (λ c. plans_on n c (width_lists c 1 W)) p m in
    let v = plans_on_of n u.0 (width_lists u.0 1 W) p u.3 in
    let ws = widths_sound u.0 1 W p.widths v.0 in
    let bs = placements_sound n u.0 p.buses v.1 in
    record {
      some = omega (arith, ws.count, u.1);
      limit = omega (arith, ws.count, u.2);
      wide = rising-wide 1 p.widths ws.rising;
      rising = rising-rising 1 p.widths ws.rising;
      wires = ws.wires;
      placed = bs.placed;
      low = bs.low;
      high = λ i k. omega (arith, bs.high i k, ws.count);
    }

-- every plan is an element of the list
pub complete : (W B n : ℕ) (p : Plan) → IsPlan W B n p → Memᴰ p (plans W B n)
unfolding plans
complete W B n p r =
    let s : Rising 1 p.widths = rising-is 1 p.widths (r.wide 0) r.rising in
    let t = buses-wires 1 p.widths (omega arith) s in
    upward_in (min B W) 1 (λ c. plans_on n c (width_lists c 1 W)) (length p.widths) p r.some (omega arith)
    (plans_on_in n (length p.widths) (width_lists (length p.widths) 1 W) p.widths p.buses (rw r.wires at (widths_complete 1 p.widths s))
    (placements_complete n (length p.widths) p.buses (record { placed = r.placed; low = r.low; high = r.high })))

-- one bus takes all the wires
widths-one : (n i W : ℕ) → i + n ≡ W → upward (suc n) i (λ w. map (λ ws. w ∷ ws) (width_lists zero w (W - w))) ≡ (W ∷ []) ∷ []
unfolding width_lists upward
widths-one zero i W e = let j : i ≡ W = omega arith in rw (eq-eqb (W - i) 0 (omega arith), j)
widths-one (suc n) i W e = rw (ne_eqb (W - i) 0 (λ z. omega arith)) (widths-one n (suc i) W (omega arith))

pub width_lists-one : (W : ℕ) → 1 ≤ W → width_lists 1 1 W ≡ (W ∷ []) ∷ []
unfolding width_lists
width_lists-one W h = let e : suc W - 1 ≡ suc (W - 1) = omega arith in rw e (widths-one (W - 1) 1 W (omega arith))

pub placements-one : (n : ℕ) → placements n 1 ≡ replicate n 1 ∷ []
unfolding placements upward
placements-one zero = refl
placements-one (suc n) = rw (placements-one n)

plans-from-one : (W k n : ℕ) → 1 ≤ W → upward (suc k) 1 (λ c. plans_on n c (width_lists c 1 W)) ≡ plan (W ∷ []) (replicate n 1) ∷ upward k 2 (λ c. plans_on n c (width_lists c 1 W))
unfolding plans_on upward
plans-from-one W k n h = rw (width_lists-one W h, placements-one n)

-- the list is not empty: its first element has one bus, with every module on it
pub some : (W B n : ℕ) → 1 ≤ W → 1 ≤ B → plans W B n ≡ plan (W ∷ []) (replicate n 1) ∷ upward (min B W - 1) 2 (λ c. plans_on n c (width_lists c 1 W))
unfolding plans
some W B n h k =
    let e : min B W ≡ suc (min B W - 1) = omega arith in
    ap (λ m. upward m 1 (λ c. plans_on n c (width_lists c 1 W))) e ∙ plans-from-one W (min B W - 1) n h
