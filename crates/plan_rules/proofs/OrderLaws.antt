-- The order of plans is strict, and `plans W B n` stands in it: every plan is before every later one. Assumes nothing.
use Prim.Native.Nat.{ℕ, zero, suc, ◌-◌, ◌<◌, min}
use mathlib.Core.Path.{◌≡◌, refl, sym, ap, ◌∙◌, subst, subst₂}
use mathlib.Core.Bool.{Bool, true, false, cond}
use mathlib.Core.List.Memᴰ
use mathlib.Core.List.{List, [], ◌∷◌, map, Memᴰ}
use native.Mathlib.Omega.{arith}
use native.Mathlib.Nat.{lt_trans}
use lib.ListN.{length}
use lib.Dec.{eqb}
use Rattle.plan_rules.specs.Plans.{Plan}
use Rattle.plan_rules.specs.Order.{Smaller, Before, here, behind, fewer, narrower, lower}
use Rattle.plan_rules.specs.Listed.{width_lists, placements, plan, plans_on, plans}
use Rattle.plan_rules.proofs.ListLaws.{Sorted, none, more, append_sorted, upward_sorted, map_sorted}
use Rattle.plan_rules.proofs.ListedLaws.{plans_on_of, widths_sound}

smaller_differ : {xs ys : List ℕ} → Smaller xs ys → xs ≡ ys → ⊥
smaller_differ (here {x} {y} h) e = let q : x ≡ y = cc in omega arith
smaller_differ (behind {xs = xs} {ys = ys} s) e = smaller_differ s (cc)

pub smaller_irr : (xs : List ℕ) → Smaller xs xs → ⊥
smaller_irr xs s = smaller_differ s refl

pub smaller_trans : {xs ys zs : List ℕ} → Smaller xs ys → Smaller ys zs → Smaller xs zs
smaller_trans (here h) (here k) = here (lt_trans h k)
smaller_trans (here h) (behind s) = here h
smaller_trans (behind r) (here k) = here k
smaller_trans (behind r) (behind s) = behind (smaller_trans r s)

pub before_irr : (p : Plan) → Before p p → ⊥
before_irr p (fewer h) = omega arith
before_irr p (narrower e s) = smaller_irr p.widths s
before_irr p (lower e s) = smaller_irr p.buses s

pub before_trans : (p q r : Plan) → Before p q → Before q r → Before p r
before_trans p q r (fewer h) (fewer k) = fewer (omega arith)
before_trans p q r (fewer h) (narrower e s) = fewer (omega arith)
before_trans p q r (fewer h) (lower e s) = fewer (rw e at h)
before_trans p q r (narrower e s) (fewer h) = fewer (omega arith)
before_trans p q r (narrower e s) (narrower f t) = narrower (e ∙ f) (smaller_trans s t)
before_trans p q r (narrower e s) (lower f t) = narrower (e ∙ ap length f) (subst (Smaller p.widths) f s)
before_trans p q r (lower e s) (fewer h) = fewer (rw (← e) at h)
before_trans p q r (lower e s) (narrower f t) = narrower (ap length e ∙ f) (subst (λ (ws : List ℕ). Smaller ws r.widths) (sym e) t)
before_trans p q r (lower e s) (lower f t) = lower (e ∙ f) (smaller_trans s t)

pub before_not : (p q : Plan) → Before p q → Before q p → ⊥
before_not p q b c = before_irr p (before_trans p q p b c)

front_smaller : (j k : ℕ) → j < k → (xss yss : List (List ℕ)) (x y : List ℕ) → Memᴰ x (map (λ v. j ∷ v) xss)
    → Memᴰ y (map (λ v. k ∷ v) yss) → Smaller x y
front_smaller j k h xss yss x y m r =
    let u = Memᴰ.of_map (λ v. j ∷ v) xss m in
    let v = Memᴰ.of_map (λ v. k ∷ v) yss r in
    subst₂ Smaller u.2 v.2 (here h)

widths-none_sorted : (t : Bool) → Sorted Smaller (cond t ([] ∷ []) [])
widths-none_sorted true = more (λ y m. absurd (Memᴰ.not-nil m)) none
widths-none_sorted false = none

pub widths_sorted : (c low W : ℕ) → Sorted Smaller (width_lists c low W)
unfolding width_lists
widths_sorted zero low W = widths-none_sorted (eqb W 0)
widths_sorted (suc c) low W =
    upward_sorted Smaller (suc W - low) low (λ w. map (λ ws. w ∷ ws) (width_lists c w (W - w)))
    (λ w. map_sorted Smaller Smaller (λ ws. w ∷ ws) (λ x y s. behind s) (width_lists c w (W - w)) (widths_sorted c w (W - w)))
    (λ j k h. front_smaller j k h (width_lists c j (W - j)) (width_lists c k (W - k)))

pub placements_sorted : (n c : ℕ) → Sorted Smaller (placements n c)
unfolding placements
placements_sorted zero c = more (λ y m. absurd (Memᴰ.not-nil m)) none
placements_sorted (suc n) c =
    upward_sorted Smaller c 1 (λ b. map (λ bs. b ∷ bs) (placements n c))
    (λ b. map_sorted Smaller Smaller (λ bs. b ∷ bs) (λ x y s. behind s) (placements n c) (placements_sorted n c))
    (λ j k h. front_smaller j k h (placements n c) (placements n c))

pub plans_on_sorted : (n c : ℕ) (wss : List (List ℕ)) → ((ws : List ℕ) → Memᴰ ws wss → length ws ≡ c) → Sorted Smaller wss
    → Sorted Before (plans_on n c wss)
unfolding plans_on
plans_on_sorted n c [] l none = none
plans_on_sorted n c (ws ∷ wss) l (more h s) =
    append_sorted Before (map (plan ws) (placements n c)) (plans_on n c wss)
    (map_sorted Smaller Before (plan ws) (λ x y r. lower refl r) (placements n c) (placements_sorted n c))
    (plans_on_sorted n c wss (λ vs m. l vs (Memᴰ.tail m)) s)
    (λ x y m r.
    let u = Memᴰ.of_map (plan ws) (placements n c) m in
    let v = (plans_on_of n c wss y r).0 in
    subst (λ (p : Plan). Before p y) u.2
    (narrower (l ws (Memᴰ.head refl) ∙ sym (l y.widths (Memᴰ.tail v))) (h y.widths v)))

-- every element of the list stands before every later one
pub sorted : (W B n : ℕ) → Sorted Before (plans W B n)
unfolding plans
sorted W B n =
    upward_sorted Before (min B W) 1 (λ c. plans_on n c (width_lists c 1 W))
    (λ c. plans_on_sorted n c (width_lists c 1 W) (λ ws m. (widths_sound c 1 W ws m).count) (widths_sorted c 1 W))
    (λ j k h x y m r.
    let e = (widths_sound j 1 W x.widths (plans_on_of n j (width_lists j 1 W) x m).0).count in
    let f = (widths_sound k 1 W y.widths (plans_on_of n k (width_lists k 1 W) y r).0).count in
    fewer (omega arith))
