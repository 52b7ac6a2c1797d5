-- Where no bus is narrower, no placement costs more: so the least time on the widest that some lists of widths can be is at most that
-- on each of these lists, and where that is not below the best, all of them may be skipped. Assumes nothing.
use Prim.Native.Nat.{ℕ, zero, suc, ◌+◌, ◌-◌, ◌*◌, ◌/◌, ◌≤◌, ◌<◌, min}
use mathlib.Core.Path.{◌≡◌, refl, ap}
use mathlib.Core.Bool.{Bool, true, false, cond}
use mathlib.Core.List.{List, [], ◌∷◌, ◌++◌, Memᴰ}
use native.Mathlib.Omega.{arith}
use native.Mathlib.Nat.{suc-mul, mul-le-mul_left, mul_comm, le-div_iff_mul-le, div-le_self}
use lib.ListN.{length, length-append, length-replicate}
use lib.Dec.{eqb}
use Rattle.plan_rules.specs.Plans.{Plan, IsPlan, sum, busy_from, busies, largest, time_of}
use Rattle.plan_rules.specs.Listed.{width_lists, placements, plan, plans_on, plans}
use Rattle.plan_rules.specs.Least.{least_all, cost_on, least_by, least_on}
use Rattle.plan_rules.specs.Widths.{Rising, none, more, Wider, nothing, wider, widest, even}
use Rattle.plan_rules.proofs.ListedLaws.{placements_sound, widths_complete, plans_on_in, sound}
use Rattle.plan_rules.proofs.ListLaws.{upward_in}
use Rattle.plan_rules.proofs.AllLaws.{all_le, all_in, all_ge}

pub wider-length : {top : ℕ} {ws vs : List ℕ} → Wider top ws vs → length vs ≡ length ws
wider-length nothing = refl
wider-length (wider l h t r) = ap suc (wider-length r)

-- the same widths before both
pub wider-behind : (top u : ℕ) (pre : List ℕ) {ws vs : List ℕ} → 1 ≤ u → Rising u pre → largest pre ≤ top → Wider top ws vs
    → Wider top (pre ++ ws) (pre ++ vs)
unfolding largest
wider-behind top u [] h r t p = p
wider-behind top u (w ∷ pre) h (more l r) t p =
    let some : 1 ≤ w = omega arith in
    let same : w ≤ w = omega arith in
    let fits : w ≤ top = omega arith in
    wider some same fits (wider-behind top w pre some r (omega arith) p)

-- where every placement costs at most as much on wider buses, so does the least
pub wider-least : (cost : Plan → ℕ) (n top : ℕ) {ws vs : List ℕ} → Wider top ws vs
    → ((bs : List ℕ) → length bs ≡ n → cost_on cost vs bs ≤ cost_on cost ws bs) → (t : ℕ)
    → least_by cost n vs t ≤ least_by cost n ws t
unfolding least_by
wider-least cost n top {ws} {vs} r h t =
    let e : length vs ≡ length ws = wider-length r in
    rw e (all_ge (cost_on cost ws) t (least_all (cost_on cost vs) t (placements n (length ws))) (placements n (length ws)) (all_le (cost_on cost vs) t (placements n (length ws)))
    (λ bs k. omega (arith, all_in (cost_on cost vs) t (placements n (length ws)) bs k, h bs (placements_sound n (length ws) bs k).placed)))

cond_le : (t : Bool) (x y : ℕ) → x ≤ y → cond t x 0 ≤ cond t y 0
cond_le true x y h = h
cond_le false x y h = omega arith

-- times that do not rise: nor do busy figures
busy-falls : (time : ℕ → ℕ → ℕ) (i b u w : ℕ) (xs : List ℕ) → ((k : ℕ) → i ≤ k → k < i + length xs → time k u ≤ time k w)
    → busy_from time i b u xs ≤ busy_from time i b w xs
unfolding busy_from
busy-falls time i b u w [] h = omega arith
busy-falls time i b u w (x ∷ xs) h =
    omega (arith, cond_le (eqb x b) (time i u) (time i w) (h i (omega arith) (omega arith)), busy-falls time (suc i) b u w xs (λ k l m. h k (omega arith) (omega arith)))

-- the times of n modules, which do not rise with the width up to top
module _ (time : ℕ → ℕ → ℕ) (n top : ℕ) (falls : (i v w : ℕ) → i < n → 1 ≤ v → v ≤ w → w ≤ top → time i w ≤ time i v) where
  wider-busies : (bs : List ℕ) → length bs ≡ n → (b : ℕ) {ws vs : List ℕ} → Wider top ws vs
      → largest (busies time bs b vs) ≤ largest (busies time bs b ws)
  unfolding busies largest
  wider-busies bs e b nothing = omega arith
  wider-busies bs e b (wider {w} {v} l h t r) =
      omega (arith, busy-falls time 0 b v w bs (λ k a d. falls k w v (omega arith) l h t), wider-busies bs e (suc b) r)

  -- a placement takes no longer on wider buses
  pub wider-plan : {ws vs : List ℕ} → Wider top ws vs → (bs : List ℕ) → length bs ≡ n → time_of time (plan vs bs) ≤ time_of time (plan ws bs)
  unfolding time_of
  wider-plan r bs e = wider-busies bs e 1 r

  -- so the least time on wider buses is no larger
  pub wider-time : {ws vs : List ℕ} → Wider top ws vs → (t : ℕ) → least_on time n vs t ≤ least_on time n ws t
  wider-time r = wider-least (time_of time) n top r (wider-plan r)

  -- so where none is found on them, none is on the others
  pub wider-none : {ws vs : List ℕ} → Wider top ws vs → (t : ℕ) → least_on time n vs t ≡ t → least_on time n ws t ≡ t
  unfolding least_by
  wider-none {ws} r t e = omega (arith, wider-time r t, all_le (cost_on (time_of time) ws) t (placements n (length ws)))

-- the first of rising widths is at most an equal share
rising-share : (u : ℕ) (ws : List ℕ) → Rising u ws → length ws * u ≤ sum ws
unfolding sum
rising-share u [] none = omega arith
rising-share u (w ∷ ws) (more l r) = omega (arith, rising-share w ws r, mul-le-mul_left (length ws) l, suc-mul (length ws) u)

-- no list of c widths of at least low, of W wires, is wider than `widest`
pub widest-wider : (top c low W u : ℕ) (ws : List ℕ) → length ws ≡ c → Rising u ws → sum ws ≤ W → low ≤ u → 1 ≤ low → W ≤ top
    → Wider top ws (widest c low W)
unfolding widest sum
widest-wider top zero low W u [] e r s l k t = nothing
widest-wider top zero low W u (w ∷ ws) e r s l k t = absurd (omega arith)
widest-wider top (suc c) low W u [] e r s l k t = absurd (omega arith)
widest-wider top (suc c) low W u (w ∷ ws) e (more h r) s l k t =
    let n : length ws ≡ c = omega arith in
    let share : c * w ≤ sum ws = rw n at (rising-share w ws r) in
    let m : w * suc c ≤ W = omega (arith, mul_comm w (suc c), suc-mul c w) in
    let p : 0 < suc c = omega arith in
    let d : w ≤ W / suc c = (le-div_iff_mul-le p).1 m in
    let some : 1 ≤ w = omega arith in
    let fits : W / suc c ≤ top = omega (arith, div-le_self W (suc c)) in
    wider some d fits (widest-wider top c low (W - low) w ws n r (omega arith) (omega arith) k (omega arith))

pub length-widest : (c low W : ℕ) → length (widest c low W) ≡ c
unfolding widest
length-widest zero low W = refl
length-widest (suc c) low W = ap suc (length-widest c low (W - low))

-- none of these is wider than all the wires
pub widest-most : (c low W : ℕ) → largest (widest c low W) ≤ W
unfolding widest largest
widest-most zero low W = omega arith
widest-most (suc c) low W = omega (arith, div-le_self W (suc c), widest-most c low (W - low))

-- and none is narrower than the one before
pub widest-rising : (c low W u : ℕ) → c * u ≤ W → c * low ≤ W → Rising u (widest c low W)
unfolding widest
widest-rising zero low W u h l = none
widest-rising (suc c) low W u h l =
    let p : 0 < suc c = omega arith in
    let q = W / suc c in
    let a : u ≤ q = (le-div_iff_mul-le p).1 (omega (arith, mul_comm u (suc c))) in
    let b : low ≤ q = (le-div_iff_mul-le p).1 (omega (arith, mul_comm low (suc c))) in
    let d : q * suc c ≤ W = (le-div_iff_mul-le p).0 (omega arith) in
    more a (widest-rising c low (W - low) q (omega (arith, mul_comm q (suc c), suc-mul c q)) (omega (arith, suc-mul c low)))

-- widths behind others that are no wider
pub rising-behind : (u v : ℕ) (xs ys : List ℕ) → Rising u xs → largest xs ≤ v → u ≤ v → Rising v ys → Rising u (xs ++ ys)
unfolding largest
rising-behind u v [] [] none m l none = none
rising-behind u v [] (y ∷ ys) none m l (more h r) = let k : u ≤ y = omega arith in more k r
rising-behind u v (x ∷ xs) ys (more h r) m l s = more h (rising-behind x v xs ys r (omega arith) (omega arith) s)

even-length : (c w W : ℕ) → length (even c w W) ≡ suc c
even-length c w W = simp (length-append, length-replicate) (omega arith)

even_sum : (c w W : ℕ) → c * w ≤ W → sum (even c w W) ≡ W
unfolding sum
even_sum zero w W h = omega arith
even_sum (suc c) w W h =
    let e : W - suc c * w ≡ W - w - c * w = omega (arith, suc-mul c w) in
    let r = even_sum c w (W - w) (omega (arith, suc-mul c w)) in
    rw e (omega (arith, suc-mul c w))

even-rising : (c w W u : ℕ) → u ≤ w → suc c * w ≤ W → Rising u (even c w W)
even-rising zero w W u l h = let k : u ≤ W - zero * w = omega arith in more k none
even-rising (suc c) w W u l h =
    let e : W - suc c * w ≡ W - w - c * w = omega (arith, suc-mul c w) in
    rw e (more l (even-rising c w (W - w) w (omega arith) (omega (arith, suc-mul (suc c) w))))

-- buses of equal width and one that has the rest, with a placement on them, are a plan
pub even-plan : (c w W B n : ℕ) (bs : List ℕ) → 1 ≤ w → suc c * w ≤ W → suc c ≤ B → Memᴰ bs (placements n (suc c))
    → IsPlan W B n (plan (even c w W) bs)
unfolding plans
even-plan c w W B n bs l h b m =
    let s = even_sum c w W (omega (arith, suc-mul c w)) in
    let e = even-length c w W in
    let d : Memᴰ (even c w W) (width_lists (suc c) 1 W) = rw e at (rw s at (widths_complete 1 (even c w W) (even-rising c w W 1 l h))) in
    let k : suc c ≤ W = omega (arith, mul-le-mul_left (suc c) l) in
    sound W B n (plan (even c w W) bs)
    (upward_in (min B W) 1 (λ k. plans_on n k (width_lists k 1 W)) (suc c) (plan (even c w W) bs) (omega arith) (omega arith)
    (plans_on_in n (suc c) (width_lists (suc c) 1 W) (even c w W) bs d m))
