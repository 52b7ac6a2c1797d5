-- What a search may skip: plans that are no better than the best so far, and lower bounds of the time of a plan, from the time of one
-- module, from the times of all of them together, and from their areas. For any time and any list of plans. Assumes nothing.
use Prim.Native.Nat.{ℕ, zero, suc, ◌+◌, ◌-◌, ◌*◌, ◌≤◌, ◌<◌, max}
use mathlib.Core.Path.{◌≡◌, refl, sym, ap, ◌∙◌}
use mathlib.Core.Bool.{Bool, true, false, cond}
use mathlib.Core.Logic.{⊎_elim}
use mathlib.Core.List.Memᴰ
use mathlib.Core.List.{List, [], ◌∷◌, ◌++◌, Memᴰ}
use native.Mathlib.Omega.{arith}
use native.Mathlib.Nat.{eq-or-lt_of_le, suc-mul, add-mul, mul-le-mul_left}
use lib.ListN.{length, get_or}
use lib.Dec.{ltb, eqb}
use borrow.Author.Tests.{eq-eqb}
use Rattle.plan_rules.specs.Plans.{Plan, sum, busy_from, busies, largest, time_of}
use Rattle.plan_rules.specs.Listed.{first_least}
use Rattle.plan_rules.specs.Bounds.{total}
use Rattle.plan_rules.proofs.LeastLaws.{least-is, least-same}
use Rattle.plan_rules.proofs.BusyLaws.{largest_le}

-- a list may be looked at in two stretches
pub least-append : (time : Plan → ℕ) (p : Plan) (qs rs : List Plan) → first_least time p (qs ++ rs) ≡ first_least time (first_least time p qs) rs
unfolding first_least
least-append time p [] rs = refl
least-append time p (q ∷ qs) rs = pick (least-append time q qs rs) (least-append time p qs rs) (ltb (time q) (time p))
  where
    pick : first_least time q (qs ++ rs) ≡ first_least time (first_least time q qs) rs → first_least time p (qs ++ rs) ≡ first_least time (first_least time p qs) rs
        → (t : Bool) → cond t (first_least time q (qs ++ rs)) (first_least time p (qs ++ rs)) ≡ first_least time (cond t (first_least time q qs) (first_least time p qs)) rs
    pick a b true = a
    pick a b false = b

-- a stretch of plans that are no better than the best so far may be skipped
pub least_skip : (time : Plan → ℕ) (p : Plan) (qs rs : List Plan) → ((q : Plan) → Memᴰ q qs → time p ≤ time q) → first_least time p (qs ++ rs) ≡ first_least time p rs
least_skip time p qs rs h =
    let k : time p ≤ time (first_least time p qs) = ⊎_elim (λ e. omega (arith, ap time e)) (h (first_least time p qs)) (Memᴰ.cases_cons (least-is time p qs).listed) in
    least-append time p qs rs ∙ ap (λ (q : Plan). first_least time q rs) (least-same time p qs k)

-- a module's time is at most the busy figure of its bus
busy_le : (time : ℕ → ℕ → ℕ) (i b w : ℕ) (xs : List ℕ) (k j : ℕ) → i + k ≡ j → k < length xs → get_or xs k 0 ≡ b → time j w ≤ busy_from time i b w xs
unfolding busy_from
busy_le time i b w [] k j e h f = absurd (omega arith)
busy_le time i b w (x ∷ xs) zero j e h f = let g : i ≡ j = omega arith in rw (eq-eqb x b f, g) (omega arith)
busy_le time i b w (x ∷ xs) (suc k) j e h f = let t = busy_le time (suc i) b w xs k j (omega arith) (omega arith) f in omega arith

busies-at : (time : ℕ → ℕ → ℕ) (bs : List ℕ) (b : ℕ) (ws : List ℕ) (j x : ℕ) → j < length ws → b + j ≡ x → get_or (busies time bs b ws) j 0 ≡ busy_from time 0 x (get_or ws j 0) bs
unfolding busies
busies-at time bs b [] j x h e = absurd (omega arith)
busies-at time bs b (w ∷ ws) zero x h e = ap (λ (c : ℕ). busy_from time 0 c w bs) (omega arith)
busies-at time bs b (w ∷ ws) (suc j) x h e = busies-at time bs (suc b) ws j x (omega arith) (omega arith)

-- what a module on bus x adds to the busy figures of the buses from number b on, f its time by the width
one : (ℕ → ℕ) → ℕ → ℕ → List ℕ → ℕ
one f x b [] = 0
one f x b (w ∷ ws) = cond (eqb x b) (f w) 0 + one f x (suc b) ws

-- the busy figures of the buses from number b on, added, for the modules from number i on
busy : (ℕ → ℕ → ℕ) → ℕ → List ℕ → ℕ → List ℕ → ℕ
busy time i xs b [] = 0
busy time i xs b (w ∷ ws) = busy_from time i b w xs + busy time i xs (suc b) ws

one_le : (f : ℕ → ℕ) (t x b : ℕ) (ws : List ℕ) → b ≤ x → x < b + length ws → ((j : ℕ) → j < length ws → t ≤ f (get_or ws j 0)) → t ≤ one f x b ws
unfolding one
one_le f t x b [] l h s = absurd (omega arith)
one_le f t x b (w ∷ ws) l h s = ⊎_elim
    (λ e. rw (eq-eqb x b (sym e)) (omega (arith, s 0 (omega arith))))
    (λ k. omega (arith, one_le f t x (suc b) ws k (omega arith) (λ j m. s (suc j) (omega arith))))
    (eq-or-lt_of_le l)

busy-none : (time : ℕ → ℕ → ℕ) (i b : ℕ) (ws : List ℕ) → busy time i [] b ws ≡ 0
unfolding busy busy_from
busy-none time i b [] = refl
busy-none time i b (w ∷ ws) = rw (busy-none time i (suc b) ws)

busy-more : (time : ℕ → ℕ → ℕ) (i x : ℕ) (xs : List ℕ) (b : ℕ) (ws : List ℕ) → busy time i (x ∷ xs) b ws ≡ one (time i) x b ws + busy time (suc i) xs b ws
unfolding busy busy_from one
busy-more time i x xs b [] = refl
busy-more time i x xs b (w ∷ ws) = let e = busy-more time i x xs (suc b) ws in omega arith

total-busy : (time : ℕ → ℕ → ℕ) (t : ℕ → ℕ) (i : ℕ) (xs : List ℕ) (b : ℕ) (ws : List ℕ)
    → ((k : ℕ) → k < length xs → b ≤ get_or xs k 0) → ((k : ℕ) → k < length xs → get_or xs k 0 < b + length ws)
    → ((k j : ℕ) → i ≤ k → k < i + length xs → j < length ws → t k ≤ time k (get_or ws j 0))
    → total (length xs) i t ≤ busy time i xs b ws
unfolding total
total-busy time t i [] b ws l h s = omega arith
total-busy time t i (x ∷ xs) b ws l h s =
    let a = one_le (time i) (t i) x b ws (l 0 (omega arith)) (h 0 (omega arith)) (λ j m. s i j (omega arith) (omega arith) m) in
    let r = total-busy time t (suc i) xs b ws (λ k m. l (suc k) (omega arith)) (λ k m. h (suc k) (omega arith)) (λ k j m n o. s k j (omega arith) (omega arith) o) in
    omega (arith, busy-more time i x xs b ws)

busy-largest : (time : ℕ → ℕ → ℕ) (xs : List ℕ) (b : ℕ) (ws : List ℕ) → busy time 0 xs b ws ≤ length ws * largest (busies time xs b ws)
unfolding busy busies largest
busy-largest time xs b [] = omega arith
busy-largest time xs b (w ∷ ws) =
    let x = busy_from time 0 b w xs in
    let y = largest (busies time xs (suc b) ws) in
    let l : y ≤ max x y = omega arith in
    omega (arith, busy-largest time xs (suc b) ws, suc-mul (length ws) (max x y), mul-le-mul_left (length ws) l)

-- what a bus is busy for, times its width
wide-busy : (time : ℕ → ℕ → ℕ) (i b w : ℕ) (xs : List ℕ) → busy_from (λ k v. v * time k v) i b w xs ≡ w * busy_from time i b w xs
unfolding busy_from
wide-busy time i b w [] = omega arith
wide-busy time i b w (x ∷ xs) = pick (busy_from time (suc i) b w xs) (wide-busy time (suc i) b w xs) (eqb x b)
  where
    pick : (y : ℕ) → busy_from (λ k v. v * time k v) (suc i) b w xs ≡ w * y
        → (t : Bool) → cond t (w * time i w) 0 + busy_from (λ k v. v * time k v) (suc i) b w xs ≡ w * (cond t (time i w) 0 + y)
    pick y e true = omega arith
    pick y e false = omega arith

wide-largest : (time : ℕ → ℕ → ℕ) (xs : List ℕ) (b : ℕ) (ws : List ℕ)
    → busy (λ k v. v * time k v) 0 xs b ws ≤ sum ws * largest (busies time xs b ws)
unfolding busy busies largest sum
wide-largest time xs b [] = omega arith
wide-largest time xs b (w ∷ ws) =
    let x = busy_from time 0 b w xs in
    let y = largest (busies time xs (suc b) ws) in
    let l : y ≤ max x y = omega arith in
    let m : x ≤ max x y = omega arith in
    let d : (w + sum ws) * max x y ≡ w * max x y + sum ws * max x y = add-mul w (sum ws) (max x y) in
    omega (arith, wide-largest time xs (suc b) ws, wide-busy time 0 b w xs, mul-le-mul_left w m, mul-le-mul_left (sum ws) l)

module _ (time : ℕ → ℕ → ℕ) (p : Plan) where
  -- the time of a module at its bus is at most the time of the plan
  pub module_le : (i : ℕ) → i < length p.buses → 1 ≤ get_or p.buses i 0 → get_or p.buses i 0 ≤ length p.widths → time i (get_or p.widths (get_or p.buses i 0 - 1) 0) ≤ time_of time p
  unfolding time_of
  module_le i h l u =
      let b = get_or p.buses i 0 in
      let a = busy_le time 0 b (get_or p.widths (b - 1) 0) p.buses i i (omega arith) h refl in
      let c = largest_le (busies time p.buses 1 p.widths) (b - 1) in
      omega (arith, busies-at time p.buses 1 p.widths (b - 1) b (omega arith) (omega arith))

  -- so is any time that the module takes at least, whatever its bus
  pub lower_single : (i t : ℕ) → i < length p.buses → 1 ≤ get_or p.buses i 0 → get_or p.buses i 0 ≤ length p.widths → ((j : ℕ) → j < length p.widths → t ≤ time i (get_or p.widths j 0)) → t ≤ time_of time p
  lower_single i t h l u s = omega (arith, module_le i h l u, s (get_or p.buses i 0 - 1) (omega arith))

  -- times that the modules take at least, added, are at most what the buses have room for
  pub lower_shared : (t : ℕ → ℕ) → ((i : ℕ) → i < length p.buses → 1 ≤ get_or p.buses i 0) → ((i : ℕ) → i < length p.buses → get_or p.buses i 0 ≤ length p.widths)
      → ((i j : ℕ) → i < length p.buses → j < length p.widths → t i ≤ time i (get_or p.widths j 0)) → total (length p.buses) 0 t ≤ length p.widths * time_of time p
  unfolding time_of
  lower_shared t l u s =
      let a = total-busy time t 0 p.buses 1 p.widths l (λ k m. omega (arith, u k m)) (λ k j m n o. s k j (omega arith) o) in
      omega (arith, busy-largest time p.buses 1 p.widths)

  -- areas that the modules have at least, on whichever bus, added, are at most what the wires have room for
  pub lower_area : (area : ℕ → ℕ) → ((i : ℕ) → i < length p.buses → 1 ≤ get_or p.buses i 0)
      → ((i : ℕ) → i < length p.buses → get_or p.buses i 0 ≤ length p.widths)
      → ((i j : ℕ) → i < length p.buses → j < length p.widths → area i ≤ get_or p.widths j 0 * time i (get_or p.widths j 0))
      → total (length p.buses) 0 area ≤ sum p.widths * time_of time p
  unfolding time_of
  lower_area area l u s =
      let a = total-busy (λ i w. w * time i w) area 0 p.buses 1 p.widths l (λ k m. omega (arith, u k m))
      (λ k j m n o. s k j (omega arith) o) in
      omega (arith, wide-largest time p.buses 1 p.widths)
