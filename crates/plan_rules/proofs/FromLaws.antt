-- `least_from`, the least time by recursion over loads: it is the least time over all placements, and where a search may turn back.
-- Assumes nothing.
use Prim.Native.Nat.{ℕ, zero, suc, ◌+◌, ◌-◌, ◌*◌, ◌≤◌, ◌<◌, min, max}
use mathlib.Core.Path.{◌≡◌, refl, sym, ap, ◌∙◌}
use mathlib.Core.List.{List, [], ◌∷◌, ◌++◌, map, map-id, append-nil, append_assoc}
use native.Mathlib.Omega.{arith}
use native.Mathlib.Nat.{suc-mul, mul-suc, mul-le-mul_left}
use native.Mathlib.Numerals.{add-one}
use lib.ListN.{length, get_or, set, replicate, length-append, length-set}
use Rattle.plan_rules.specs.Plans.{sum, busies, largest, time_of}
use Rattle.plan_rules.specs.Listed.{upward, placements}
use Rattle.plan_rules.specs.Bounds.{total}
use Rattle.plan_rules.specs.Least.{least_all, time_on, least_by, least_on}
use Rattle.plan_rules.specs.From.{loaded, each_bus, least_from}
use Rattle.plan_rules.proofs.AllLaws.{all_append}
use Rattle.plan_rules.proofs.BusyLaws.{busies-one, busies-none}

-- figures have at most as many times the largest together as there are figures
sum-largest : (xs : List ℕ) → sum xs ≤ length xs * largest xs
unfolding sum largest
sum-largest [] = omega arith
sum-largest (x ∷ xs) =
    let y = largest xs in
    let l : y ≤ max x y = omega arith in
    omega (arith, sum-largest xs, suc-mul (length xs) (max x y), mul-le-mul_left (length xs) l)

-- one figure rises: how a running sum of the loads is kept
pub sum_added : (xs : List ℕ) (b t : ℕ) → b < length xs → sum (set xs b (get_or xs b 0 + t)) ≡ sum xs + t
unfolding sum
sum_added [] b t h = absurd (omega arith)
sum_added (x ∷ xs) zero t h = omega arith
sum_added (x ∷ xs) (suc b) t h = omega (arith, sum_added xs b t (omega arith))

pub each_same : (n b : ℕ) (f g : ℕ → ℕ → ℕ) (best : ℕ) → ((j s : ℕ) → b ≤ j → j < b + n → f j s ≡ g j s)
    → each_bus n b f best ≡ each_bus n b g best
unfolding each_bus
each_same zero b f g best h = refl
each_same (suc n) b f g best h = rw (h b best (omega arith) (omega arith)) (each_same n (suc b) f g (g b best) (λ j s k l. h j s (omega arith) (omega arith)))

pub each_le : (n b : ℕ) (f : ℕ → ℕ → ℕ) (best : ℕ) → ((j s : ℕ) → f j s ≤ s) → each_bus n b f best ≤ best
unfolding each_bus
each_le zero b f best h = omega arith
each_le (suc n) b f best h = omega (arith, each_le n (suc b) f (f b best) h, h b best)

pub each_ge : (n b v : ℕ) (f : ℕ → ℕ → ℕ) (best : ℕ) → v ≤ best → ((j s : ℕ) → b ≤ j → j < b + n → v ≤ s → v ≤ f j s)
    → v ≤ each_bus n b f best
unfolding each_bus
each_ge zero b v f best k h = k
each_ge (suc n) b v f best k h = each_ge n (suc b) v f (f b best) (h b best (omega arith) (omega arith) k) (λ j s l m. h j s (omega arith) (omega arith))

pub all-upward : {A : Type 0} (key : A → ℕ) (n b : ℕ) (g : ℕ → List A) (best : ℕ)
    → least_all key best (upward n (suc b) g) ≡ each_bus n b (λ j s. least_all key s (g (suc j))) best
unfolding each_bus upward least_all
all-upward key zero b g best = refl
all-upward key (suc n) b g best = all_append key best (g (suc b)) (upward n (suc (suc b)) g) ∙ all-upward key n (suc b) g (least_all key best (g (suc b)))

map-append : (pre : List ℕ) (x : ℕ) (xss yss : List (List ℕ))
    → map (λ bs. pre ++ bs) (map (λ bs. x ∷ bs) xss ++ yss) ≡ map (λ bs. (pre ++ x ∷ []) ++ bs) xss ++ map (λ bs. pre ++ bs) yss
map-append pre x [] yss = refl
map-append pre x (xs ∷ xss) yss = rw (map-append pre x xss yss, append_assoc)

pub map-upward : (pre : List ℕ) (xss : List (List ℕ)) (n i : ℕ)
    → map (λ bs. pre ++ bs) (upward n i (λ x. map (λ bs. x ∷ bs) xss)) ≡ upward n i (λ x. map (λ bs. (pre ++ x ∷ []) ++ bs) xss)
unfolding upward
map-upward pre xss zero i = refl
map-upward pre xss (suc n) i = map-append pre i xss (upward n (suc i) (λ x. map (λ bs. x ∷ bs) xss)) ∙ ap (λ r. map (λ bs. (pre ++ i ∷ []) ++ bs) xss ++ r) (map-upward pre xss n (suc i))

module _ (time : ℕ → ℕ → ℕ) where
  -- the modules before have the buses pre
  pub from_all : (ws : List ℕ) (n : ℕ) (pre : List ℕ) (best : ℕ)
      → least_from time ws n (length pre) (busies time pre 1 ws) best ≡ least_all (time_on time ws) best
      (map (λ bs. pre ++ bs) (placements n (length ws)))
  unfolding least_from least_all placements time_of
  from_all ws zero pre best = rw append-nil
  from_all ws (suc n) pre best =
      let g : ℕ → List (List ℕ) = λ x. map (λ bs. (pre ++ x ∷ []) ++ bs) (placements n (length ws)) in
      each_same (length ws) 0
      (λ b s. least_from time ws n (suc (length pre)) (loaded (busies time pre 1 ws) b (time (length pre) (get_or ws b 0))) s)
      (λ b s. least_all (time_on time ws) s (g (suc b))) best
      (λ b s k l.
      let e = busies-one time 1 b ws pre (suc b) (omega arith) (omega arith) in
      let m : length (pre ++ suc b ∷ []) ≡ suc (length pre) = simp length-append (omega arith) in
      rw (← e, ← m) (from_all ws n (pre ++ suc b ∷ []) s))
      ∙ sym (all-upward (time_on time ws) (length ws) 0 g best)
      ∙ ap (least_all (time_on time ws) best) (sym (map-upward pre (placements n (length ws)) (length ws) 1))

  -- no module has its bus yet
  pub from_on : (ws : List ℕ) (n best : ℕ) → least_from time ws n 0 (replicate (length ws) 0) best ≡ least_on time n ws best
  unfolding least_by
  from_on ws n best = rw (← busies-none time 1 ws) (from_all ws n [] best ∙ rw (map-id (placements n (length ws))))

  pub from_le : (ws : List ℕ) (n i : ℕ) (loads : List ℕ) (best : ℕ) → least_from time ws n i loads best ≤ best
  unfolding least_from
  from_le ws zero i loads best = omega arith
  from_le ws (suc n) i loads best =
      each_le (length ws) 0 (λ b s. least_from time ws n (suc i) (loaded loads b (time i (get_or ws b 0))) s) best
      (λ b s. from_le ws n (suc i) (loaded loads b (time i (get_or ws b 0))) s)

pub largest-loaded : (loads : List ℕ) (b t : ℕ) → largest loads ≤ largest (loaded loads b t)
unfolding largest
largest-loaded [] b t = omega arith
largest-loaded (x ∷ loads) zero t = omega arith
largest-loaded (x ∷ loads) (suc b) t = omega (arith, largest-loaded loads b t)

module _ (time : ℕ → ℕ → ℕ) (t : ℕ → ℕ) (ws : List ℕ) where
  -- a bus is busy for that long already
  pub from_top : (n i : ℕ) (loads : List ℕ) (best v : ℕ) → v ≤ best → v ≤ largest loads → v ≤ least_from time ws n i loads best
  unfolding least_from
  from_top zero i loads best v h l = omega arith
  from_top (suc n) i loads best v h l =
      each_ge (length ws) 0 v (λ b s. least_from time ws n (suc i) (loaded loads b (time i (get_or ws b 0))) s) best h
      (λ b s j k m. from_top n (suc i) (loaded loads b (time i (get_or ws b 0))) s v m (omega (arith, largest-loaded loads b (time i (get_or ws b 0)))))

  -- the loads, and the times that the modules left take at least, are more than the buses have room for below v
  pub from_load : (n i : ℕ) (loads : List ℕ) (best v : ℕ) → v ≤ best → length loads ≡ length ws
      → ((k j : ℕ) → i ≤ k → k < i + n → j < length ws → t k ≤ time k (get_or ws j 0))
      → length ws * v < sum loads + total n i t + length ws → v ≤ least_from time ws n i loads best
  unfolding least_from total
  from_load zero i loads best v h e s l =
      let z = largest loads in
      let not-below : z < v → ⊥ = λ m. omega (arith, rw e at (sum-largest loads), mul-suc (length ws) z, mul-le-mul_left (length ws) m) in
      omega arith
  from_load (suc n) i loads best v h e s l =
      each_ge (length ws) 0 v (λ b s. least_from time ws n (suc i) (loaded loads b (time i (get_or ws b 0))) s) best h
      (λ b r j k m.
      from_load n (suc i) (loaded loads b (time i (get_or ws b 0))) r v m (length-set loads b (get_or loads b 0 + time i (get_or ws b 0)) ∙ e)
      (λ x y p q o. s x y (omega arith) (omega arith) o)
      (omega (arith, sum_added loads b (time i (get_or ws b 0)) (omega arith), s i b (omega arith) (omega arith) (omega arith))))

  -- so a search may turn back
  pub from_top_skip : (n i : ℕ) (loads : List ℕ) (best : ℕ) → best ≤ largest loads → least_from time ws n i loads best ≡ best
  from_top_skip n i loads best h = omega (arith, from_le time ws n i loads best, from_top n i loads best best (omega arith) h)

  pub from_load_skip : (n i : ℕ) (loads : List ℕ) (best : ℕ) → length loads ≡ length ws
      → ((k j : ℕ) → i ≤ k → k < i + n → j < length ws → t k ≤ time k (get_or ws j 0))
      → length ws * best < sum loads + total n i t + length ws → least_from time ws n i loads best ≡ best
  from_load_skip n i loads best e s h = omega (arith, from_le time ws n i loads best, from_load n i loads best best (omega arith) e s h)

-- the turns of a loop over the buses
pub each_step : (c b : ℕ) (f : ℕ → ℕ → ℕ) (best : ℕ) → b < c → each_bus (c - b) b f best ≡ each_bus (c - (b + 1)) (b + 1) f (f b best)
unfolding each_bus
each_step c b f best h = let e : c - b ≡ suc (c - (b + 1)) = omega arith in rw (e, add-one b)

pub each-end : (c b : ℕ) (f : ℕ → ℕ → ℕ) (best : ℕ) → c ≤ b → each_bus (c - b) b f best ≡ best
unfolding each_bus
each-end c b f best h = let e : c - b ≡ 0 = omega arith in rw e

-- module i of n is to be placed, or all are
pub from_more : (time : ℕ → ℕ → ℕ) (ws : List ℕ) (n i : ℕ) (loads : List ℕ) (best : ℕ) → i < n
    → least_from time ws (n - i) i loads best ≡ each_bus (length ws - 0) 0
    (λ b s. least_from time ws (n - (i + 1)) (i + 1) (loaded loads b (time i (get_or ws b 0))) s) best
unfolding least_from
from_more time ws n i loads best h =
    let e : n - i ≡ suc (n - (i + 1)) = omega arith in
    let z : length ws - 0 ≡ length ws = omega arith in
    rw (e, z, add-one i)

pub from_end : (time : ℕ → ℕ → ℕ) (ws : List ℕ) (n i : ℕ) (loads : List ℕ) (best : ℕ) → n ≤ i
    → least_from time ws (n - i) i loads best ≡ min best (largest loads)
unfolding least_from
from_end time ws n i loads best h = let e : n - i ≡ 0 = omega arith in rw e

pub largest-loaded-is : (loads : List ℕ) (b t : ℕ) → b < length loads
    → largest (loaded loads b t) ≡ max (largest loads) (get_or loads b 0 + t)
unfolding largest
largest-loaded-is [] b t h = absurd (omega arith)
largest-loaded-is (x ∷ loads) zero t h = omega arith
largest-loaded-is (x ∷ loads) (suc b) t h = omega (arith, largest-loaded-is loads b t (omega arith))

pub at_sum : (loads : List ℕ) (b : ℕ) → get_or loads b 0 ≤ sum loads
unfolding sum
at_sum [] b = omega arith
at_sum (x ∷ loads) zero = omega arith
at_sum (x ∷ loads) (suc b) = omega (arith, at_sum loads b)
