-- All plans, listed in their order, and the first of least time among them (document 01, "The plan"): "The answer is the first plan of
-- least time."
use Rattle.std.specs.Prelude.{ℕ, zero, suc, ◌-◌, min, cond, List, [], ◌∷◌, ◌++◌, map, ltb, eqb}
use Rattle.plan_rules.specs.Plans.{Plan, time_of}

-- what f gives at n numbers from i on, one behind the other
unfoldable pub upward : {A : Type 0} → ℕ → ℕ → (ℕ → List A) → List A
upward zero i f = []
upward (suc n) i f = f i ++ upward n (suc i) f

-- c non-decreasing widths of at least low that sum to W, the smaller first
unfoldable pub width_lists : ℕ → ℕ → ℕ → List (List ℕ)
width_lists zero low W = cond (eqb W 0) ([] ∷ []) []
width_lists (suc c) low W = upward (suc W - low) low λ w. map (λ ws. w ∷ ws) (width_lists c w (W - w))

-- a bus from 1 to c for each of n modules
unfoldable pub placements : ℕ → ℕ → List (List ℕ)
placements zero c = [] ∷ []
placements (suc n) c = upward c 1 λ b. map (λ bs. b ∷ bs) (placements n c)

abbrev pub plan : List ℕ → List ℕ → Plan
plan ws bs = record { widths = ws; buses = bs }

-- the plans on buses of the widths of each list
unfoldable pub plans_on : ℕ → ℕ → List (List ℕ) → List Plan
plans_on n c [] = []
plans_on n c (ws ∷ wss) = map (plan ws) (placements n c) ++ plans_on n c wss

-- "c buses, 1 ≤ c ≤ min(B, W)"
unfoldable pub plans : ℕ → ℕ → ℕ → List Plan
plans W B n = upward (min B W) 1 λ c. plans_on n c (width_lists c 1 W)

-- the first of least time: p so far, and ps to come
unfoldable pub first_least : (Plan → ℕ) → Plan → List Plan → Plan
first_least time p [] = p
first_least time p (q ∷ qs) = cond (ltb (time q) (time p)) (first_least time q qs) (first_least time p qs)

-- the first of a list that is not empty
unfoldable pub first_of : (Plan → ℕ) → List Plan → Plan
first_of time [] = plan [] []
first_of time (p ∷ ps) = first_least time p ps

-- the first of least cost of all plans, whatever a plan costs
unfoldable pub best_of : (Plan → ℕ) → ℕ → ℕ → ℕ → Plan
best_of cost W B n = first_of cost (plans W B n)

-- "The answer is the first plan of least time."
abbrev pub best_plan : (ℕ → ℕ → ℕ) → ℕ → ℕ → ℕ → Plan
best_plan time W B n = best_of (time_of time) W B n
