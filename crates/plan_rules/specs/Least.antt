-- The least time over all placements on buses of given widths, and the first list of widths on which the time is least.
use Rattle.std.specs.Prelude.{ℕ, min, ◌≡◌, cond, List, [], ◌∷◌, length, get_or, ltb, leb}
use Rattle.plan_rules.specs.Plans.{Plan, IsPlan, time_of}
use Rattle.plan_rules.specs.Listed.{upward, width_lists, placements, plan}

-- the least so far, and elements to come
unfoldable pub least_all : {A : Type 0} → (A → ℕ) → ℕ → List A → ℕ
least_all key t [] = t
least_all key t (x ∷ xs) = least_all key (min t (key x)) xs

-- the cost of a placement on buses of these widths
abbrev pub cost_on : (Plan → ℕ) → List ℕ → List ℕ → ℕ
cost_on cost ws bs = cost (plan ws bs)

-- the smaller of t and the least cost of n modules on buses of these widths
unfoldable pub least_by : (Plan → ℕ) → ℕ → List ℕ → ℕ → ℕ
least_by cost n ws t = least_all (cost_on cost ws) t (placements n (length ws))

-- with the time as the cost
abbrev pub time_on : (ℕ → ℕ → ℕ) → List ℕ → List ℕ → ℕ
time_on time = cost_on (time_of time)

abbrev pub least_on : (ℕ → ℕ → ℕ) → ℕ → List ℕ → ℕ → ℕ
least_on time = least_by (time_of time)

-- the least time so far, with the list of widths that has it
pub record Kept : Type 0 where
  pub time : ℕ
  pub widths : List ℕ

-- `least ws t` is the smaller of t and the least time on buses of the widths ws: a list whose least time is smaller becomes the kept one
unfoldable pub keep : (List ℕ → ℕ → ℕ) → Kept → List ℕ → Kept
keep least k ws = cond (ltb (least ws k.time) k.time) (record { time = least ws k.time; widths = ws }) k

unfoldable pub keep_lists : (List ℕ → ℕ → ℕ) → Kept → List (List ℕ) → Kept
keep_lists least k [] = k
keep_lists least k (ws ∷ wss) = keep_lists least (keep least k ws) wss

-- all lists of widths, in their order
unfoldable pub all_lists : ℕ → ℕ → List (List ℕ)
all_lists W B = upward (min B W) 1 λ c. width_lists c 1 W

-- the first element that takes at most T
unfoldable pub first_within : (List ℕ → ℕ) → ℕ → List (List ℕ) → List ℕ
first_within key T [] = []
first_within key T (x ∷ xs) = cond (leb (key x) T) x (first_within key T xs)

-- p has the cost that is kept, on buses of the widths that are kept, and its placement is the first on them to cost no more
pub record Stands (cost : Plan → ℕ) (n : ℕ) (k : Kept) (p : Plan) : Type 0 where
  pub time_is : cost p ≡ k.time
  pub plan_is : p ≡ plan k.widths (first_within (cost_on cost k.widths) k.time (placements n (length k.widths)))

-- the best so far, its time before its bus numbers, and placements to come, as the search in ascending order of the modules keeps it
unfoldable pub keep_all : (List ℕ → ℕ) → List ℕ → List (List ℕ) → List ℕ
keep_all time b [] = b
keep_all time b (bs ∷ bss) = cond (ltb (time bs) (get_or b 0 0)) (keep_all time (time bs ∷ bs) bss) (keep_all time b bss)

-- r is the time of some plan
pub record Reached (time : ℕ → ℕ → ℕ) (W B n r : ℕ) : Type 0 where
  pub reached : Plan
  pub is_plan : IsPlan W B n reached
  pub takes : time_of time reached ≡ r
