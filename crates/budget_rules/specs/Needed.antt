-- How many tries the search needs (document 02, item 7): "It answers finished [..] exactly when the search needs no more tries than the
-- budget". They are those of the same search where no try is halted. The search is stated once more for any way to try a bus; with `tried
-- budget` it is `searched` (`searched_by_lem`).
use Rattle.std.specs.Prelude.{ℕ, zero, suc, ◌+◌, min, cond, List, [], ◌∷◌, ◌++◌, length, set, replicate}
use Rattle.plan_rules.specs.Plans.{largest}
use Rattle.plan_rules.specs.Listed.{plan, width_lists}
use Rattle.budget_rules.specs.Tries.{Sought, reached, keep, counted, each, busy_with, begin}

-- one try of a bus, by its busy figure with the module added and by how the search goes on
abbrev pub Trying : Type 0
Trying = ℕ → (Sought → Sought) → Sought → Sought

-- "A try counts as one": with no budget it is dropped or goes on, and is never halted
abbrev pub free : Trying
free busy on s = cond (reached s.best busy) (counted s) (on (counted s))

unfoldable pub placed_by : Trying → (ℕ → ℕ → ℕ) → List ℕ → ℕ → ℕ → List ℕ → List ℕ → Sought → Sought
placed_by one time ws zero i l bs s = keep s (largest l) (plan ws bs)
placed_by one time ws (suc k) i l bs s =
    each (length ws) 0
    (λ b. one (busy_with time ws i l b) (λ r. placed_by one time ws k (i + 1) (set l b (busy_with time ws i l b)) (bs ++ (b + 1) ∷ []) r)) s

unfoldable pub lists_by : Trying → (ℕ → ℕ → ℕ) → ℕ → List (List ℕ) → Sought → Sought
lists_by one time n [] s = s
lists_by one time n (ws ∷ wss) s = lists_by one time n wss (placed_by one time ws n 0 (replicate (length ws) 0) [] s)

unfoldable pub counts_by : Trying → (ℕ → ℕ → ℕ) → ℕ → ℕ → ℕ → ℕ → Sought → Sought
counts_by one time W n zero c s = s
counts_by one time W n (suc k) c s = counts_by one time W n k (suc c) (lists_by one time n (width_lists c 1 W) s)

-- the whole search, with these tries
abbrev pub searched_by : Trying → (ℕ → ℕ → ℕ) → ℕ → ℕ → ℕ → Sought
searched_by one time W B n = counts_by one time W n (min B W) 1 begin

-- "the search needs"
abbrev pub needed : (ℕ → ℕ → ℕ) → ℕ → ℕ → ℕ → ℕ
needed time W B n = (searched_by free time W B n).tries
