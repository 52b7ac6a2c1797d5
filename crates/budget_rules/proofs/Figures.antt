-- The search at a few budgets: four modules on 4 wires and at most three buses, counted by another program.
use Prim.Native.Nat.{ℕ, ◌-◌}
use mathlib.Core.Bool.{true, false}
use mathlib.Core.Path.{◌≡◌, refl}
use mathlib.Core.List.{List, [], ◌∷◌}
use lib.ListN.{get_or}
use Rattle.plan_rules.specs.Plans.{largest}
use Rattle.plan_rules.specs.Listed.{upward, width_lists, plan}
use Rattle.budget_rules.specs.Tries.{Best, Sought, reached, each, placed, on_lists, on_counts, searched}
use Rattle.budget_rules.specs.Needed.{placed_by, lists_by, counts_by, needed}

-- of each module, its times at 1 to 4 wires
abbrev times : List (List ℕ)
times = (9 ∷ 5 ∷ 4 ∷ 4 ∷ []) ∷ (7 ∷ 4 ∷ 3 ∷ 3 ∷ []) ∷ (8 ∷ 6 ∷ 2 ∷ 2 ∷ []) ∷ (5 ∷ 3 ∷ 3 ∷ 1 ∷ []) ∷ []

abbrev time : ℕ → ℕ → ℕ
time i w = get_or (get_or times i []) (w - 1) 0

abbrev found : ℕ → Sought
found budget = searched time 4 3 4 budget

-- no plan is met below four tries
pub three_tries : found 3 ≡ record { best = Best.unknown; stopped = true; tries = 3 }
unfolding searched on_counts on_lists width_lists upward placed each reached largest
three_tries = refl

pub four-tries : found 4 ≡ record { best = Best.known 10 (plan (4 ∷ []) (1 ∷ 1 ∷ 1 ∷ 1 ∷ [])); stopped = true; tries = 4 }
unfolding searched on_counts on_lists width_lists upward placed each reached largest
four-tries = refl

-- 47 tries are needed: one fewer and the search is stopped, though the best plan is found
pub tries-needed : needed time 4 3 4 ≡ 47
unfolding counts_by lists_by width_lists upward placed_by each reached largest
tries-needed = refl

pub one-short : found 46 ≡ record { best = Best.known 8 (plan (1 ∷ 1 ∷ 2 ∷ []) (3 ∷ 1 ∷ 2 ∷ 3 ∷ [])); stopped = true; tries = 46 }
unfolding searched on_counts on_lists width_lists upward placed each reached largest
one-short = refl

pub just_enough : found 47 ≡ record { best = Best.known 8 (plan (1 ∷ 1 ∷ 2 ∷ []) (3 ∷ 1 ∷ 2 ∷ 3 ∷ [])); stopped = false; tries = 47 }
unfolding searched on_counts on_lists width_lists upward placed each reached largest
just_enough = refl
