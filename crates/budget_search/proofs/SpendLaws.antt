-- Laws of a search that was stopped: whatever is to come changes nothing. And width lists that are joined. Assumes nothing.
use Prim.Native.Nat.{ℕ, zero, suc, ◌+◌, ◌≤◌}
use mathlib.Core.Path.{◌≡◌, refl, sym, ap}
use mathlib.Core.Bool.{true}
use mathlib.Core.List.{List, [], ◌∷◌, ◌++◌}
use native.Mathlib.Omega.{arith}
use lib.ListN.{length, set, replicate}
use borrow.Author.Tests.{le-ltb}
use Rattle.budget_rules.specs.Tries.{Sought, halted, each, busy_with, tried, placed, placed_on, on_lists}

-- ---- steps that change nothing
each_same : (f : ℕ → Sought → Sought) (s : Sought) → ((b : ℕ) → f b s ≡ s) → (j b : ℕ) → each j b f s ≡ s
unfolding each
each_same f s h zero b = refl
each_same f s h (suc j) b = rw (h b) (each_same f s h j (b + 1))

module _ (time : ℕ → ℕ → ℕ) (budget : ℕ) where
  module _ (n : ℕ) where
    -- ---- one list behind the other
    pub lists_append : (wss vss : List (List ℕ)) (s : Sought)
        → on_lists time budget n (wss ++ vss) s ≡ on_lists time budget n vss (on_lists time budget n wss s)
    unfolding on_lists
    lists_append [] vss s = refl
    lists_append (ws ∷ wss) vss s = lists_append wss vss (placed_on time budget n ws s)

    pub lists_none : (s : Sought) → on_lists time budget n [] s ≡ s
    unfolding on_lists
    lists_none s = refl

    pub lists_one : (ws : List ℕ) (s : Sought) → on_lists time budget n (ws ∷ []) s ≡ placed_on time budget n ws s
    unfolding on_lists
    lists_one ws s = refl

  -- ---- once the search was stopped, with the budget spent
  module _ (s : Sought) (stopped : s.stopped ≡ true) (spent : budget ≤ s.tries) where
    halted-same : halted s ≡ s
    halted-same = ap (λ x. record { best = s.best; stopped = x; tries = s.tries }) (sym stopped)

    tried_same : (busy : ℕ) (on : Sought → Sought) → tried budget busy on s ≡ s
    tried_same busy on = rw (le-ltb s.tries budget spent) halted-same

    placed_same : (ws : List ℕ) (k i : ℕ) (l bs : List ℕ) → placed time ws budget (suc k) i l bs s ≡ s
    unfolding placed
    placed_same ws k i l bs =
        each_same
        (λ b. tried budget (busy_with time ws i l b) (λ r. placed time ws budget k (i + 1) (set l b (busy_with time ws i l b))
        (bs ++ (b + 1) ∷ []) r))
        s (λ b. tried_same (busy_with time ws i l b) (λ r. placed time ws budget k (i + 1) (set l b (busy_with time ws i l b))
        (bs ++ (b + 1) ∷ []) r))
        (length ws) 0

    lists_same : (k : ℕ) (wss : List (List ℕ)) → on_lists time budget (suc k) wss s ≡ s
    unfolding on_lists
    lists_same k [] = refl
    lists_same k (ws ∷ wss) = rw (placed_same ws k 0 (replicate (length ws) 0) []) (lists_same k wss)

    pub lists_stopped : (n : ℕ) (wss : List (List ℕ)) → 1 ≤ n → on_lists time budget n wss s ≡ s
    lists_stopped zero wss h = absurd (omega arith)
    lists_stopped (suc k) wss h = lists_same k wss
