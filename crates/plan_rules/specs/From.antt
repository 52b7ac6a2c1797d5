-- The least time by recursion on the modules left, as a search has it that keeps nothing but the loads of the buses.
use Rattle.std.specs.Prelude.{ℕ, zero, suc, ◌+◌, min, List, length, get_or, set}
use Rattle.plan_rules.specs.Plans.{largest}

-- bus b, from 0, is busy for t more
abbrev pub loaded : List ℕ → ℕ → ℕ → List ℕ
loaded loads b t = set loads b (get_or loads b 0 + t)

-- n buses from b on, each of which may lower the best time
unfoldable pub each_bus : ℕ → ℕ → (ℕ → ℕ → ℕ) → ℕ → ℕ
each_bus zero b f best = best
each_bus (suc n) b f best = each_bus n (suc b) f (f b best)

-- the smaller of best and the least time of n more modules, from number i on, on buses of the widths ws with these loads
unfoldable pub least_from : (ℕ → ℕ → ℕ) → List ℕ → ℕ → ℕ → List ℕ → ℕ → ℕ
least_from time ws zero i loads best = min best (largest loads)
least_from time ws (suc n) i loads best = each_bus (length ws) 0 (λ b s. least_from time ws n (suc i) (loaded loads b (time i (get_or ws b 0))) s) best
