-- How long the longest wrapper chain is after cells (document 02, item 4): "Placing n cells of length 1 over k chains gives the larger of
-- the longest length before and the total length plus n, divided by k, rounded up."
use Rattle.std.specs.Prelude.{ℕ, ◌+◌, ◌-◌, ◌/◌, max}

-- t over k, rounded up
abbrev pub ceil : ℕ → ℕ → ℕ
ceil t k = (t + (k - 1)) / k

-- of k chains, the longest of which has length m and whose total length is t, the longest after n cells
abbrev pub evened : ℕ → ℕ → ℕ → ℕ → ℕ
evened m t n k = max m (ceil (t + n) k)
