-- What bounds the time of a plan from below (document 02, item 10: "the least time is at least every planned module's time on a bus of W
-- wires, and B times it is at least the sum of those"): figures of the planned modules, added, and the smallest area of a module.
use Rattle.std.specs.Prelude.{ℕ, zero, suc, ◌+◌, ◌*◌, ◌≤◌, min, ◌≡◌}

-- what f gives at n numbers from i on, added
unfoldable pub total : ℕ → ℕ → (ℕ → ℕ) → ℕ
total zero i f = 0
total (suc n) i f = f i + total n (suc i) f

-- the smallest of what f gives from 1 to w, where w is at least 1
unfoldable pub smallest : (ℕ → ℕ) → ℕ → ℕ
smallest f zero = f 1
smallest f (suc w) = min (smallest f w) (f (suc w))

-- the smallest w × time at w of module i, w from 1 to W: it takes that many wires times cycles at least
abbrev pub area_of : (ℕ → ℕ → ℕ) → ℕ → ℕ → ℕ
area_of time W i = smallest (λ w. w * time i w) W

-- f gives r somewhere from 1 to w, and nowhere there less
pub record IsSmallest (f : ℕ → ℕ) (w r : ℕ) : Type 0 where
  pub at : ℕ
  pub low : 1 ≤ at
  pub high : at ≤ w
  pub is : f at ≡ r
  pub least : (u : ℕ) → 1 ≤ u → u ≤ w → r ≤ f u
