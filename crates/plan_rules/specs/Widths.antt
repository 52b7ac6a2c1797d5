-- Lists of widths: rising ones, two of which one is nowhere narrower, and how wide the buses of a list can be.
use Rattle.std.specs.Prelude.{ℕ, zero, suc, ◌-◌, ◌*◌, ◌/◌, ◌≤◌, List, [], ◌∷◌, ◌++◌, replicate}

-- widths that do not decrease, the first at least low
pub data Rising : ℕ → List ℕ → Type 0 where
  none : {low : ℕ} → Rising low []
  more : {low w : ℕ} {ws : List ℕ} → low ≤ w → Rising w ws → Rising low (w ∷ ws)

-- as many buses in both, those of the second at least as wide, all of 1 to top wires
pub data Wider (top : ℕ) : List ℕ → List ℕ → Type 0 where
  nothing : Wider top [] []
  wider : {w v : ℕ} {ws vs : List ℕ} → 1 ≤ w → w ≤ v → v ≤ top → Wider top ws vs → Wider top (w ∷ ws) (v ∷ vs)

-- how wide each of c buses can be, where they have W wires, none fewer than low, and none more than the next
unfoldable pub widest : ℕ → ℕ → ℕ → List ℕ
widest zero low W = []
widest (suc c) low W = (W / suc c) ∷ widest c low (W - low)

-- c buses of w wires, and one that has the rest
abbrev pub even : ℕ → ℕ → ℕ → List ℕ
even c w W = replicate c w ++ (W - c * w) ∷ []
