-- Laws of rising widths: each of them is a width, and the last is the widest. Assumes nothing.
use Prim.Native.Nat.{ℕ, zero, suc, ◌-◌, ◌≤◌, ◌<◌}
use mathlib.Core.List.{List, [], ◌∷◌}
use native.Mathlib.Omega.{arith}
use lib.ListN.{length, get_or}
use Rattle.plan_rules.specs.Widths.{Rising, none, more}
use Rattle.plan_rules.proofs.BusyLaws.{largest_le}
use Rattle.plan_search.specs.Search.{row_places, table_time, IsTable, AreWidths}
use Rattle.plan_search.specs.Least.{last_of}

rising-at : (u : ℕ) (ws : List ℕ) → Rising u ws → (j : ℕ) → j < length ws → u ≤ get_or ws j 0
rising-at u [] none j h = absurd (omega arith)
rising-at u (w ∷ ws) (more l r) zero h = l
rising-at u (w ∷ ws) (more l r) (suc j) h = omega (arith, rising-at w ws r j (omega arith))

rising_le : (u : ℕ) (ws : List ℕ) → Rising u ws → (j k : ℕ) → j ≤ k → k < length ws → get_or ws j 0 ≤ get_or ws k 0
rising_le u [] none j k h l = absurd (omega arith)
rising_le u (w ∷ ws) (more m r) zero zero h l = omega arith
rising_le u (w ∷ ws) (more m r) zero (suc k) h l = rising-at w ws r k (omega arith)
rising_le u (w ∷ ws) (more m r) (suc j) zero h l = absurd (omega arith)
rising_le u (w ∷ ws) (more m r) (suc j) (suc k) h l = rising_le w ws r j k (omega arith) (omega arith)

module _ {ws : List ℕ} (a : AreWidths ws) where
  pub width-at : (b : ℕ) → b < length ws → (1 ≤ get_or ws b 0) × (get_or ws b 0 ≤ row_places)
  width-at b h = (rising-at 1 ws a.rising b h, omega (arith, largest_le ws b, a.narrow))

  pub last-is : (1 ≤ last_of ws) × (last_of ws ≤ row_places)
  last-is = let h = a.some in width-at (length ws - 1) (omega arith)

  -- a module takes at least its time at the last width
  pub last-least : {t : List ℕ} {n : ℕ} → IsTable t n → (i j : ℕ) → i < n → j < length ws
      → table_time t i (last_of ws) ≤ table_time t i (get_or ws j 0)
  last-least table i j h k =
      table.falls i (get_or ws j 0) (last_of ws) h (width-at j k).0
      (rising_le 1 ws a.rising j (length ws - 1) (omega arith) (omega arith)) last-is.1
