-- The search asks for the times of its modules on buses of 1 to W wires and for no others: over two times that agree on these it is the same.
-- So it may run over a table. Assumes nothing.
use Prim.Native.Nat.{ℕ, zero, suc, ◌+◌, ◌≤◌, ◌<◌, min}
use mathlib.Core.Path.{◌≡◌, refl, ap, ◌∙◌}
use mathlib.Core.List.{List, [], ◌∷◌, ◌++◌, Memᴰ}
use native.Mathlib.Omega.{arith}
use lib.ListN.{length, get_or, set, replicate}
use Rattle.plan_rules.specs.Listed.{width_lists}
use Rattle.plan_rules.specs.Widths.{Rising, more}
use Rattle.plan_rules.proofs.ListedLaws.{widths_sound}
use Rattle.plan_rules.proofs.BoundLaws.{width-most}
use Rattle.budget_rules.specs.Tries.{Sought, counted, each, busy_with, placed, placed_on, on_lists, on_counts, begin, searched}

-- what is the same at each number in turn
each_same : (j b : ℕ) (f g : ℕ → Sought → Sought) → ((x : ℕ) → b ≤ x → x < b + j → (s : Sought) → f x s ≡ g x s) → (s : Sought) → each j b f s ≡ each j b g s
unfolding each
each_same zero b f g h s = refl
each_same (suc j) b f g h s =
    ap (each j (b + 1) f) (h b (omega arith) (omega arith) s) ∙ each_same j (b + 1) f g (λ x k l. h x (omega arith) (omega arith)) (g b s)

-- rising widths are at least the lowest
rising-low : (low : ℕ) (ws : List ℕ) → Rising low ws → (b : ℕ) → b < length ws → low ≤ get_or ws b 0
rising-low low [] r b h = absurd (omega arith)
rising-low low (w ∷ ws) (more k r) zero h = k
rising-low low (w ∷ ws) (more k r) (suc b) h = let l = rising-low w ws r b (omega arith) in omega arith

module _ {f g : ℕ → ℕ → ℕ} {W n : ℕ} (same : (i w : ℕ) → i < n → 1 ≤ w → w ≤ W → f i w ≡ g i w) (budget : ℕ) where
  module _ (ws : List ℕ) (wide : (b : ℕ) → b < length ws → (1 ≤ get_or ws b 0) × (get_or ws b 0 ≤ W)) where
    placed_same : (k i : ℕ) → i + k ≤ n → (l bs : List ℕ) (s : Sought) → placed f ws budget k i l bs s ≡ placed g ws budget k i l bs s
    unfolding placed
    placed_same zero i h l bs s = refl
    placed_same (suc k) i h l bs s =
        each_same (length ws) 0 _ _ (λ b u v r.
        let e = same i (get_or ws b 0) (omega arith) (wide b (omega arith)).0 (wide b (omega arith)).1 in
        let p = placed_same k (i + 1) (omega arith) (set l b (busy_with g ws i l b)) (bs ++ (b + 1) ∷ []) (counted r) in
        rw (e, p)) s

  lists_same : (wss : List (List ℕ)) → ((ws : List ℕ) → Memᴰ ws wss → (b : ℕ) → b < length ws → (1 ≤ get_or ws b 0) × (get_or ws b 0 ≤ W))
      → (s : Sought) → on_lists f budget n wss s ≡ on_lists g budget n wss s
  unfolding on_lists
  lists_same [] h s = refl
  lists_same (ws ∷ wss) h s =
      rw (placed_same ws (h ws (Memᴰ.head refl)) n 0 (omega arith) (replicate (length ws) 0) [] s)
      (lists_same wss (λ vs m. h vs (Memᴰ.tail m)) (placed_on g budget n ws s))

  widths_in : (c : ℕ) (ws : List ℕ) → Memᴰ ws (width_lists c 1 W) → (b : ℕ) → b < length ws → (1 ≤ get_or ws b 0) × (get_or ws b 0 ≤ W)
  widths_in c ws m b h =
      let r = widths_sound c 1 W ws m in
      (rising-low 1 ws r.rising b h, omega (arith, width-most ws b, r.wires))

  counts_same : (k c : ℕ) (s : Sought) → on_counts f W budget n k c s ≡ on_counts g W budget n k c s
  unfolding on_counts
  counts_same zero c s = refl
  counts_same (suc k) c s =
      rw (lists_same (width_lists c 1 W) (widths_in c) s) (counts_same k (suc c) (on_lists g budget n (width_lists c 1 W) s))

  pub searched-same : (B : ℕ) → searched f W B n budget ≡ searched g W B n budget
  unfolding searched
  searched-same B = counts_same (min B W) 1 begin
