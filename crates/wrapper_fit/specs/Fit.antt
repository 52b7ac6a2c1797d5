-- Where an element goes (document 01, "The wrapper rule"): "Each goes to the wrapper chain that becomes fullest without passing the longest
-- wrapper chain of that moment; if none can take it so, to the shortest. Ties go to the lowest number."
use Rattle.std.specs.Prelude.{ℕ, zero, suc, ◌+◌, max, Bool, true, false, cond, List, [], ◌∷◌, get_or, set, leb, ltb}

-- the longest of the lengths
unfoldable pub longest : List ℕ → ℕ
longest [] = 0
longest (x ∷ xs) = max x (longest xs)

-- the sum of the lengths
unfoldable pub total : List ℕ → ℕ
total [] = 0
total (x ∷ l) = x + total l

-- for an element of length n, is a wrapper chain of length y a better place than one of length x, where the longest has length m?
-- One that takes it without passing m is better than one that does not; of two that do, the fuller; of two that do not, the shorter.
unfoldable pub better : ℕ → ℕ → ℕ → ℕ → Bool
better n m x y = cond (leb (y + n) m) (cond (leb (x + n) m) (ltb x y) true) (cond (leb (x + n) m) false (ltb y x))

-- the best place of all, the first of several: i is the best so far, of length x, and the lengths from number j on are to come
unfoldable pub best_from : (ℕ → ℕ → Bool) → ℕ → ℕ → ℕ → List ℕ → ℕ
best_from b i x j [] = i
best_from b i x j (y ∷ ys) = cond (b x y) (best_from b j y (suc j) ys) (best_from b i x (suc j) ys)

-- the number, from 0, of the wrapper chain to which an element of length n goes
unfoldable pub goes : ℕ → List ℕ → ℕ
goes n [] = 0
goes n (x ∷ xs) = best_from (better n (longest (x ∷ xs))) 0 x 1 xs

-- the lengths with the element in its place
unfoldable pub placed : ℕ → List ℕ → List ℕ
placed n l = set l (goes n l) (get_or l (goes n l) 0 + n)

-- "cells, as elements of length 1, are added by the same rule": n of them
unfoldable pub with_cells : ℕ → List ℕ → List ℕ
with_cells zero l = l
with_cells (suc n) l = with_cells n (placed 1 l)

-- the longest length after n cells
unfoldable pub longest_after : ℕ → List ℕ → ℕ
longest_after n l = longest (with_cells n l)
