-- Rows of records in bytes: one behind the other, and read a stride of bytes apart.
use Rattle.std.specs.Prelude.{ℕ, zero, suc, ◌+◌, List, [], ◌∷◌, ◌++◌}

-- one behind the other
unfoldable pub each : {A : Type 0} → (A → List ℕ) → List A → List ℕ
each f [] = []
each f (x ∷ xs) = f x ++ each f xs

-- what is read at n places, a stride of bytes apart, from a place on
unfoldable pub rows : {A : Type 0} → (ℕ → A) → ℕ → ℕ → ℕ → List A
rows read stride zero at = []
rows read stride (suc n) at = read at ∷ rows read stride n (at + stride)
