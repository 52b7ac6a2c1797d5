-- How numbers, fields and lines are written (document 01, "The SOC text"): "The written form has single spaces, LF after every line, no blank line".
use Rattle.std.specs.Prelude.{ℕ, zero, suc, ◌+◌, ◌/◌, ◌%◌, cond, List, [], ◌∷◌, ◌++◌, ltb}
use Rattle.fields.specs.Bytes.{space, lf}

-- the digits of n, of which there are at most k
unfoldable pub digits_of : ℕ → ℕ → List ℕ
digits_of zero n = []
digits_of (suc k) n = cond (ltb n 10) ((48 + n) ∷ []) (digits_of k (n / 10) ++ (48 + n % 10) ∷ [])

-- a number in decimal without leading zeros
unfoldable pub decimal : ℕ → List ℕ
decimal n = digits_of (suc n) n

-- fields parted by single spaces
unfoldable pub joined : List (List ℕ) → List ℕ
joined [] = []
joined (f ∷ []) = f
joined (f ∷ g ∷ fs) = f ++ space ∷ joined (g ∷ fs)

-- lines of fields: single spaces, and LF after every line
unfoldable pub written_lines : List (List (List ℕ)) → List ℕ
written_lines [] = []
written_lines (l ∷ ls) = joined l ++ lf ∷ written_lines ls
