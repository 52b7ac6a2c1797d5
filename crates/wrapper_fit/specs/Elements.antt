-- Elements that are put in their places one after another, as code that wants only the longest wrapper chain has them. Functions that are
-- not for callers speak of it.
use Rattle.std.specs.Prelude.{ℕ, ◌+◌, ◌-◌, cond, List, [], ◌∷◌, leb}
use Rattle.wrapper_fit.specs.Fit.{placed}

-- the lengths of wrapper chains with elements of these lengths in their places, one after another
unfoldable pub with_chains : List ℕ → List ℕ → List ℕ
with_chains [] l = l
with_chains (n ∷ ns) l = with_chains ns (placed n l)

-- a chain of length x as a place for an element of length n, where the longest has length m: the less, the better
unfoldable pub rank : ℕ → ℕ → ℕ → ℕ
rank n m x = cond (leb (x + n) m) (m - (x + n)) (x + n)
