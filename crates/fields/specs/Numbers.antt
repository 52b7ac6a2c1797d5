-- Decimal numbers (document 01, "The SOC text"): "Numbers are decimal without leading zeros."
use Rattle.std.specs.Prelude.{ℕ, ◌+◌, ◌-◌, ◌*◌, min, Bool, true, false, cond, ◌&&◌, List, [], ◌∷◌, leb, eqb}
use Rattle.std.proofs.Math.Option.{Option, some, none}
use Rattle.std.specs.Prelude as prelude

abbrev pub digit : ℕ → Bool
digit b = leb 48 b && leb b 57

-- the number that digits make behind v
unfoldable pub digits : List ℕ → ℕ → Option ℕ
digits [] v = some v
digits (b ∷ bs) v = cond (digit b) (digits bs (v * 10 + (b - 48))) none

unfoldable pub more : List ℕ → Bool
more [] = false
more (b ∷ bs) = true

-- the number that a field is, however long; none where it is not decimal
unfoldable pub decimal_of : List ℕ → Option ℕ
decimal_of [] = none
decimal_of (b ∷ bs) = cond (eqb b 48 && more bs) none (digits (b ∷ bs) 0)

-- over every limit of the documents
abbrev pub cap : ℕ
cap = 4294967296

-- a number as an answer has it: one over the cap as the cap
unfoldable pub cut : Option ℕ → prelude.Option ℕ
cut none = prelude.None
cut (some v) = prelude.Some (min v cap)
