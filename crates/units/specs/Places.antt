-- The places of an array: those in use at its front, and the spare ones behind them.
use Rattle.std.specs.Prelude.{ℕ, ◌-◌, Bool, ◌&&◌, List, ◌++◌, length, take, drop, replicate}
use Rattle.std.specs.List.{list_all, list_any}

-- n places with xs at the front; the others hold z
unfoldable pub padded : {A : Type 0} → ℕ → A → List A → List A
padded n z xs = xs ++ replicate (n - length xs) z

-- p holds of every element
unfoldable pub all_of : {A : Type 0} → (A → Bool) → List A → Bool
all_of p xs = list_all p xs

-- p holds of some element
unfoldable pub any_of : {A : Type 0} → (A → Bool) → List A → Bool
any_of p xs = list_any p xs

-- of the places, the first n hold what p asks for, and the others, which are spare, what z asks for
abbrev pub filled : {A : Type 0} → ℕ → (A → Bool) → (A → Bool) → List A → Bool
filled n p z xs = all_of p (take n xs) && all_of z (drop n xs)
