-- Laws of the width lists that begin alike (`starting_with`): those of which the next width is at most a share of what is left. Assumes
-- nothing.
use Prim.Native.Nat.{ℕ, zero, suc, ◌-◌, ◌*◌, ◌≤◌, ◌<◌}
use mathlib.Core.Path.{◌≡◌, refl, ap, ◌∙◌}
use mathlib.Core.List.{List, [], ◌∷◌, ◌++◌, map}
use native.Mathlib.Omega.{arith}
use native.Mathlib.Nat.{suc-mul, mul-le-mul_left}
use Rattle.plan_rules.specs.Listed.{upward, width_lists}
use Rattle.plan_rules.proofs.WidthListLaws.{upward-cut, width_lists-none, starting_append}
use Rattle.plan_search.specs.Lists.{starting_with}

starting_upward : (pre : List ℕ) (k left n i : ℕ)
    → map (λ ws. pre ++ ws) (upward n i (λ w. map (λ ws. w ∷ ws) (width_lists k w (left - w)))) ≡ upward n i (starting_with pre k left)
unfolding upward starting_with
starting_upward pre k left zero i = refl
starting_upward pre k left (suc n) i =
    starting_append pre i (width_lists k i (left - i)) (upward n (suc i) (λ w. map (λ ws. w ∷ ws) (width_lists k w (left - w))))
    ∙ ap (λ r. map (λ ws. (pre ++ i ∷ []) ++ ws) (width_lists k i (left - i)) ++ r) (starting_upward pre k left n (suc i))

-- widths from which on the others have no room
starting_none : (pre : List ℕ) (k left w : ℕ) → 1 ≤ k → 1 ≤ w → left < suc k * w → starting_with pre k left w ≡ []
unfolding starting_with
starting_none pre k left w h l m = rw (width_lists-none k w (left - w) h l (omega (arith, suc-mul k w, mul-le-mul_left k l)))

-- the lists of widths behind pre, of which the first is at most an equal share of what is left; the last is all of it
pub lists_group : (pre : List ℕ) (k low left most : ℕ) → 1 ≤ low → most ≤ left → (k ≡ 0 → most ≡ left)
    → ((w : ℕ) → suc most ≤ w → left < suc k * w)
    → map (λ ws. pre ++ ws) (width_lists (suc k) low left) ≡ upward (suc most - low) low (starting_with pre k left)
unfolding width_lists
lists_group pre zero low left most l m z s = let e : most ≡ left = z refl in rw e (starting_upward pre zero left (suc left - low) low)
lists_group pre (suc k) low left most l m z s =
    starting_upward pre (suc k) left (suc left - low) low
    ∙ upward-cut (starting_with pre (suc k) left) (suc left - low) (suc most - low) low (omega arith)
    (λ w g. starting_none pre (suc k) left w (omega arith) (omega arith) (s w (omega arith)))
