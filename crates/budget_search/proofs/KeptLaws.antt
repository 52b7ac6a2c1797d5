-- Laws of the buffer of the best plan where a plan was put into it. Assumes nothing.
use Prim.Native.Nat.{ℕ, ◌+◌, ◌-◌, ◌≤◌, ◌<◌}
use mathlib.Core.Path.{◌≡◌, sym, ap, ◌∙◌}
use mathlib.Core.List.{List, [], ◌∷◌, ◌++◌}
use native.Mathlib.Omega.{arith}
use lib.ListN.{length, get_or, replicate, take, drop, set, length-append, length-drop}
use lib.Seq.{take-take, take-append_seam, take-append-le, drop-append_seam, length-take-le}
use Rattle.std.proofs.lemmas.List.{drop-replicate, take_more}
use Rattle.units.specs.Places.{padded}
use Rattle.units.proofs.PlaceLaws.{padded-set}
use Rattle.plan_rules.specs.Listed.{plan}
use Rattle.budget_search.specs.Steps.{buses_max, buses_at, best_places, plan_in}
use Rattle.budget_search.specs.Place.{Rooms}

-- numbers were put over those of a list from a place on
abbrev pub over : List ℕ → List ℕ → ℕ → List ℕ
over from to at = take at to ++ (from ++ drop (at + length from) to)

-- the count, the widths and the bus numbers were put
abbrev pub counted : List ℕ → List ℕ → List ℕ
counted ws best = set best 0 (length ws)

abbrev pub widened : List ℕ → List ℕ → List ℕ
widened ws best = over ws (counted ws best) 1

abbrev pub kept : List ℕ → List ℕ → List ℕ → List ℕ
kept ws bs best = over bs (widened ws best) buses_at

module _ (ws bs : List ℕ) (few : length ws ≤ buses_max) where
  -- with the count before a list that begins with the widths, and the bus numbers over what stands behind them
  plan-over : (D : List ℕ) → buses_max ≤ length ws + length D → plan_in (length bs) (over bs (length ws ∷ (ws ++ D)) buses_at) ≡ plan ws bs
  plan-over D e =
      let c = length ws in
      let l : List ℕ = ws ++ D in
      let X : List ℕ = take buses_max l in
      let E : List ℕ = drop (buses_at + length bs) (c ∷ l) in
      let n : length l ≡ length ws + length D = length-append ws D in
      let x : length X ≡ buses_max = length-take-le buses_max l (omega arith) in
      let w : take c (X ++ (bs ++ E)) ≡ ws = take-append-le c X (bs ++ E) (omega arith) ∙ take-take c buses_max l few
      ∙ take-append_seam ws D in
      let b : take (length bs) (drop buses_max (X ++ (bs ++ E))) ≡ bs =
      ap (λ j. take (length bs) (drop j (X ++ (bs ++ E)))) (sym x) ∙ ap (take (length bs)) (drop-append_seam X (bs ++ E))
      ∙ take-append_seam bs E in
      ap (λ y. plan y (take (length bs) (drop buses_max (X ++ (bs ++ E))))) w ∙ ap (plan ws) b

  pub plan-kept : (best : List ℕ) → length best ≡ best_places → plan_in (length bs) (kept ws bs best) ≡ plan ws bs
  plan-kept [] e = absurd (omega arith)
  plan-kept (x ∷ xs) e =
      let d : length (drop (1 + length ws) (length ws ∷ xs)) ≡ length xs - length ws = length-drop (1 + length ws) (length ws ∷ xs)
      ∙ omega arith in
      plan-over (drop (1 + length ws) (length ws ∷ xs)) (omega arith)

  pub rooms-kept : (best : List ℕ) → length best ≡ best_places → length (kept ws bs best) ≡ length best → Rooms (kept ws bs best)
  rooms-kept [] e f = absurd (omega arith)
  rooms-kept (x ∷ xs) e f = record { places = f ∙ e; count = few }

-- numbers copied to the front of zeros
pub front-padded : (m n d : ℕ) (l : List ℕ) → n + d ≤ length l → take n (drop d l) ++ drop n (replicate m 0) ≡ padded m 0 (take n (drop d l))
unfolding padded
front-padded m n d l h =
    let e : length (take n (drop d l)) ≡ n = length-take-le n (drop d l) (omega (arith, length-drop d l)) in
    rw (e, drop-replicate)

-- one more of them copied
pub padded-next : (m : ℕ) (l : List ℕ) (i : ℕ) → i < m → i < length l → set (padded m 0 (take i l)) i (get_or l i 0) ≡ padded m 0 (take (i + 1) l)
padded-next m l i h k =
    let e : length (take i l) ≡ i = length-take-le i l (omega arith) in
    ap (λ j. set (padded m 0 (take i l)) j (get_or l i 0)) (sym e) ∙ padded-set m 0 (get_or l i 0) (take i l) (omega arith)
    ∙ ap (padded m 0) (sym (take_more l i 0 k))
