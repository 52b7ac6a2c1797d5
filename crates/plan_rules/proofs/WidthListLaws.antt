-- Laws of the width lists, as a search goes over them: stretches that are joined, widths at which the others have no room, the last
-- width. Assumes nothing.
use Prim.Native.Nat.{ℕ, zero, suc, ◌+◌, ◌-◌, ◌*◌, ◌≤◌, ◌<◌}
use mathlib.Core.Path.{◌≡◌, refl, sym, ap, ◌∙◌}
use mathlib.Core.List.{List, [], ◌∷◌, ◌++◌, map, append_assoc, append-nil}
use native.Mathlib.Omega.{arith}
use native.Mathlib.Nat.{suc-mul, mul-le-mul_left}
use native.Mathlib.Numerals.{add-one}
use borrow.Author.Tests.{ne_eqb}
use Rattle.plan_rules.specs.Listed.{upward, width_lists}

module _ {A : Type 0} (f : ℕ → List A) where
  -- two stretches, one behind the other
  pub upward-append : (n m i : ℕ) → upward (n + m) i f ≡ upward n i f ++ upward m (i + n) f
  unfolding upward
  upward-append zero m i = let z : zero + m ≡ m = omega arith in let y : i + zero ≡ i = omega arith in rw (z, y)
  upward-append (suc n) m i =
      let z : suc n + m ≡ suc (n + m) = omega arith in
      let y : i + suc n ≡ suc i + n = omega arith in
      rw (z, y, upward-append n m (suc i)) (sym (append_assoc (f i) (upward n (suc i) f) (upward m (suc i + n) f)))

  pub upward-none : (n i : ℕ) → ((j : ℕ) → i ≤ j → f j ≡ []) → upward n i f ≡ []
  unfolding upward
  upward-none zero i h = refl
  upward-none (suc n) i h = rw (h i (omega arith), upward-none n (suc i) (λ j k. h j (omega arith)))

  -- where later numbers give nothing, it is cut there
  pub upward-cut : (n m i : ℕ) → m ≤ n → ((j : ℕ) → i + m ≤ j → f j ≡ []) → upward n i f ≡ upward m i f
  unfolding upward
  upward-cut n zero i h k = upward-none n i (λ j l. k j (omega arith))
  upward-cut zero (suc m) i h k = absurd (omega arith)
  upward-cut (suc n) (suc m) i h k = ap (λ r. f i ++ r) (upward-cut n m (suc i) (omega arith) (λ j l. k j (omega arith)))

  -- where earlier ones give nothing, it is what the last gives
  pub upward-last : (n i j : ℕ) → i + n ≡ j → ((k : ℕ) → i ≤ k → k < j → f k ≡ []) → upward (suc n) i f ≡ f j
  unfolding upward
  upward-last zero i j e h = let g : i ≡ j = omega arith in rw g (append-nil (f j))
  upward-last (suc n) i j e h = rw (h i (omega arith) (omega arith)) (upward-last n (suc i) j (omega arith) (λ k l m. h k (omega arith) m))

-- c widths of at least low have no room
pub width_lists-none : (c low left : ℕ) → 1 ≤ c → 1 ≤ low → left < c * low → width_lists c low left ≡ []
unfolding width_lists upward
width_lists-none zero low left h l k = absurd (omega arith)
width_lists-none (suc zero) low left h l k = let e : suc left - low ≡ 0 = omega arith in rw e
width_lists-none (suc (suc c)) low left h l k =
    upward-none (λ w. map (λ ws. w ∷ ws) (width_lists (suc c) w (left - w))) (suc left - low) low (λ w m.
    rw (width_lists-none (suc c) w (left - w) (omega arith) (omega arith) (less_room c low left w l m k)))
  where
    less_room : (c low left w : ℕ) → 1 ≤ low → low ≤ w → left < suc (suc c) * low → left - w < suc c * w
    less_room c low left w l m k = omega (arith, mul-le-mul_left (suc (suc c)) m, suc-mul (suc c) w, suc-mul c w)

-- one width takes what is left
pub width_lists-one : (low left : ℕ) → low ≤ left → width_lists 1 low left ≡ (left ∷ []) ∷ []
unfolding width_lists
width_lists-one low left h =
    let e : suc left - low ≡ suc (left - low) = omega arith in
    let z : left - left ≡ 0 = omega arith in
    rw e (upward-last (λ w. map (λ ws. w ∷ ws) (width_lists zero w (left - w))) (left - low) low left (omega arith)
    (λ w l m. rw (ne_eqb (left - w) 0 (λ n. omega arith))) ∙ rw z)

-- lists that begin with pre, of which the first width of some is w
pub starting_append : (pre : List ℕ) (w : ℕ) (vss wss : List (List ℕ))
    → map (λ ws. pre ++ ws) (map (λ ws. w ∷ ws) vss ++ wss) ≡ map (λ ws. (pre ++ w ∷ []) ++ ws) vss ++ map (λ ws. pre ++ ws) wss
starting_append pre w [] wss = refl
starting_append pre w (vs ∷ vss) wss = rw (starting_append pre w vss wss, append_assoc)

-- the lists behind pre whose first width is low, and those whose first width is more
pub lists_more : (pre : List ℕ) (k low left : ℕ) → low ≤ left
    → map (λ ws. pre ++ ws) (width_lists (suc k) low left)
    ≡ map (λ ws. (pre ++ low ∷ []) ++ ws) (width_lists k low (left - low)) ++ map (λ ws. pre ++ ws) (width_lists (suc k) (low + 1) left)
unfolding width_lists upward
lists_more pre k low left h =
    let e : suc left - low ≡ suc (suc left - (low + 1)) = omega arith in
    rw (e, add-one low) (starting_append pre low (width_lists k low (left - low))
    (upward (suc left - suc low) (suc low) (λ w. map (λ ws. w ∷ ws) (width_lists k w (left - w)))))
