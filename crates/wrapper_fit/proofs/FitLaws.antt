-- Laws of the place of an element: the longest and the sum of the lengths, that each only grows, and the rule in the document's words.
-- Assumes nothing.
use Prim.Native.Nat.{ℕ, zero, suc, ◌+◌, ◌≤◌, ◌<◌, max}
use mathlib.Core.Path.{◌≡◌, refl, sym, ◌∙◌}
use mathlib.Core.Bool.{Bool, true, false, cond}
use mathlib.Core.List.{List, [], ◌∷◌}
use native.Mathlib.Omega.{arith}
use lib.Dec.{leb, ltb}
use lib.ListN.{length, get_or, drop, set, replicate, length-set, drop_of_length-le}
use lib.Seq.{drop-cons}
use borrow.Author.Count.{below_more}
use borrow.Author.Tests.{ltb-true, ltb-false, leb-true, leb-false, lt-ltb, le-ltb, le-leb, lt-leb}
use Rattle.std.specs.List.{fold, reduce}
use Rattle.std.specs.Option.{unwrap_or}
use Rattle.wrapper_fit.specs.Fit.{longest, total, better, best_from, goes, placed, with_cells}

-- what both ways have, the answer has
either : {A : Type 0} (P : A → Type 0) (t : Bool) (a b : A) → (t ≡ true → P a) → (t ≡ false → P b) → P (cond t a b)
either P true a b f g = f refl
either P false a b f g = g refl

-- the longest is the largest of the lengths, or 0
fold-longest : (a : ℕ) (l : List ℕ) → fold max a l ≡ max a (longest l)
unfolding longest
fold-longest a [] = omega arith
fold-longest a (x ∷ l) = omega (arith, fold-longest (max a x) l)

pub largest-longest : (l : List ℕ) → unwrap_or (reduce max l) 0 ≡ longest l
unfolding longest
largest-longest [] = refl
largest-longest (x ∷ l) = fold-longest x l

pub longest-at : (l : List ℕ) (i : ℕ) → get_or l i 0 ≤ longest l
unfolding longest
longest-at [] i = omega arith
longest-at (x ∷ l) zero = omega arith
longest-at (x ∷ l) (suc i) = omega (arith, longest-at l i)

pub longest-set : (l : List ℕ) (i v : ℕ) → longest (set l i v) ≤ max (longest l) v
unfolding longest
longest-set [] i v = omega arith
longest-set (x ∷ l) zero v = omega arith
longest-set (x ∷ l) (suc i) v = omega (arith, longest-set l i v)

pub set-longest : (l : List ℕ) (i v : ℕ) → get_or l i 0 ≤ v → longest l ≤ longest (set l i v)
unfolding longest
set-longest [] i v h = omega arith
set-longest (x ∷ l) zero v h = omega arith
set-longest (x ∷ l) (suc i) v h = omega (arith, set-longest l i v h)

pub zeros-longest : (k : ℕ) → longest (replicate k 0) ≡ 0
unfolding longest
zeros-longest zero = refl
zeros-longest (suc k) = omega (arith, zeros-longest k)

-- the best is one of the numbers
best-below : (b : ℕ → ℕ → Bool) (i x j : ℕ) (ys : List ℕ) → i < j → best_from b i x j ys < j + length ys
unfolding best_from
best-below b i x j [] h = omega arith
best-below b i x j (y ∷ ys) h =
    either (λ r. r < j + suc (length ys)) (b x y) _ _
    (λ _. omega (arith, best-below b j y (suc j) ys (omega arith)))
    (λ _. omega (arith, best-below b i x (suc j) ys (omega arith)))

pub goes-below : (n : ℕ) (l : List ℕ) → 0 < length l → goes n l < length l
unfolding goes
goes-below n [] h = h
goes-below n (x ∷ l) h = omega (arith, best-below (better n (longest (x ∷ l))) 0 x 1 l (omega arith))

-- lengths stay
pub placed-length : (n : ℕ) (l : List ℕ) → length (placed n l) ≡ length l
unfolding placed
placed-length n l = length-set l (goes n l) _

pub cells_length : (n : ℕ) (l : List ℕ) → length (with_cells n l) ≡ length l
unfolding with_cells
cells_length zero l = refl
cells_length (suc n) l = cells_length n (placed 1 l) ∙ placed-length 1 l

-- the longest grows by at most the element
pub longest-placed : (n : ℕ) (l : List ℕ) → longest (placed n l) ≤ longest l + n
unfolding placed
longest-placed n l = omega (arith, longest-set l (goes n l) (get_or l (goes n l) 0 + n), longest-at l (goes n l))

pub placed-longest : (n : ℕ) (l : List ℕ) → longest l ≤ longest (placed n l)
unfolding placed
placed-longest n l = set-longest l (goes n l) (get_or l (goes n l) 0 + n) (omega arith)

pub longest_cells : (n : ℕ) (l : List ℕ) → longest (with_cells n l) ≤ longest l + n
unfolding with_cells
longest_cells zero l = omega arith
longest_cells (suc n) l = omega (arith, longest_cells n (placed 1 l), longest-placed 1 l)

pub cells_longest : (n : ℕ) (l : List ℕ) → longest l ≤ longest (with_cells n l)
unfolding with_cells
cells_longest zero l = omega arith
cells_longest (suc n) l = omega (arith, cells_longest n (placed 1 l), placed-longest 1 l)

-- the sum of the lengths
total-set : (l : List ℕ) (i v : ℕ) → i < length l → total (set l i v) + get_or l i 0 ≡ total l + v
unfolding total
total-set [] i v h = omega arith
total-set (x ∷ l) zero v h = omega arith
total-set (x ∷ l) (suc i) v h = omega (arith, total-set l i v (omega arith))

pub total-placed : (n : ℕ) (l : List ℕ) → 0 < length l → total (placed n l) ≡ total l + n
unfolding placed
total-placed n l h = omega (arith, total-set l (goes n l) (get_or l (goes n l) 0 + n) (goes-below n l h))

pub total_cells : (n : ℕ) (l : List ℕ) → 0 < length l → total (with_cells n l) ≡ total l + n
unfolding with_cells
total_cells zero l h = omega arith
total_cells (suc n) l h = omega (arith, total_cells n (placed 1 l) (omega (arith, placed-length 1 l)), total-placed 1 l h)

pub total-at : (l : List ℕ) (i : ℕ) → get_or l i 0 ≤ total l
unfolding total
total-at [] i = omega arith
total-at (x ∷ l) zero = omega arith
total-at (x ∷ l) (suc i) = omega (arith, total-at l i)

pub longest-total : (l : List ℕ) → longest l ≤ total l
unfolding longest total
longest-total [] = omega arith
longest-total (x ∷ l) = omega (arith, longest-total l)

-- each length only grows
set_grow : (l : List ℕ) (i v j : ℕ) → get_or l i 0 ≤ v → get_or l j 0 ≤ get_or (set l i v) j 0
set_grow [] i v j h = omega arith
set_grow (x ∷ l) zero v zero h = h
set_grow (x ∷ l) zero v (suc j) h = omega arith
set_grow (x ∷ l) (suc i) v zero h = omega arith
set_grow (x ∷ l) (suc i) v (suc j) h = set_grow l i v j h

pub placed_grow : (n : ℕ) (l : List ℕ) (i : ℕ) → get_or l i 0 ≤ get_or (placed n l) i 0
unfolding placed
placed_grow n l i = set_grow l (goes n l) (get_or l (goes n l) 0 + n) i (omega arith)

pub cells_grow : (n : ℕ) (l : List ℕ) (i : ℕ) → get_or l i 0 ≤ get_or (with_cells n l) i 0
unfolding with_cells
cells_grow zero l i = omega arith
cells_grow (suc n) l i = omega (arith, placed_grow 1 l i, cells_grow n (placed 1 l) i)

-- of an order by which one place is better than another: not both are, and what is better than one is better than each that is no better
-- than it
pub record Ranks (b : ℕ → ℕ → Bool) : Type 0 where
  pub one : (x y : ℕ) → b x y ≡ true → b y x ≡ false
  pub over : (x y z : ℕ) → b x z ≡ false → b x y ≡ true → b z y ≡ true

ranks_self : (b : ℕ → ℕ → Bool) → Ranks b → (x : ℕ) → b x x ≡ false
ranks_self b r x = go (b x x) refl
  where
    go : (t : Bool) → b x x ≡ t → b x x ≡ false
    go true e = r.one x x e
    go false e = e

-- of the first j places none is better than g, and g is better than each before it
pub record FirstBest (b : ℕ → ℕ → Bool) (l : List ℕ) (g j : ℕ) : Type 0 where
  pub none : (k : ℕ) → k < j → b (get_or l g 0) (get_or l k 0) ≡ false
  pub first : (k : ℕ) → k < g → b (get_or l k 0) (get_or l g 0) ≡ true

up_to : (P : ℕ → Type 0) (i : ℕ) → ((k : ℕ) → k < i → P k) → P i → (k : ℕ) → k < suc i → P k
up_to P i f p k h = below_more P i f p k (omega arith)

module _ (b : ℕ → ℕ → Bool) (r : Ranks b) (l : List ℕ) where
  first_found : (g j : ℕ) → FirstBest b l g j → b (get_or l g 0) (get_or l j 0) ≡ true → FirstBest b l j (suc j)
  first_found g j f e =
      record {
        none =
            up_to (λ k. b (get_or l j 0) (get_or l k 0) ≡ false) j (λ k h. r.one (get_or l k 0) (get_or l j 0) (less k h))
            (ranks_self b r (get_or l j 0));
        first = less;
      }
    where
      less : (k : ℕ) → k < j → b (get_or l k 0) (get_or l j 0) ≡ true
      less k h = r.over (get_or l g 0) (get_or l j 0) (get_or l k 0) (f.none k h) e

  first_stays : (g j : ℕ) → FirstBest b l g j → b (get_or l g 0) (get_or l j 0) ≡ false → FirstBest b l g (suc j)
  first_stays g j f e = record { none = up_to (λ k. b (get_or l g 0) (get_or l k 0) ≡ false) j f.none e; first = f.first }

  best-first : (n i j : ℕ) → j + n ≡ length l → FirstBest b l i j → FirstBest b l (best_from b i (get_or l i 0) j (drop j l)) (length l)
  unfolding best_from
  best-first zero i j e f =
      let m : j ≡ length l = omega arith in
      rw (drop_of_length-le l {i = j} (omega arith)) (rw (← m) f)
  best-first (suc n) i j e f =
      let h : j < length l = omega arith in
      let up : suc j + n ≡ length l = omega arith in
      rw (drop-cons l j 0 h)
      (either (λ g. FirstBest b l g (length l)) (b (get_or l i 0) (get_or l j 0)) _ _
      (λ t. best-first n j (suc j) up (first_found i j f t))
      (λ t. best-first n i (suc j) up (first_stays i j f t)))

better_ranks : (n m : ℕ) → Ranks (better n m)
unfolding better
better_ranks n m =
    record {
      one = λ x y. one x y (leb (x + n) m) (leb (y + n) m);
      over = λ x y z. over x y z (leb (x + n) m) (leb (y + n) m) (leb (z + n) m);
    }
  where
    by : Bool → Bool → ℕ → ℕ → Bool
    by p q x y = cond q (cond p (ltb x y) true) (cond p false (ltb y x))

    one : (x y : ℕ) (p q : Bool) → by p q x y ≡ true → by q p y x ≡ false
    one x y true true h = omega (arith, ltb-true, le-ltb)
    one x y true false h = sym h
    one x y false true h = refl
    one x y false false h = omega (arith, ltb-true, le-ltb)

    over : (x y z : ℕ) (p q r : Bool) → by p r x z ≡ false → by p q x y ≡ true → by r q z y ≡ true
    over x y z true true true h k = omega (arith, ltb-true, ltb-false, lt-ltb)
    over x y z true true false h k = refl
    over x y z true false true h k = k
    over x y z true false false h k = cc
    over x y z false true true h k = cc
    over x y z false true false h k = refl
    over x y z false false true h k = sym h
    over x y z false false false h k = omega (arith, ltb-true, ltb-false, lt-ltb)

-- no place is better than the one to which an element goes, and that is better than each before it
pub goes-best : (n : ℕ) (l : List ℕ) → 0 < length l → FirstBest (better n (longest l)) l (goes n l) (length l)
unfolding goes
goes-best n [] h = let z : ⊥ = omega arith in absurd z
goes-best n (x ∷ l) h =
    best-first (better n (longest (x ∷ l))) (better_ranks n (longest (x ∷ l))) (x ∷ l) (length l) 0 1 (omega arith)
    (record {
      none = λ k j. let e : k ≡ 0 = omega arith in rw e (ranks_self (better n (longest (x ∷ l))) (better_ranks n (longest (x ∷ l))) x);
      first = λ k j. let z : ⊥ = omega arith in absurd z;
    })

-- y takes the element without passing m, and x is no worse: so x does too, and is as full
fits_both : (n m x y : ℕ) → y + n ≤ m → better n m x y ≡ false → (x + n ≤ m) × (y ≤ x)
unfolding better
fits_both n m x y h e = go (leb (x + n) m) refl (simp (le-leb (y + n) m h) at e)
  where
    go : (p : Bool) → leb (x + n) m ≡ p → cond p (ltb x y) true ≡ false → (x + n ≤ m) × (y ≤ x)
    go true q k = (leb-true (x + n) m q, ltb-false x y k)
    go false q k = let z : ◌≡◌ {A = ℕ} 0 1 = cc in omega arith

fuller : (n m x y : ℕ) → x + n ≤ m → y + n ≤ m → better n m x y ≡ true → x < y
unfolding better
fuller n m x y h k e = ltb-true x y (simp (le-leb (x + n) m h, le-leb (y + n) m k) at e)

shorter : (n m x y : ℕ) → m < x + n → m < y + n → better n m x y ≡ ltb y x
unfolding better
shorter n m x y h k = simp (lt-leb (x + n) m h, lt-leb (y + n) m k)

-- "to the wrapper chain that becomes fullest without passing the longest wrapper chain of that moment", the first of several
pub goes_fullest : (n : ℕ) (l : List ℕ) (j : ℕ) → j < length l → get_or l j 0 + n ≤ longest l
    → (get_or l (goes n l) 0 + n ≤ longest l) × (get_or l j 0 ≤ get_or l (goes n l) 0) × (j < goes n l → get_or l j 0 < get_or l (goes n l) 0)
goes_fullest n l j h k =
    let f = goes-best n l (omega arith) in
    let w = fits_both n (longest l) (get_or l (goes n l) 0) (get_or l j 0) k (f.none j h) in
    (w.0, w.1, λ a. fuller n (longest l) (get_or l j 0) (get_or l (goes n l) 0) k w.0 (f.first j a))

-- where the chain to which an element goes passes the longest with it, each does
pub none-fits : (n : ℕ) (l : List ℕ) → longest l < get_or l (goes n l) 0 + n → (j : ℕ) → j < length l → longest l < get_or l j 0 + n
none-fits n l h j k = go (leb (get_or l j 0 + n) (longest l)) refl
  where
    go : (t : Bool) → leb (get_or l j 0 + n) (longest l) ≡ t → longest l < get_or l j 0 + n
    go true e = omega (arith, goes_fullest n l j k (leb-true (get_or l j 0 + n) (longest l) e))
    go false e = leb-false (get_or l j 0 + n) (longest l) e

-- "if none can take it so, to the shortest", the first of several
pub goes_shortest : (n : ℕ) (l : List ℕ) → 0 < length l → ((j : ℕ) → j < length l → longest l < get_or l j 0 + n) → (j : ℕ) → j < length l
    → (get_or l (goes n l) 0 ≤ get_or l j 0) × (j < goes n l → get_or l (goes n l) 0 < get_or l j 0)
goes_shortest n l h over j k =
    let f = goes-best n l h in
    let g = over (goes n l) (goes-below n l h) in (
      ltb-false (get_or l j 0) (get_or l (goes n l) 0)
          (sym (shorter n (longest l) (get_or l (goes n l) 0) (get_or l j 0) g (over j k)) ∙ f.none j k),
      λ a. ltb-true (get_or l (goes n l) 0) (get_or l j 0)
          (sym (shorter n (longest l) (get_or l j 0) (get_or l (goes n l) 0) (over j k) g) ∙ f.first j a),
    )
