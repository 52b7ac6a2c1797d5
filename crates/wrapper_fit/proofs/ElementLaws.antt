-- Laws of the lengths of wrapper chains with elements in their places: how many chains there are and what they sum to, and that no chain
-- passes the longest element while an empty one is left. Assumes nothing.
use Prim.Native.Nat.{ℕ, zero, suc, ◌+◌, ◌-◌, ◌≤◌, ◌<◌, max}
use mathlib.Core.Path.{◌≡◌, refl, sym, ap, ◌∙◌}
use mathlib.Core.Bool.{Bool, true, false, cond}
use mathlib.Core.List.{List, [], ◌∷◌}
use native.Mathlib.Omega.{arith}
use native.Mathlib.Numerals.{add-one}
use lib.Dec.{leb, ltb, eqb}
use lib.ListN.{length, get_or, take, drop, set, replicate, drop_of_length-le}
use lib.Seq.{drop-cons, get_or-set_same}
use borrow.Author.Tests.{leb-true, leb-false, eqb-true, ltb-true, ltb-false, lt-ltb, le-ltb}
use Rattle.wrapper_fit.specs.Fit.{longest, total, better, goes, placed}
use Rattle.wrapper_fit.specs.Elements.{rank, with_chains}
use Rattle.wrapper_fit.proofs.FitLaws.{longest-at, longest-set, set-longest, zeros-longest, goes-below, goes_shortest, none-fits}
use Rattle.wrapper_fit.proofs.FitLaws.{placed-length, total-placed}

-- of two places the better is that of the lower rank
same_test : (a b c d : ℕ) → (a < b → c < d) → (b ≤ a → d ≤ c) → ltb a b ≡ ltb c d
same_test a b c d f g = go (ltb a b) refl
  where
    go : (t : Bool) → ltb a b ≡ t → ltb a b ≡ ltb c d
    go true e = e ∙ sym (lt-ltb c d (f (ltb-true a b e)))
    go false e = e ∙ sym (le-ltb c d (g (ltb-false a b e)))

pub better-rank : (n m x y : ℕ) → better n m x y ≡ ltb (rank n m y) (rank n m x)
unfolding better rank
better-rank n m x y = go (leb (x + n) m) (leb (y + n) m) refl refl
  where
    go : (p q : Bool) → leb (x + n) m ≡ p → leb (y + n) m ≡ q
        → cond q (cond p (ltb x y) true) (cond p false (ltb y x)) ≡ ltb (cond q (m - (y + n)) (y + n)) (cond p (m - (x + n)) (x + n))
    go true true e f =
        let a = leb-true (x + n) m e in
        let b = leb-true (y + n) m f in
        same_test x y (m - (y + n)) (m - (x + n)) (λ h. omega arith) (λ h. omega arith)
    go true false e f = sym (le-ltb (y + n) (m - (x + n)) (omega (arith, leb-false (y + n) m f)))
    go false true e f = sym (lt-ltb (m - (y + n)) (x + n) (omega (arith, leb-false (x + n) m e)))
    go false false e f = same_test y x (y + n) (x + n) (λ h. omega arith) (λ h. omega arith)

-- one after another
pub chains_step : (ns l : List ℕ) (i : ℕ) → i < length ns → with_chains (drop i ns) l ≡ with_chains (drop (i + 1) ns) (placed (get_or ns i 0) l)
unfolding with_chains
chains_step ns l i h = rw (add-one, drop-cons ns i 0 h)

pub chains-end : (ns l : List ℕ) (i : ℕ) → length ns ≤ i → with_chains (drop i ns) l ≡ l
unfolding with_chains
chains-end ns l i h = rw (drop_of_length-le ns h)

-- the number of wrapper chains stays, and their total grows by the elements
pub chains-length : (ns l : List ℕ) → length (with_chains ns l) ≡ length l
unfolding with_chains
chains-length [] l = refl
chains-length (n ∷ ns) l = chains-length ns (placed n l) ∙ placed-length n l

pub chains-total : (ns l : List ℕ) → 0 < length l → total (with_chains ns l) ≡ total l + total ns
unfolding with_chains total
chains-total [] l h = omega arith
chains-total (n ∷ ns) l h = omega (arith, chains-total ns (placed n l) (omega (arith, placed-length n l)), total-placed n l h)

-- the total of those passed and those to come
pub total_step : (l : List ℕ) (i : ℕ) → i < length l → total (drop i l) ≡ get_or l i 0 + total (drop (i + 1) l)
unfolding total
total_step l i h = rw (add-one, drop-cons l i 0 h)

-- chains that start empty
pub zeros-take : {A : Type 0} (k n : ℕ) (z : A) → k ≤ n → take k (replicate n z) ≡ replicate k z
zeros-take zero n z h = refl
zeros-take (suc k) zero z h = let no : ⊥ = omega arith in absurd no
zeros-take (suc k) (suc n) z h = ap (λ l. z ∷ l) (zeros-take k n z (omega arith))

pub zeros-total : (k : ℕ) → total (replicate k 0) ≡ 0
unfolding total
zeros-total zero = refl
zeros-total (suc k) = omega (arith, zeros-total k)

-- the longest with one element more
pub longest-placed-is : (n : ℕ) (l : List ℕ) → 0 < length l → longest (placed n l) ≡ max (longest l) (get_or l (goes n l) 0 + n)
unfolding placed
longest-placed-is n l h =
    let v = get_or l (goes n l) 0 + n in
    let a = longest-at (set l (goes n l) v) (goes n l) in
    let b : v ≤ longest (set l (goes n l) v) = rw (get_or-set_same l (goes n l) v 0 (goes-below n l h)) at a in
    omega (arith, b, longest-set l (goes n l) v, set-longest l (goes n l) v (omega arith))

-- how many chains are empty
unfoldable empties : List ℕ → ℕ
empties [] = 0
empties (x ∷ l) = cond (eqb x 0) 1 0 + empties l

zeros-empty : (k : ℕ) → empties (replicate k 0) ≡ k
unfolding empties
zeros-empty zero = refl
zeros-empty (suc k) = omega (arith, zeros-empty k)

-- an element takes at most one of them
set_empties : (l : List ℕ) (i v : ℕ) → empties l ≤ suc (empties (set l i v))
unfolding empties
set_empties [] i v = omega arith
set_empties (x ∷ l) zero v = go (eqb x 0)
  where
    go : (t : Bool) → cond t 1 0 + empties l ≤ suc (cond (eqb v 0) 1 0 + empties l)
    go true = omega arith
    go false = omega arith
set_empties (x ∷ l) (suc i) v = omega (arith, set_empties l i v)

-- the place of an empty chain
record EmptyAt (l : List ℕ) : Type 0 where
  at : ℕ
  below : at < length l
  none : get_or l at 0 ≡ 0

empty-at : (l : List ℕ) → 0 < empties l → EmptyAt l
unfolding empties
empty-at [] h = let z : ⊥ = omega arith in absurd z
empty-at (x ∷ l) h = go (eqb x 0) refl (empty-at l) h
  where
    go : (t : Bool) → eqb x 0 ≡ t → (0 < empties l → EmptyAt l) → 0 < cond t 1 0 + empties l → EmptyAt (x ∷ l)
    go true e f k = record { at = 0; below = omega arith; none = eqb-true x 0 e }
    go false e f k =
        let r = f (omega arith) in
        record { at = suc r.at; below = omega (arith, r.below); none = r.none }

-- while an empty chain is left, an element makes the longest no longer than itself
empty-longest : (n : ℕ) (l : List ℕ) → 0 < empties l → longest (placed n l) ≡ max (longest l) n
empty-longest n l h = go (leb (get_or l (goes n l) 0 + n) (longest l)) refl
  where
    e : EmptyAt l
    e = empty-at l h

    some : 0 < length l
    some = omega (arith, e.below)

    go : (t : Bool) → leb (get_or l (goes n l) 0 + n) (longest l) ≡ t → longest (placed n l) ≡ max (longest l) n
    go true q = omega (arith, leb-true (get_or l (goes n l) 0 + n) (longest l) q, longest-placed-is n l some)
    go false q =
        let over = none-fits n l (leb-false (get_or l (goes n l) 0 + n) (longest l) q) in
        let s = (goes_shortest n l some over e.at e.below).0 in
        omega (arith, s, e.none, longest-placed-is n l some)

chains-longest : (ns l : List ℕ) → length ns ≤ empties l → longest (with_chains ns l) ≡ max (longest l) (longest ns)
unfolding with_chains longest placed
chains-longest [] l h = omega arith
chains-longest (n ∷ ns) l h =
    let k : empties l ≤ suc (empties (placed n l)) = set_empties l (goes n l) (get_or l (goes n l) 0 + n) in
    omega (arith, chains-longest ns (placed n l) (omega arith), empty-longest n l (omega arith))

-- no more elements than chains
pub few-longest : (ns : List ℕ) (k : ℕ) → length ns ≤ k → longest (with_chains ns (replicate k 0)) ≡ longest ns
few-longest ns k h = omega (arith, zeros-longest k, chains-longest ns (replicate k 0) (omega (arith, zeros-empty k)))
