-- Laws of how a layout's lengths are held: of threaded chains, with cells in their places, and by how much they grew. Assumes nothing.
use Prim.Native.Nat.{ℕ, zero, suc, ◌-◌, ◌≤◌, ◌<◌}
use mathlib.Core.Path.{◌≡◌, refl, sym, ap, ◌∙◌}
use mathlib.Core.List.{List, [], ◌∷◌, ◌++◌, map, map-append}
use mathlib.Core.Bool.{Bool}
use native.Mathlib.Omega.{arith}
use lib.ListN.{length, get_or, take, drop, replicate, length-map, length-replicate}
use lib.Seq.{take_at, drop_at}
use Rattle.units.specs.Places.{padded}
use Rattle.soc.specs.declared.record.Module.{Module}
use Rattle.wrapper_fit.specs.Fit.{longest, with_cells}
use Rattle.wrapper_fit.specs.Maxima.{width_max}
use Rattle.wrapper_fit.proofs.FitLaws.{cells_length}
use Rattle.wrapper_scans.specs.Chains.{used_chains, thread, empty, threaded}
use Rattle.wrapper_scans.specs.Held.{front, order_of}
use Rattle.wrapper_scans.proofs.ChainLaws.{order-front, thread-length}
use Rattle.wrapper_layout.specs.LayoutAnswers.{gained}

pub gained-at : (xs ys : List ℕ) (i : ℕ) → i < length xs → i < length ys → get_or (gained xs ys) i 0 ≡ get_or ys i 0 - get_or xs i 0
unfolding gained
gained-at [] ys i h k = let no : ⊥ = omega arith in absurd no
gained-at (x ∷ xs) [] i h k = let no : ⊥ = omega arith in absurd no
gained-at (x ∷ xs) (y ∷ ys) zero h k = refl
gained-at (x ∷ xs) (y ∷ ys) (suc i) h k = gained-at xs ys i (omega arith) (omega arith)

pub gained-length : (xs ys : List ℕ) → length xs ≡ length ys → length (gained xs ys) ≡ length xs
unfolding gained
gained-length [] ys e = refl
gained-length (x ∷ xs) [] e = let no : ⊥ = omega arith in absurd no
gained-length (x ∷ xs) (y ∷ ys) e = ap suc (gained-length xs ys (omega arith))

gained-append : (xs ys zs : List ℕ) → length xs ≡ length ys → gained (xs ++ zs) (ys ++ zs) ≡ gained xs ys ++ gained zs zs
unfolding gained
gained-append [] [] zs e = refl
gained-append [] (y ∷ ys) zs e = let no : ⊥ = omega arith in absurd no
gained-append (x ∷ xs) [] zs e = let no : ⊥ = omega arith in absurd no
gained-append (x ∷ xs) (y ∷ ys) zs e = ap (λ l. (y - x) ∷ l) (gained-append xs ys zs (omega arith))

gained-zeros : (n : ℕ) → gained (replicate n 0) (replicate n 0) ≡ replicate n 0
unfolding gained
gained-zeros zero = refl
gained-zeros (suc n) = ap (λ l. 0 ∷ l) (gained-zeros n)

-- what is held past the width stays, and does not grow
pub cells_held : (n k : ℕ) (a l : List ℕ) → a ≡ padded width_max 0 l → length l ≡ k
    → with_cells n (take k a) ++ drop k a ≡ padded width_max 0 (with_cells n l)
unfolding padded
cells_held n k a l e h =
    let z : List ℕ = replicate (width_max - length l) 0 in
    ap (λ x. with_cells n (take k x) ++ drop k x) e
    ∙ rw (take_at l z k h, drop_at l z k h, cells_length n l)

pub gained-held : (a b xs ys : List ℕ) → a ≡ padded width_max 0 xs → b ≡ padded width_max 0 ys → length xs ≡ length ys
    → gained a b ≡ padded width_max 0 (gained xs ys)
unfolding padded
gained-held a b xs ys e f h =
    let z : List ℕ = replicate (width_max - length xs) 0 in
    let g : b ≡ ys ++ z = f ∙ ap (λ j. ys ++ replicate (width_max - j) 0) (sym h) in
    let m : gained z z ≡ replicate (width_max - length (gained xs ys)) 0 = gained-zeros (width_max - length xs)
    ∙ ap (λ j. replicate (width_max - j) 0) (sym (gained-length xs ys h)) in
    ap (λ x. gained x b) e ∙ ap (gained (xs ++ z)) g ∙ gained-append xs ys z h ∙ ap (λ x. gained xs ys ++ x) m

-- each place of what is held
map-replicate : {A B : Type 0} (f : A → B) (n : ℕ) (z : A) → map f (replicate n z) ≡ replicate n (f z)
map-replicate f zero z = refl
map-replicate f (suc n) z = ap (λ l. f z ∷ l) (map-replicate f n z)

pub map-padded : {A B : Type 0} (f : A → B) (n : ℕ) (z : A) (xs : List A) → map f (padded n z xs) ≡ padded n (f z) (map f xs)
unfolding padded
map-padded f n z xs = rw (map-append, map-replicate, length-map)

-- no place holds more than the longest
append-zeros : (xs : List ℕ) (m i : ℕ) → get_or (xs ++ replicate m 0) i 0 ≤ longest xs
unfolding longest
append-zeros [] zero i = omega arith
append-zeros [] (suc m) zero = omega arith
append-zeros [] (suc m) (suc i) = append-zeros [] m i
append-zeros (x ∷ xs) m zero = omega arith
append-zeros (x ∷ xs) m (suc i) = omega (arith, append-zeros xs m i)

pub padded-longest : (n : ℕ) (xs : List ℕ) (i : ℕ) → get_or (padded n 0 xs) i 0 ≤ longest xs
unfolding padded
padded-longest n xs i = append-zeros xs (n - length xs) i

-- the chains of what is held
pub held-threaded : (d : Module) (scan : Bool) (w : ℕ) → thread (front (order_of (used_chains d scan))) (empty w) ≡ threaded d scan w
unfolding threaded
held-threaded d scan w = ap (λ cs. thread cs (empty w)) (order-front (used_chains d scan))

pub threaded-length : (d : Module) (scan : Bool) (w : ℕ) → length (threaded d scan w).lengths ≡ w
unfolding threaded
threaded-length d scan w = thread-length (used_chains d scan) (empty w) ∙ length-replicate w 0
