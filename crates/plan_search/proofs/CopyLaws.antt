-- Laws of copying a list over the places of another from one of them on, place by place (`Copied`), and back to the front of places. Both
-- searches cite them. Assumes nothing.
use Prim.Native.Nat.{ℕ, suc, ◌+◌, ◌≤◌, ◌<◌}
use mathlib.Core.Path.{◌≡◌, refl, sym, ap, ◌∙◌}
use mathlib.Core.List.{List, [], ◌∷◌, ◌++◌, append_assoc}
use native.Mathlib.Omega.{arith}
use native.Mathlib.Numerals.{add-one}
use lib.ListN.{length, get_or, take, drop, set, length-append, length-set, length-drop, take-append-drop}
use lib.Seq.{take_all, take-suc, drop-cons, get_or-drop, set-append_seam, length-take-le}
use Rattle.units.specs.Places.{padded}
use Rattle.units.proofs.PlaceLaws.{padded-set}

-- a list over the places of another from place `at` on
abbrev pub over : List ℕ → List ℕ → ℕ → List ℕ
over from to at = take at to ++ (from ++ drop (at + length from) to)

-- the first i of what is copied
abbrev pub over_first : List ℕ → List ℕ → ℕ → ℕ → List ℕ
over_first from to at i = take at to ++ (take i from ++ drop (at + i) to)

-- they stand there, and all other places are as they were
pub record Copied (from to₀ : List ℕ) (at : ℕ) (to : List ℕ) (i : ℕ) : Type 0 where
  pub upto : i ≤ length from
  pub same_length : length to ≡ length to₀
  pub is : to ≡ over_first from to₀ at i

module _ (from to₀ : List ℕ) (at : ℕ) (room : at + length from ≤ length to₀) where
  pub copied_first : Copied from to₀ at to₀ 0
  copied_first =
      let z : at + 0 ≡ at = omega arith in
      record { upto = omega arith; same_length = refl; is = rw z (sym (take-append-drop at to₀)) }

  first_more : (i : ℕ) → i < length from → set (over_first from to₀ at i) (at + i) (get_or from i 0) ≡ over_first from to₀ at (i + 1)
  first_more i less =
      let A = take at to₀ in
      let B = take i from in
      let x = get_or from i 0 in
      let y = get_or to₀ (at + i) 0 in
      let D = drop (suc (at + i)) to₀ in
      let d : drop (at + i) to₀ ≡ y ∷ D = drop-cons to₀ (at + i) 0 (omega arith) in
      let n : length (A ++ B) ≡ at + i = length-append A B
      ∙ rw (length-take-le at to₀ (omega arith), length-take-le i from (omega arith)) in
      let f : take (i + 1) from ≡ B ++ x ∷ [] = rw add-one (take-suc from i 0 less) in
      let e : suc (at + i) ≡ at + (i + 1) = omega arith in
      ap (λ l. set (A ++ (B ++ l)) (at + i) x) d
      ∙ ap (λ l. set l (at + i) x) (sym (append_assoc A B (y ∷ D)))
      ∙ ap (λ j. set ((A ++ B) ++ y ∷ D) j x) (sym n)
      ∙ set-append_seam (A ++ B) y D x
      ∙ append_assoc A B (x ∷ D)
      ∙ ap (λ l. A ++ l) (sym (append_assoc B (x ∷ []) D))
      ∙ ap (λ l. A ++ (l ++ D)) (sym f)
      ∙ ap (λ j. A ++ (take (i + 1) from ++ drop j to₀)) e

  module _ (to : List ℕ) (i : ℕ) (b : Copied from to₀ at to i) where
    pub copied_more : (k : ℕ) → k ≡ at + i → i < length from → Copied from to₀ at (set to k (get_or from i 0)) (i + 1)
    copied_more k e h = record {
      upto = omega arith;
      same_length = length-set to k (get_or from i 0) ∙ b.same_length;
      is = ap (λ j. set to j (get_or from i 0)) e ∙ ap (λ l. set l (at + i) (get_or from i 0)) b.is ∙ first_more i h;
    }

    pub copied_all : length from ≤ i → to ≡ over from to₀ at
    copied_all h =
        let e : i ≡ length from = omega (arith, b.upto) in
        b.is ∙ ap (over_first from to₀ at) e
        ∙ ap (λ x. take at to₀ ++ (x ++ drop (at + length from) to₀)) (take_all (length from) from (omega arith))

-- behind the first place
pub over-behind : (from to : List ℕ) → 1 ≤ length to → over from to 1 ≡ get_or to 0 0 ∷ from ++ drop (length from + 1) to
over-behind from to h =
    let e : 1 + length from ≡ length from + 1 = omega arith in
    ap (λ l. l ++ (from ++ drop (1 + length from) to)) (take-suc to 0 0 h) ∙ ap (λ j. get_or to 0 0 ∷ from ++ drop j to) e

-- one more of the numbers from place d of l on is stored
taken_more : (l : List ℕ) (d i k : ℕ) → k ≡ i + d → k < length l → take (i + 1) (drop d l) ≡ take i (drop d l) ++ get_or l k 0 ∷ []
taken_more l d i k e m =
    let h : i < length (drop d l) = simp length-drop (omega arith) in
    let g : d + i ≡ k = omega arith in
    rw add-one (take-suc (drop d l) i 0 h) ∙ ap (λ x. take i (drop d l) ++ x ∷ []) (get_or-drop d l i 0 ∙ ap (λ j. get_or l j 0) g)

pub padded-more : (n : ℕ) (l : List ℕ) (d i k : ℕ) → i < n → k ≡ i + d → k < length l
    → set (padded n 0 (take i (drop d l))) i (get_or l k 0) ≡ padded n 0 (take (i + 1) (drop d l))
padded-more n l d i k h e m =
    rw (taken_more l d i k e m) (stored (take i (drop d l)) (length-take-le i (drop d l) (simp length-drop (omega arith))))
  where
    stored : (xs : List ℕ) → length xs ≡ i → set (padded n 0 xs) i (get_or l k 0) ≡ padded n 0 (xs ++ get_or l k 0 ∷ [])
    stored xs f = ap (λ j. set (padded n 0 xs) j (get_or l k 0)) (sym f) ∙ padded-set n 0 (get_or l k 0) xs (omega arith)
