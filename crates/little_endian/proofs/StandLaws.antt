-- Laws of bytes that stand at a place of others: the first of two parts stands there and the second behind it, a number that stands there is
-- the one read there, and elements that stand one behind another are those read a stride of bytes apart. Assumes nothing.
use Prim.Native.Nat.{ℕ, suc, ◌+◌, ◌^◌, ◌<◌}
use mathlib.Core.Path.{◌≡◌, refl, ap, sym, ◌∙◌}
use mathlib.Core.Bool.{Bool, true}
use mathlib.Core.List.{List, [], ◌∷◌, ◌++◌, append_assoc, append-nil}
use native.Mathlib.Omega.{arith}
use lib.ListN.{length, get_or, take, drop}
use lib.Seq.{take_at, drop_at, drop-drop}
use Rattle.units.specs.Places.{all_of}
use Rattle.units.proofs.TestLaws.{and_goes}
use Rattle.little_endian.specs.Little.{little, number_at}
use Rattle.little_endian.specs.Rows.{each, rows}
use Rattle.little_endian.proofs.LittleLaws.{number-little, little-length}

-- w stands in b from a place on
pub record Stands (w b : List ℕ) (at : ℕ) : Type 0 where
  pub rest : List ℕ
  pub is : drop at b ≡ w ++ rest

pub stands_whole : (b : List ℕ) → Stands b b 0
stands_whole b = record { rest = []; is = sym (append-nil b) }

module _ (u w : List ℕ) {b : List ℕ} {at : ℕ} where
  pub stands_first : Stands (u ++ w) b at → Stands u b at
  stands_first s = record { rest = w ++ s.rest; is = s.is ∙ append_assoc u w s.rest }

  pub stands_behind : (n to : ℕ) → length u ≡ n → at + n ≡ to → Stands (u ++ w) b at → Stands w b to
  stands_behind n to l e s =
      record { rest = s.rest; is = ap (λ k. drop k b) (sym e) ∙ sym (drop-drop n at b) ∙ ap (λ t. drop n t) (s.is ∙ append_assoc u w s.rest) ∙ drop_at u (w ++ s.rest) n l }

-- the bytes that stand at a place are the part from there on
pub part_stands : (w : List ℕ) {b : List ℕ} {at : ℕ} (n : ℕ) → length w ≡ n → Stands w b at → take n (drop at b) ≡ w
part_stands w n l s = rw s.is (take_at w s.rest n l)

-- the number that stands at a place is read there, and with more behind it so is it
pub number_stands : (n v : ℕ) {b : List ℕ} {at : ℕ} → v < 256 ^ n → Stands (little n v) b at → number_at n b at ≡ v
number_stands n v h s = rw (part_stands (little n v) n (little-length n v) s) (number-little n v h)

pub number-first : (n v : ℕ) (w : List ℕ) {b : List ℕ} {at : ℕ} → v < 256 ^ n → Stands (little n v ++ w) b at → number_at n b at ≡ v
number-first n v w h s = number_stands n v h (stands_first (little n v) w s)

pub number_behind : (n v : ℕ) (w : List ℕ) {b : List ℕ} {at : ℕ} (to : ℕ) → at + n ≡ to → Stands (little n v ++ w) b at → Stands w b to
number_behind n v w to e s = stands_behind (little n v) w n to (little-length n v) e s

-- elements of which each has as many bytes
module _ {A : Type 0} (f : A → List ℕ) (step : ℕ) (P : A → Type 0) (long : (x : A) → P x → length (f x) ≡ step) (b : List ℕ) (z : A) where
  -- read back one by one
  pub rows_stand : (read : ℕ → A) → ((x : A) (at : ℕ) → P x → Stands (f x) b at → read at ≡ x)
      → (xs : List A) (at : ℕ) → ((i : ℕ) → i < length xs → P (get_or xs i z)) → Stands (each f xs) b at → rows read step (length xs) at ≡ xs
  unfolding each rows
  rows_stand read back [] at p s = refl
  rows_stand read back (x ∷ xs) at p s =
      let h : P x = p 0 (omega arith) in
      let e : read at ≡ x = back x at h (stands_first (f x) (each f xs) s) in
      let t : rows read step (length xs) (at + step) ≡ xs =
      rows_stand read back xs (at + step) (λ i k. p (suc i) (omega arith)) (stands_behind (f x) (each f xs) step (at + step) (long x h) refl s) in
      cc

  -- what holds at each of their places holds at all
  pub all_stand : (q : ℕ → Bool) → ((x : A) (at : ℕ) → P x → Stands (f x) b at → q at ≡ true)
      → (xs : List A) (at : ℕ) → ((i : ℕ) → i < length xs → P (get_or xs i z)) → Stands (each f xs) b at → all_of q (rows (λ a. a) step (length xs) at) ≡ true
  unfolding each rows all_of
  all_stand q holds [] at p s = refl
  all_stand q holds (x ∷ xs) at p s =
      let h : P x = p 0 (omega arith) in
      and_goes _ _ (holds x at h (stands_first (f x) (each f xs) s))
      ∙ all_stand q holds xs (at + step) (λ i k. p (suc i) (omega arith)) (stands_behind (f x) (each f xs) step (at + step) (long x h) refl s)
