-- Laws of rows, over any reading, stride, number and start: an array filled with what is read at their places, what every one of them holds as a loop
-- walks them, and elements put one behind another. Assumes nothing.
use Prim.Native.Nat.{ℕ, zero, suc, ◌+◌, ◌-◌, ◌*◌, ◌≤◌, ◌<◌}
use mathlib.Core.Path.{◌≡◌, refl, ap, sym, ◌∙◌}
use mathlib.Core.Bool.{Bool, true, false}
use mathlib.Core.List.{List, [], ◌∷◌, ◌++◌, append_assoc, append-nil}
use native.Mathlib.Omega.{arith}
use native.Mathlib.Nat.{mul-suc}
use native.Mathlib.Numerals.{add-one}
use lib.ListN.{length, get_or, take, drop, set, replicate, length-append}
use lib.Seq.{drop-cons, take_all}
use Rattle.units.specs.Places.{all_of, padded}
use Rattle.units.proofs.PlaceLaws.{padded-none, padded-set}
use Rattle.units.proofs.TestLaws.{and_stops, and_goes}
use Rattle.buffer.specs.Puts.{Put}
use Rattle.little_endian.specs.Rows.{each, rows}
use Rattle.buffer.proofs.PutLaws.{put-none, put_then}

-- one place more at the end
pub rows_end : {A : Type 0} (read : ℕ → A) (step n from : ℕ) → rows read step (suc n) from ≡ rows read step n from ++ read (from + step * n) ∷ []
unfolding rows
rows_end read step zero from = let e : from + step * 0 ≡ from = omega arith in rw e
rows_end read step (suc n) from =
    let e : from + step * suc n ≡ from + step + step * n = omega (arith, mul-suc step n) in
    rw (e, rows_end read step n (from + step))

pub rows-length : {A : Type 0} (read : ℕ → A) (step n from : ℕ) → length (rows read step n from) ≡ n
unfolding rows
rows-length read step zero from = refl
rows-length read step (suc n) from = ap suc (rows-length read step n (from + step))

-- an array filled from the front: at first, by one place more, and to its end
pub filled_none : {A : Type 0} (n : ℕ) (z : A) (read : ℕ → A) (step from : ℕ) → replicate n z ≡ padded n z (rows read step 0 from)
unfolding rows
filled_none n z read step from = sym (padded-none n z)

pub filled_step : {A : Type 0} (n : ℕ) (z v : A) (read : ℕ → A) (step i from : ℕ) → i < n → v ≡ read (from + step * i) → set (padded n z (rows read step i from)) i v ≡ padded n z (rows read step (i + 1) from)
filled_step n z v read step i from h e =
    let l : length (rows read step i from) < n = rw (rows-length read step i from) h in
    ap (λ k. set (padded n z (rows read step i from)) k v) (sym (rows-length read step i from))
    ∙ padded-set n z v (rows read step i from) l
    ∙ rw (e, add-one, rows_end read step i from)

pub filled-end : {A : Type 0} (n : ℕ) (z : A) (read : ℕ → A) (step i from : ℕ) → i ≡ n → padded n z (rows read step i from) ≡ rows read step n from
unfolding padded
filled-end n z read step i from e =
    let k : n - n ≡ 0 = omega arith in
    rw (e, rows-length read step n from, k) (append-nil (rows read step n from))

-- bytes one behind the other are a part of the bytes
pub rows-bytes : (b : List ℕ) (n at : ℕ) → at + n ≤ length b → rows (λ p. get_or b p 0) 1 n at ≡ take n (drop at b)
unfolding rows
rows-bytes b zero at h = refl
rows-bytes b (suc n) at h =
    let l : at < length b = omega arith in
    let k : at + 1 + n ≤ length b = omega arith in
    rw (drop-cons b at 0 l) (ap (λ t. get_or b at 0 ∷ t) (rows-bytes b n (at + 1) k ∙ rw add-one))

-- every place from the i-th on: where the i-th passes, where it fails, and where none is left
pub all-rows_step : (p : ℕ → Bool) (step n i from : ℕ) → i < n → p (from + step * i) ≡ true → all_of p (rows (λ a. a) step (n - i) (from + step * i)) ≡ all_of p (rows (λ a. a) step (n - (i + 1)) (from + step * (i + 1)))
unfolding rows all_of
all-rows_step p step n i from h t =
    let e : n - i ≡ suc (n - (i + 1)) = omega arith in
    let a : from + step * (i + 1) ≡ from + step * i + step = omega (arith, mul-suc step i) in
    rw (e, a) (and_goes _ _ t)

pub all-rows_fails : (p : ℕ → Bool) (step n i from : ℕ) → i < n → p (from + step * i) ≡ false → all_of p (rows (λ a. a) step (n - i) (from + step * i)) ≡ false
unfolding rows all_of
all-rows_fails p step n i from h t = let e : n - i ≡ suc (n - (i + 1)) = omega arith in rw e (and_stops _ _ t)

pub all-rows-end : (p : ℕ → Bool) (step n i from : ℕ) → n ≤ i → all_of p (rows (λ a. a) step (n - i) from) ≡ true
unfolding rows all_of
all-rows-end p step n i from h = let e : n - i ≡ 0 = omega arith in rw e

-- the first i elements of l are put from a place on, k bytes for each
pub record Run {A : Type 0} (f : A → List ℕ) (k : ℕ) (l : List A) (at : ℕ) (before : List ℕ) (i : ℕ) (buf : List ℕ) (e : ℕ) : Type 0 where
  pub kept : length buf ≡ length before
  pub behind : e ≡ at + k * i
  pub long : length (each f (take i l)) ≡ k * i
  pub put : Put (each f (take i l)) at before buf e

module _ {A : Type 0} (f : A → List ℕ) where
  each_more : (i : ℕ) (l : List A) (z : A) → i < length l → each f (take (suc i) l) ≡ each f (take i l) ++ f (get_or l i z)
  unfolding each
  each_more i [] z h = absurd (omega arith)
  each_more zero (x ∷ l) z h = append-nil (f x)
  each_more (suc i) (x ∷ l) z h = ap (λ w. f x ++ w) (each_more i l z (omega arith)) ∙ sym (append_assoc (f x) (each f (take i l)) (f (get_or l i z)))

  module _ (k : ℕ) where
    each_long : (l : List A) (z : A) → ((i : ℕ) → i < length l → length (f (get_or l i z)) ≡ k) → length (each f l) ≡ k * length l
    unfolding each
    each_long [] z h = omega arith
    each_long (x ∷ l) z h =
        let a : length (f x) ≡ k = h 0 (omega arith) in
        let b : length (each f l) ≡ k * length l = each_long l z (λ i m. h (suc i) (omega arith)) in
        let o : k * suc (length l) ≡ k * length l + k = mul-suc k (length l) in
        rw length-append (omega arith)

    -- n elements
    pub each-length : (l : List A) (n : ℕ) (z : A) → length l ≡ n → ((i : ℕ) → i < n → length (f (get_or l i z)) ≡ k) → length (each f l) ≡ k * n
    each-length l n z e h = rw e at (each_long l z (λ i m. h i (omega arith)))

  module _ (k : ℕ) (l : List A) where
    pub run_none : (at : ℕ) (buf : List ℕ) → Run f k l at buf 0 buf at
    unfolding each
    run_none at buf = record { kept = refl; behind = omega arith; long = omega arith; put = put-none at buf }

    -- one element more
    pub run_more : {at i e r : ℕ} {before buf next : List ℕ} (z : A) → i < length l → at ≤ length before → Run f k l at before i buf e
        → length next ≡ length buf → length (f (get_or l i z)) ≡ k → Put (f (get_or l i z)) e buf next r → Run f k l at before (i + 1) next r
    run_more {at} {i} {e} {r} z h a run n w p =
        let m : each f (take (i + 1) l) ≡ each f (take i l) ++ f (get_or l i z) = rw add-one (each_more i l z h) in
        let o : k * (i + 1) ≡ k * i + k = rw add-one (mul-suc k i) in
        record {
          kept = n ∙ run.kept;
          behind = omega (arith, p.behind, run.behind);
          long = rw (m, length-append) (omega (arith, run.long));
          put = rw m (put_then a run.put p);
        }

    -- all of them
    pub run-all : (n : ℕ) {at i e : ℕ} {before buf : List ℕ} → length l ≡ n → i ≡ n → Run f k l at before i buf e
        → Put (each f l) at before buf e × (length (each f l) ≡ k * n)
    run-all n {at} {i} h m run = let t : take i l ≡ l = take_all i l (omega arith) in (rw t at run.put, rw (t, m) at run.long)
