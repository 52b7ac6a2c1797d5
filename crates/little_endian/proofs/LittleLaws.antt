-- Laws of numbers in little-endian bytes: read byte by byte, and that bytes and number say each other. Assumes nothing.
use Prim.Native.Nat.{ℕ, zero, suc, ◌+◌, ◌*◌, ◌/◌, ◌%◌, ◌^◌, ◌-◌, ◌≤◌, ◌<◌, min}
use mathlib.Core.Path.{◌≡◌, refl, ap, sym, ◌∙◌}
use mathlib.Core.List.{List, [], ◌∷◌, ◌++◌}
use mathlib.Core.Logic.{◌⊎◌, inl, inr, ⊎_elim}
use native.Mathlib.Omega.{arith}
use native.Mathlib.Nat.{pow-succ'}
use Rattle.std.specs.Int.{to_le_bytes, from_le_bytes, bytes_low_first}
use Rattle.std.proofs.Common.{w64}
use Rattle.std.proofs.Math.Nat.{div-one, div-div-eq-div-mul}
use Rattle.std.proofs.lemmas.List.{take_min, drop-replicate}
use lib.ListN.{length, replicate, take, drop, length-append, length-replicate, length-take, length-drop, drop_of_length-le}
use lib.Seq.{take_all, drop-cons, length-take-le, take-add, drop-drop, get_or-take, get_or-drop}
use Rattle.little_endian.specs.Little.{little, number, byte, number_at}

-- what is taken of nothing, and a byte behind the end
take_none : (n : ℕ) → take {A = ℕ} n [] ≡ []
take_none zero = refl
take_none (suc n) = refl

pub byte-none : (f : List ℕ) (at : ℕ) → length f ≤ at → byte f at ≡ 0
byte-none [] at h = refl
byte-none (x ∷ f) zero h = absurd (omega arith)
byte-none (x ∷ f) (suc at) h = byte-none f at (omega arith)

pub number_behind : (n : ℕ) (f : List ℕ) (at : ℕ) → length f ≤ at → number_at n f at ≡ 0
unfolding number
number_behind n f at h = rw (drop_of_length-le f h, take_none n)

below_or : (a b : ℕ) → (a < b) ⊎ (b ≤ a)
below_or a zero = inr (omega arith)
below_or zero (suc b) = inl (omega arith)
below_or (suc a) (suc b) = ⊎_elim (λ h. inl (omega arith)) (λ h. inr (omega arith)) (below_or a b)

-- one byte more at the front
pub number_step : (n : ℕ) (f : List ℕ) (at : ℕ) → number_at (suc n) f at ≡ byte f at + 256 * number_at n f (suc at)
unfolding number
number_step n f at =
    ⊎_elim
    (λ h. rw (drop-cons f at 0 h))
    (λ h. number_behind (suc n) f at h ∙ omega (arith, byte-none f at h, number_behind n f (suc at) (omega arith)))
    (below_or at (length f))

pub number-none : (f : List ℕ) (at : ℕ) → number_at 0 f at ≡ 0
unfolding number
number-none f at = refl

-- the number in four bytes from a place on
abbrev pub four : List ℕ → ℕ → ℕ
four f at = byte f at + 256 * (byte f (at + 1) + 256 * (byte f (at + 2) + 256 * byte f (at + 3)))

pub number_more : (n : ℕ) (f : List ℕ) (at : ℕ) → number_at (suc (suc (suc (suc n)))) f at ≡ four f at + 4294967296 * number_at n f (at + 4)
number_more n f at =
    let e1 : at + 1 ≡ suc at = omega arith in
    let e2 : at + 2 ≡ suc (suc at) = omega arith in
    let e3 : at + 3 ≡ suc (suc (suc at)) = omega arith in
    let e4 : at + 4 ≡ suc (suc (suc (suc at))) = omega arith in
    rw (
      number_step (suc (suc (suc n))) f at,
      number_step (suc (suc n)) f (suc at),
      number_step (suc n) f (suc (suc at)),
      number_step n f (suc (suc (suc at))),
      e1,
      e2,
      e3,
      e4,
    ) (omega arith)

pub number-four : (f : List ℕ) (at : ℕ) → number_at 4 f at ≡ four f at
number-four f at = number_more 0 f at ∙ rw number-none (omega arith)

pub number_eight : (f : List ℕ) (at : ℕ) → number_at 8 f at ≡ number_at 4 f at + 4294967296 * number_at 4 f (at + 4)
number_eight f at = rw (number_more 4 f at, number-four f at)

pub little-length : (n v : ℕ) → length (little n v) ≡ n
unfolding little
little-length zero v = refl
little-length (suc n) v = ap suc (little-length n (v / 256))

-- every element is a byte
abbrev pub AreBytes : List ℕ → Type 0
AreBytes f = (i : ℕ) → i < length f → byte f i < 256

-- a number of n bytes, and its bytes
pub number-little : (n v : ℕ) → v < 256 ^ n → number (little n v) ≡ v
unfolding number little
number-little zero v h = omega arith
number-little (suc n) v h =
    let k : v < 256 * 256 ^ n = rw pow-succ' at h in
    rw (number-little n (v / 256) (omega arith)) (omega arith)

pub number_of_length : (bs : List ℕ) → AreBytes bs → little (length bs) (number bs) ≡ bs
unfolding number little
number_of_length [] b = refl
number_of_length (x ∷ bs) b =
    let k : x < 256 = b 0 (omega arith) in
    let r : (x + 256 * number bs) % 256 ≡ x = omega arith in
    let q : (x + 256 * number bs) / 256 ≡ number bs = omega arith in
    rw (r, q, number_of_length bs (λ i h. b (suc i) (omega arith)))

pub little-number : (n : ℕ) (bs : List ℕ) → length bs ≡ n → AreBytes bs → little n (number bs) ≡ bs
little-number n bs e b = rw (sym e) (number_of_length bs b)

-- n bytes of a file from a place on
pub part_length : (f : List ℕ) (n at : ℕ) → at + n ≤ length f → length (take n (drop at f)) ≡ n
part_length f n at h = length-take-le n (drop at f) (simp length-drop (omega arith))

pub part_bytes : (f : List ℕ) (n at : ℕ) → at + n ≤ length f → AreBytes f → AreBytes (take n (drop at f))
part_bytes f n at h b i k =
    let j : i < n = omega (arith, part_length f n at h) in
    rw (get_or-take, get_or-drop) (b (at + i) (omega arith))

pub part_join : (f : List ℕ) (n m at : ℕ) → take n (drop at f) ++ take m (drop (at + n) f) ≡ take (n + m) (drop at f)
part_join f n m at = rw (take-add n m (drop at f), drop-drop n at f)

pub part-number : (f : List ℕ) (n at : ℕ) → at + n ≤ length f → AreBytes f → little n (number_at n f at) ≡ take n (drop at f)
part-number f n at h b = little-number n (take n (drop at f)) (part_length f n at h) (part_bytes f n at h b)

-- a number's lowest bytes, as the library has them
little_take : (n m v : ℕ) → take n (little (n + m) v) ≡ little n v
unfolding little
little_take zero m v = refl
little_take (suc n) m v = let e : suc n + m ≡ suc (n + m) = omega arith in rw e (ap (λ l. v % 256 ∷ l) (little_take n m (v / 256)))

low-first : (i k v : ℕ) → bytes_low_first i k v ≡ little k (v / 256 ^ i)
unfolding little
low-first i zero v = refl
low-first zero (suc k) v =
    let a : v / 256 ^ 0 ≡ v = div-one v in
    let e : v / 256 ^ 1 ≡ v / 256 = refl in
    rw (a, low-first 1 k v)
low-first (suc i) (suc k) v =
    let p : 256 ^ suc i * 256 ≡ 256 ^ suc (suc i) = omega (arith, pow-succ' 256 (suc i)) in
    let a : v / 256 ^ suc i / 256 ≡ v / 256 ^ suc (suc i) = rw (← p) (div-div-eq-div-mul v (256 ^ suc i) 256) in
    rw (a, low-first (suc (suc i)) k v)

pub little_lowest : (n v : ℕ) → n ≤ 8 → take n (to_le_bytes w64 v) ≡ little n v
little_lowest n v h =
    let e : n + (8 - n) ≡ 8 = omega arith in
    let l : little 8 v ≡ to_le_bytes w64 v = sym (low-first 0 8 v ∙ ap (little 8) (div-one v)) in
    rw (e, l) at (little_take n (8 - n) v)

-- zeros behind bytes leave their number
number_zeros : (k : ℕ) → number (replicate k 0) ≡ 0
unfolding number
number_zeros zero = refl
number_zeros (suc k) = rw (number_zeros k) refl

number_padded : (bs : List ℕ) (k : ℕ) → number (bs ++ replicate k 0) ≡ number bs
unfolding number
number_padded [] k = number_zeros k
number_padded (x ∷ bs) k = rw (number_padded bs k) refl

-- no more than so many bytes make fewer than 256 of that power
number_most : (n : ℕ) (bs : List ℕ) → AreBytes bs → length bs ≤ n → number bs < 256 ^ n
unfolding number
number_most zero [] b h = omega arith
number_most zero (x ∷ bs) b h = absurd (omega arith)
number_most (suc n) [] b h = omega (arith, pow-succ' 256 n, number_most n [] b (omega arith))
number_most (suc n) (x ∷ bs) b h =
    let y : x < 256 = b 0 (omega arith) in
    omega (arith, y, pow-succ' 256 n, number_most n bs (λ i k. b (suc i) (omega arith)) (omega arith))

-- the number of eight bytes, as the library has it
eight : (w : List ℕ) → length w ≡ 8 → from_le_bytes w64 w ≡ number w
eight w e =
    let t : take 8 w ≡ w = take_all 8 w (omega arith) in
    let n : number_at 8 w 0 ≡ number w = ap number t in
    omega (arith, n, number_eight w 0, number-four w 0, number-four w 4)

-- what is left of b behind a place, as a slice from no further than its end on
rest-drop : (m at : ℕ) (b : List ℕ) → m ≡ min at (length b) → take (length b - m) (drop m b) ≡ drop at b
rest-drop m at b e =
    take_all (length b - m) (drop m b) (simp length-drop (omega arith))
    ∙ ⊎_elim
    (λ h. let k : m ≡ at = omega arith in rw k)
    (λ h. let k : length b ≤ m = omega arith in drop_of_length-le b k ∙ sym (drop_of_length-le b h))
    (below_or at (length b))

-- of the bytes of b from a place on, n at the front of eight zeros: their number is n bytes' number there
pub number_read : (n k m at : ℕ) (b w : List ℕ) → n ≤ 8 → m ≡ min at (length b)
    → let rest = take (length b - m) (drop m b) in
    k ≡ min n (length rest) → w ≡ take k rest → from_le_bytes w64 (w ++ drop k (replicate 8 0)) ≡ number_at n b at
number_read n k m at b w h e f g =
    let rest = take (length b - m) (drop m b) in
    let d : rest ≡ drop at b = rest-drop m at b e in
    let t : w ≡ take n (drop at b) = g ∙ ap (λ i. take i rest) f ∙ take_min n rest ∙ ap (take n) d in
    let z : drop {A = ℕ} k (replicate 8 0) ≡ replicate (8 - k) 0 = drop-replicate k 8 0 in
    let l : length w ≡ k = ap length g ∙ length-take-le k rest (omega arith) in
    let o : length (w ++ replicate (8 - k) 0) ≡ 8 = simp (length-append, length-replicate) (omega arith) in
    rw z (eight (w ++ replicate (8 - k) 0) o ∙ number_padded w (8 - k) ∙ ap number t)

pub number_fits : (n at : ℕ) (b : List ℕ) → AreBytes b → number_at n b at < 256 ^ n
number_fits n at b h =
    let l : length (take n (drop at b)) ≡ min n (length b - at) = rw length-take (rw length-drop refl) in
    number_most n (take n (drop at b))
    (λ i k. let j : i < n = omega arith in rw (get_or-take, get_or-drop) (h (at + i) (omega arith)))
    (omega arith)
