-- Laws of a text that is written whole into a buffer, or not at all. Assumes nothing.
use Prim.Native.Nat.{ℕ, ◌≤◌, ◌<◌}
use mathlib.Core.Path.{◌≡◌, refl, ◌∙◌}
use mathlib.Core.Bool.{Bool, true, false, cond}
use mathlib.Core.List.{List, ◌++◌}
use native.Mathlib.Omega.{arith}
use borrow.Author.Tests.{leb-false, le-leb}
use lib.ListN.{length, take, drop}
use lib.Dec.{leb}
use Rattle.buffer.specs.Puts.{put_front}
use Rattle.buffer.specs.Room.{all_or_none}

-- no more than there is
pub room_most : (n room : ℕ) → all_or_none n room ≤ n
unfolding all_or_none
room_most n room = go (leb n room)
  where
    go : (t : Bool) → cond t n 0 ≤ n
    go true = omega arith
    go false = omega arith

-- of a form whose first n bytes are w, k go into buf, which then is `end`
module _ (w form buf end : List ℕ) (n k : ℕ) (l : n ≡ length w) (p : take n form ≡ w) (e : k ≡ all_or_none n (length buf)) (a : end ≡ put_front (take k form) buf) where
  -- some are missing: there was no room, and none is written
  pub room-none : k < n → (leb (length w) (length buf) ≡ false) × (end ≡ buf)
  unfolding all_or_none
  room-none h = go (leb n (length buf)) refl e
    where
      go : (t : Bool) → leb n (length buf) ≡ t → k ≡ cond t n 0 → (leb (length w) (length buf) ≡ false) × (end ≡ buf)
      go true u q = absurd (omega arith)
      go false u q =
          let z : k ≡ 0 = q in
          let h : 0 ≤ length buf = omega arith in
          (rw (← l) u, a ∙ rw z (simp (le-leb 0 (length buf) h)))

  -- none is missing: there was room, and w is written
  pub room-all : n ≤ k → (leb (length w) (length buf) ≡ true) × (end ≡ w ++ drop (length w) buf)
  unfolding all_or_none
  room-all h = go (leb n (length buf)) refl e
    where
      go : (t : Bool) → leb n (length buf) ≡ t → k ≡ cond t n 0 → (leb (length w) (length buf) ≡ true) × (end ≡ w ++ drop (length w) buf)
      go true u q = let v : leb (length w) (length buf) ≡ true = rw (← l) u in (v, a ∙ rw (q, p) (simp v))
      go false u q = absurd (omega (arith, leb-false n (length buf) u))
