-- Laws of the front of a text: its first line is the text's where its LF is in it, and is all of it where it is not. Assumes nothing.
use Prim.Native.Nat.{ℕ, zero, suc, ◌+◌, ◌-◌, ◌≤◌, ◌<◌, min}
use mathlib.Core.Path.{◌≡◌, sym, ◌∙◌}
use mathlib.Core.Bool.{Bool, true, false, cond}
use mathlib.Core.List.{List, [], ◌∷◌}
use native.Mathlib.Omega.{arith}
use borrow.Author.Tests.{lt-ltb}
use lib.ListN.{length, get_or, take}
use lib.Seq.{get_or-take, length-take-le}
use lib.Dec.{ltb}
use Rattle.fields.specs.Lines.{until_lf, line_to, line_ending, line_at}
use Rattle.fields.specs.declared.line.OneLine.{OneLine}
use Rattle.fields.proofs.CountLaws.{Counts, lf-counts}

-- a count at the front of a text, of the text's first n bytes
count-front : (f : List ℕ → ℕ) (p : ℕ → Bool) → Counts f p → (n : ℕ) (t : List ℕ) → f (take n t) ≡ min n (f t)
count-front f p k zero t = rw k.none (omega arith)
count-front f p k (suc n) [] = rw k.none (omega arith)
count-front f p k (suc n) (b ∷ t) = rw (k.more b (take n t), k.more b t) (go (count-front f p k n t) (p b))
  where
    go : f (take n t) ≡ min n (f t) → (c : Bool) → cond c (suc (f (take n t))) 0 ≡ min (suc n) (cond c (suc (f t)) 0)
    go ih true = omega arith
    go ih false = omega arith

pub until_front : (n : ℕ) (t : List ℕ) → until_lf (take n t) ≡ min n (until_lf t)
until_front n t = count-front until_lf _ lf-counts n t

module _ (t : List ℕ) where
  -- the line behind the first begins at its LF or behind it
  pub next-high : until_lf t ≤ (line_at t 0).next
  unfolding line_at line_ending
  next-high = go (ltb (0 + until_lf t) (length t))
    where
      go : (b : Bool) → until_lf t ≤ (cond {A = OneLine} b (record { to = line_to t 0 (0 + until_lf t); next = 0 + until_lf t + 1 }) (record { to = 0 + until_lf t; next = 0 + until_lf t })).next
      go true = omega arith
      go false = omega arith

  line-ended : until_lf t < length t → line_at t 0 ≡ record { to = line_to t 0 (until_lf t); next = until_lf t + 1 }
  unfolding line_at line_ending
  line-ended h =
      let z : 0 + until_lf t ≡ until_lf t = omega arith in
      rw (z, lt-ltb (until_lf t) (length t) h)

-- the first line ends within the first n bytes
pub line-front : (n : ℕ) (t : List ℕ) → until_lf t < n → n ≤ length t → line_at (take n t) 0 ≡ line_at t 0
line-front n t h k =
    let u : until_lf (take n t) ≡ until_lf t = until_front n t ∙ omega arith in
    let l : length (take n t) ≡ n = length-take-le n t k in
    let g : get_or (take n t) (until_lf t - 1) 0 ≡ get_or t (until_lf t - 1) 0 = get_or-take n t (until_lf t - 1) 0 (omega arith) in
    line-ended (take n t) (omega arith) ∙ rw (u, g) (sym (line-ended t (omega arith)))
