-- Laws of the busy figure of one bus, as a loop sums it. Assumes nothing.
use Prim.Native.Nat.{ℕ, ◌+◌, ◌<◌}
use mathlib.Core.Path.{◌≡◌, refl}
use mathlib.Core.Bool.{cond}
use mathlib.Core.List.{List, [], ◌∷◌}
use native.Mathlib.Omega.{arith}
use native.Mathlib.Nat.{add-zero, zero-add}
use native.Mathlib.Numerals.{add-one}
use lib.ListN.{length, get_or, take}
use lib.Seq.{take-suc, length-take-le}
use lib.Dec.{eqb}
use borrow.Author.Tests.{eq-eqb, ne_eqb}
use Rattle.plan_rules.specs.Plans.{busy_from}
use Rattle.plan_rules.proofs.BusyLaws.{busy-append}

module _ (time : ℕ → ℕ → ℕ) where
  pub busy-none : (b w : ℕ) (bs : List ℕ) → 0 ≡ busy_from time 0 b w (take 0 bs)
  unfolding busy_from
  busy-none b w bs = refl

  -- one module more
  busy_step : (b w : ℕ) (bs : List ℕ) (i : ℕ) → i < length bs
      → busy_from time 0 b w (take (i + 1) bs) ≡ busy_from time 0 b w (take i bs) + cond (eqb (get_or bs i 0) b) (time i w) 0
  unfolding busy_from
  busy_step b w bs i h =
      let k : length (take i bs) ≡ i = length-take-le i bs (omega arith) in
      rw (add-one, take-suc bs i 0 h, busy-append time 0 b w (take i bs) (get_or bs i 0 ∷ []), k, zero-add i) (omega arith)

  pub busy-here : (b w : ℕ) (bs : List ℕ) (i : ℕ) → i < length bs → get_or bs i 0 ≡ b
      → busy_from time 0 b w (take (i + 1) bs) ≡ busy_from time 0 b w (take i bs) + time i w
  busy-here b w bs i h e = rw (busy_step b w bs i h, eq-eqb (get_or bs i 0) b e)

  pub busy_else : (b w : ℕ) (bs : List ℕ) (i : ℕ) → i < length bs → (get_or bs i 0 ≡ b → ⊥)
      → busy_from time 0 b w (take (i + 1) bs) ≡ busy_from time 0 b w (take i bs)
  busy_else b w bs i h e = rw (busy_step b w bs i h, ne_eqb (get_or bs i 0) b e, add-zero)
