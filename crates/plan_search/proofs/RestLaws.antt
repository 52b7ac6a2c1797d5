-- Laws of the sums of what is left, as a loop fills them from the last module on. Assumes nothing.
use Prim.Native.Nat.{ℕ, zero, suc, ◌+◌, ◌-◌, ◌*◌, ◌≤◌}
use mathlib.Core.Path.{◌≡◌, ◌∙◌}
use mathlib.Core.Logic.{⊎_elim}
use mathlib.Core.List.{List}
use native.Mathlib.Omega.{arith}
use native.Mathlib.Nat.{eq-or-lt_of_le, suc-mul}
use lib.ListN.{length, get_or, set, length-set}
use lib.Seq.{get_or-set_same, get_or-set_other}
use Rattle.plan_rules.specs.Bounds.{total}

-- the sum of m times at most
pub total-most : (n i m : ℕ) (f : ℕ → ℕ) → ((j : ℕ) → f j ≤ m) → total n i f ≤ n * m
unfolding total
total-most zero i m f h = omega arith
total-most (suc n) i m f h = omega (arith, h i, total-most n (suc i) m f h, suc-mul n m)

-- of n modules, the sums from place i on stand in their places
pub record Summed (f : ℕ → ℕ) (n : ℕ) (rest : List ℕ) (i : ℕ) : Type 0 where
  pub upto : i ≤ n
  pub long : length rest ≡ n + 1
  pub sums : (k : ℕ) → i ≤ k → k ≤ n → get_or rest k 0 ≡ total (n - k) k f

module _ (f : ℕ → ℕ) (n : ℕ) where
  -- behind the last module nothing is left
  pub summed_first : (rest : List ℕ) → length rest ≡ n + 1 → Summed f n (set rest n 0) n
  unfolding total
  summed_first rest e = record {
    upto = omega arith;
    long = length-set rest n 0 ∙ e;
    sums = λ k l h.
        let g : k ≡ n = omega arith in
        let z : n - n ≡ 0 = omega arith in
        rw (g, z) (get_or-set_same rest n 0 0 (omega arith));
  }

  -- one module more
  pub summed_next : (rest : List ℕ) (i x v : ℕ) → Summed f n rest (suc i) → x ≡ f i → v ≡ get_or rest (suc i) 0 + x
      → Summed f n (set rest i v) i
  unfolding total
  summed_next rest i x v s e g = record {
    upto = omega (arith, s.upto);
    long = length-set rest i v ∙ s.long;
    sums = λ k l h. ⊎_elim
        (λ same.
        let a : n - i ≡ suc (n - suc i) = omega (arith, s.upto) in
        rw (← same, get_or-set_same rest i v 0 (omega (arith, s.long, s.upto)), a) (omega (arith, s.sums (suc i) (omega arith) s.upto)))
        (λ later. get_or-set_other rest i k v 0 (λ z. omega arith) ∙ s.sums k later h)
        (eq-or-lt_of_le l);
  }
