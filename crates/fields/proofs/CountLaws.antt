-- Laws of a count of the elements at the front of a list that pass a test, which is the length of the longest such front. `gaps`, `run` and
-- `until_lf` are such counts.
use Prim.Native.Nat.{ℕ, suc, ◌+◌, ◌≤◌, ◌<◌}
use mathlib.Core.Path.{◌≡◌, refl, sym, subst}
use mathlib.Core.Bool.{Bool, true, false, cond, not}
use mathlib.Core.List.{List, [], ◌∷◌}
use native.Mathlib.Numerals.{add-one}
use native.Mathlib.Omega.{arith}
use lib.ListN.{length, get_or, drop, drop_of_length-le}
use lib.Dec.{eqb}
use lib.Seq.{drop-cons}
use Rattle.std.specs.List.{prefix_len}
use Rattle.std.proofs.lemmas.List.Sums.{prefix_len-le-length}
use Rattle.fields.specs.Bytes.{lf}
use Rattle.fields.specs.Fields.{gap, gaps, run}
use Rattle.fields.specs.Lines.{until_lf}

-- f counts the elements at the front that pass the test p
pub record Counts (f : List ℕ → ℕ) (p : ℕ → Bool) : Type 0 where
  pub none : f [] ≡ 0
  pub more : (b : ℕ) (bs : List ℕ) → f (b ∷ bs) ≡ cond (p b) (suc (f bs)) 0

-- the same of a test that is written the other way round
cond_not : (t : Bool) (m n : ℕ) → cond t m n ≡ cond (not t) n m
cond_not true m n = refl
cond_not false m n = refl

pub gaps-counts : Counts gaps gap
unfolding gaps
gaps-counts = record { none = refl; more = λ b bs. refl }

pub run-counts : Counts run (λ b. not (gap b))
unfolding run
run-counts = record { none = refl; more = λ b bs. cond_not (gap b) 0 (suc (run bs)) }

pub lf-counts : Counts until_lf (λ b. not (eqb b lf))
unfolding until_lf
lf-counts = record { none = refl; more = λ b bs. cond_not (eqb b lf) 0 (suc (until_lf bs)) }

module _ (f : List ℕ → ℕ) (p : ℕ → Bool) (k : Counts f p) where
  pub count-is : (l : List ℕ) → prefix_len p l ≡ f l
  count-is [] = sym k.none
  count-is (b ∷ l) = rw (k.more, ← count-is l) (go (p b))
    where
      go : (t : Bool) → cond t (1 + prefix_len p l) 0 ≡ cond t (suc (prefix_len p l)) 0
      go true = omega arith
      go false = refl

  -- a place before a byte that passes, before one that doesn't, and behind the end
  pub count_on : (s : List ℕ) (i : ℕ) → i < length s → p (get_or s i 0) ≡ true → i + f (drop i s) ≡ (i + 1) + f (drop (i + 1) s)
  count_on s i h e = rw (add-one, drop-cons s i 0, k.more) (simp e (omega arith))

  pub count_stop : (s : List ℕ) (i : ℕ) → i < length s → p (get_or s i 0) ≡ false → i + f (drop i s) ≡ i
  count_stop s i h e = rw (drop-cons s i 0, k.more) (simp e (omega arith))

  pub count-end : (s : List ℕ) (i : ℕ) → length s ≤ i → i + f (drop i s) ≡ i
  count-end s i h = rw (drop_of_length-le s h, k.none) (omega arith)

  pub count_le : (l : List ℕ) → f l ≤ length l
  count_le l = subst (λ n. n ≤ length l) (count-is l) (prefix_len-le-length p l)
