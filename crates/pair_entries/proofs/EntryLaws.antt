-- Laws of what is answered of a pair: what is refused of it, and else the answer for the combined description. Assumes nothing.
use Prim.Native.Nat.{ℕ, ◌+◌, ◌≤◌}
use native.Mathlib.Omega.{arith}
use mathlib.Core.Path.{◌≡◌, refl, ◌∙◌}
use Rattle.std.proofs.lemmas.Result.{err_from_is_err_and}
use Rattle.std.specs.Prelude.{Result, Ok, Err, IsErrAnd, MatchResult}
use Rattle.units.specs.Refusals.{number_of}
use Rattle.units.specs.declared.Refusal.{Refusal}
use Rattle.soc.specs.Limits.{text_max}
use Rattle.soc.specs.declared.record.Soc.{Soc}
use Rattle.pair.specs.declared.read.PairRead.{PairRead}
use Rattle.pair.specs.declared.read.PairRefusal.{PairRefusal}
use Rattle.pair_entries.specs.OfPair.{of_neither, its_own, of_pair}

-- what an answer holds: P of what is given; and a refusal's number is at most 17, its line at most as many as a text may have
abbrev pub Told : {A : Type 0} → (A → Type 0) → Result A PairRefusal → Type 0
Told P a = MatchResult a P (λ r. (number_of r.refusal.fault ≤ 17) × (r.refusal.line ≤ text_max + 1))

pub own_told : {A : Type 0} (P : A → Type 0) (k : ℕ) → k ≤ 17 → (a : Result A Refusal)
    → MatchResult a P (λ r. (number_of r.fault ≤ k) × (r.line ≡ 0)) → Told P (its_own a)
own_told P k h (Ok a) t = t
own_told P k h (Err r) t = (omega (arith, t), omega (arith, t))

module _ {A : Type 0} (answers : Soc → Result A Refusal) where
  pub of_refused : {p : Result PairRead PairRefusal} {r : PairRefusal} → p ≡ Err r → of_pair p answers ≡ Err r
  unfolding of_pair
  of_refused e = rw e

  pub of_accepted : {p : Result PairRead PairRefusal} {a : PairRead} → p ≡ Ok a → of_pair p answers ≡ its_own (answers a.soc)
  unfolding of_pair
  of_accepted e = rw e

  -- what holds of both holds of the answer
  pub of_either : (P : Result A PairRefusal → Type 0) (p : Result PairRead PairRefusal) → ((r : PairRefusal) → p ≡ Err r → P (Err r))
      → ((a : PairRead) → p ≡ Ok a → P (its_own (answers a.soc)))
      → P (of_pair p answers)
  unfolding of_pair
  of_either P (Ok a) f g = g a refl
  of_either P (Err r) f g = f r refl

  -- what an entry answers: the pair's refusal, where it leaves with the pair's refusal, and where it says of its own that it is about neither text
  pub refuses : {p : Result PairRead PairRefusal} {r : PairRefusal} → Err r ≡ p → Err r ≡ of_pair p answers
  unfolding of_pair
  refuses e = rw (← e) refl

  pub leaves : {p : Result PairRead PairRefusal} {r : PairRefusal} (x : Result A PairRefusal) → Err r ≡ p → IsErrAnd x (λ e. e ≡ r)
      → x ≡ of_pair p answers
  unfolding of_pair
  leaves x e h = let q = err_from_is_err_and x h in q.1 ∙ rw (← e, q.2)

  pub says : {p : Result PairRead PairRefusal} {a : PairRead} (own : Result A Refusal) (x : Result A PairRefusal) → Ok a ≡ p
      → own ≡ answers a.soc
      → MatchResult own (λ v. x ≡ Ok v) (λ r. IsErrAnd x (λ e. e ≡ of_neither r))
      → x ≡ of_pair p answers
  unfolding of_pair
  says (Ok v) x e f h = h ∙ rw (← e, ← f)
  says (Err r) x e f h = let q = err_from_is_err_and x h in q.1 ∙ rw (← e, ← f, q.2)
