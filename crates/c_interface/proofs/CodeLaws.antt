-- Laws of what the entries answer: nothing refused and a figure, or the refusal; and a result of bytes, which is never empty. Assumes nothing.
use Prim.Native.Nat.{ℕ, ◌≤◌, ◌<◌}
use mathlib.Core.Path.{◌≡◌, refl, ap, ◌∙◌}
use mathlib.Core.Bool.{Bool, true, false, cond}
use mathlib.Core.List.{List}
use native.Mathlib.Omega.{arith}
use borrow.Author.Tests.{ne_eqb}
use lib.Dec.{leb}
use lib.ListN.{length}
use Rattle.std.specs.Prelude.{Result, Ok, Err, IsOkAnd, MatchResult}
use Rattle.units.specs.declared.Refusal.{Refusal}
use Rattle.buffer.specs.Puts.{put_count}
use Rattle.c_forms.specs.Words.{PutFront}
use Rattle.pair.specs.declared.read.Meant.{Meant}
use Rattle.pair.specs.declared.read.Meant.TheVariants as meant
use Rattle.pair.specs.declared.read.PairRefusal.{PairRefusal}
use Rattle.c_interface.specs.Codes.{above, refusal_code, code, itself, bytes_code, given, given_unless, held_unless}
use Rattle.c_interface.specs.Codes.{meant_number, pair_refused, pair_figure, pair_given}

-- with the room its length, and else 11
room-code : (n : ℕ) → 0 < n → (t : Bool) → bytes_code (cond t n 0) ≡ cond t (above 0 n) (above 11 0)
unfolding bytes_code code refusal_code
room-code n h true = rw (ne_eqb n 0 (λ e. omega arith))
room-code n h false = refl

given-code : (w buf : List ℕ) → 0 < length w → bytes_code (put_count w buf) ≡ given w buf
unfolding given
given-code w buf h = room-code (length w) h (leb (length w) (length buf))

value : {T E : Type 0} {P : T → Type 0} (r : Result T E) → IsOkAnd r P → (v : T) × (r ≡ Ok v) × P v
value (Ok v) h = (v, refl, h)
value (Err e) h = absurd h

module _ {A : Type 0} where
  -- a figure f of what an entry answers, as c says it: `x` is the same answer with the figure in its place
  pub figure-code : {a : Result A Refusal} {c : ℕ} (f : A → ℕ) (own : Result A Refusal) (b : Result ℕ Refusal) → own ≡ a
      → MatchResult own (λ v. IsOkAnd b (λ n. n ≡ f v)) (λ r. b ≡ Err r)
      → c ≡ code itself b → c ≡ code f a
  unfolding code
  figure-code f (Ok v) b s h e = let q = value b h in e ∙ rw (q.1, q.2, ← s)
  figure-code f (Err r) b s h e = e ∙ rw (h, ← s)

  pub pair-figure-code : {a : Result A PairRefusal} {c : ℕ} (f : A → ℕ) (own : Result A PairRefusal) (b : Result ℕ PairRefusal) → own ≡ a
      → MatchResult own (λ v. IsOkAnd b (λ n. n ≡ f v)) (λ r. b ≡ Err r)
      → c ≡ pair_figure itself b → c ≡ pair_figure f a
  unfolding pair_figure
  pair-figure-code f (Ok v) b s h e = let q = value b h in e ∙ rw (q.1, q.2, ← s)
  pair-figure-code f (Err r) b s h e = e ∙ rw (h, ← s)

  -- of an answer a, what is refused leaves the buffer as it was, and else the bytes of the result are put, of which there are some
  module _ (form : A → List ℕ) (buf : List ℕ) where
    pub refused-given : {a : Result A Refusal} {r : Refusal} {c : ℕ} → Err r ≡ a → c ≡ refusal_code r
        → (c ≡ given_unless form a buf) × (buf ≡ held_unless form a buf)
    unfolding given_unless held_unless
    refused-given s e = (e ∙ rw (← s), rw (← s))

    pub whole-given : {a : Result A Refusal} {x : A} {held : List ℕ} {n c k : ℕ} → Ok x ≡ a → 0 < k → PutFront k (form x) buf held n
        → c ≡ bytes_code n → (c ≡ given_unless form a buf) × (held ≡ held_unless form a buf)
    unfolding given_unless held_unless
    whole-given {x} s h p e =
        let g : bytes_code (put_count (form x) buf) ≡ given (form x) buf = given-code (form x) buf (omega (arith, p.2)) in
        (e ∙ ap bytes_code p.0 ∙ g ∙ rw (← s), p.1 ∙ rw (← s))

    pub pair-refused-given : {a : Result A PairRefusal} {r : PairRefusal} {c : ℕ} → Err r ≡ a → c ≡ pair_refused r
        → (c ≡ pair_given form a buf) × (buf ≡ held_unless form a buf)
    unfolding pair_given held_unless
    pair-refused-given s e = (e ∙ rw (← s), rw (← s))

    pub pair-whole-given : {a : Result A PairRefusal} {x : A} {held : List ℕ} {n c k : ℕ} → Ok x ≡ a → 0 < k → PutFront k (form x) buf held n
        → c ≡ bytes_code n → (c ≡ pair_given form a buf) × (held ≡ held_unless form a buf)
    unfolding pair_given held_unless
    pair-whole-given {x} s h p e =
        let g : bytes_code (put_count (form x) buf) ≡ given (form x) buf = given-code (form x) buf (omega (arith, p.2)) in
        (e ∙ ap bytes_code p.0 ∙ g ∙ rw (← s), p.1 ∙ rw (← s))

-- a pair

pub meant_most : (m : Meant) → meant_number m ≤ 2
unfolding meant_number
meant_most meant.Neither = omega arith
meant_most meant.Base = omega arith
meant_most meant.Overlay = omega arith
