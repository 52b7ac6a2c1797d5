-- Laws of what a reading says of the bytes: bytes that are the same are equal, and a number has only one decimal form.
use Prim.Native.Nat.{ℕ, ◌+◌, ◌-◌, ◌*◌, ◌/◌, ◌%◌, ◌<◌}
use mathlib.Core.Path.{◌≡◌, refl, sym, ap, ◌∙◌}
use mathlib.Core.Bool.{Bool, true, false, cond, ◌&&◌, and-false, false≢true}
use mathlib.Core.List.{List, [], ◌∷◌, ◌++◌, append_assoc, append-nil}
use mathlib.Core.Option.{some, none}
use native.Mathlib.Omega.{arith}
use borrow.Author.Tests.{eqb-true, eqb-false, eq-eqb, leb-true}
use lib.Dec.{eqb, leb}
use Rattle.fields.specs.Bytes.{same_bytes}
use Rattle.fields.specs.Numbers.{digit, digits, more, decimal_of}
use Rattle.fields.specs.WrittenLines.{decimal}
use Rattle.units.proofs.TestLaws.{clash, and_both}
use Rattle.fields.proofs.WrittenLaws.{decimal-small, decimal_large}

pub same-bytes_refl : (a : List ℕ) → same_bytes a a ≡ true
unfolding same_bytes
same-bytes_refl [] = refl
same-bytes_refl (x ∷ a) = simp (eq-eqb x x refl, same-bytes_refl a)

pub same-bytes_eq : (a b : List ℕ) → same_bytes a b ≡ true → a ≡ b
unfolding same_bytes
same-bytes_eq [] [] h = refl
same-bytes_eq [] (y ∷ b) h = absurd (false≢true h)
same-bytes_eq (x ∷ a) [] h = absurd (false≢true h)
same-bytes_eq (x ∷ a) (y ∷ b) h =
    let p = and_both (eqb x y) (same_bytes a b) h in
    let e : x ≡ y = eqb-true x y p.0 in
    let q : a ≡ b = same-bytes_eq a b p.1 in
    cc

-- a byte that is a digit is that of its value
pub digit-byte : (b : ℕ) → digit b ≡ true → (48 + (b - 48) ≡ b) × (b - 48 < 10)
digit-byte b h =
    let p = and_both (leb 48 b) (leb b 57) h in
    let k = leb-true 48 b p.0 in
    let l = leb-true b 57 p.1 in
    (omega arith, omega arith)

-- one more digit
pub decimal_digit : (v b : ℕ) → 0 < v → digit b ≡ true → decimal (v * 10 + (b - 48)) ≡ decimal v ++ b ∷ []
decimal_digit v b h e =
    let p = digit-byte b e in
    let q : (v * 10 + (b - 48)) / 10 ≡ v = omega arith in
    let r : 48 + (v * 10 + (b - 48)) % 10 ≡ b = omega arith in
    decimal_large (v * 10 + (b - 48)) (omega arith) ∙ rw (q, r)

-- what digits make behind v is written as v and those digits
pub digits-behind : (bs : List ℕ) (v n : ℕ) → 0 < v → digits bs v ≡ some n → decimal v ++ bs ≡ decimal n
unfolding digits
digits-behind [] v n h e = let q : v ≡ n = cc in append-nil (decimal v) ∙ ap decimal q
digits-behind (b ∷ bs) v n h e = go (digits-behind bs (v * 10 + (b - 48)) n (omega arith)) (digit b) refl e
  where
    go : (digits bs (v * 10 + (b - 48)) ≡ some n → decimal (v * 10 + (b - 48)) ++ bs ≡ decimal n)
        → (t : Bool) → digit b ≡ t → cond t (digits bs (v * 10 + (b - 48))) none ≡ some n → decimal v ++ b ∷ bs ≡ decimal n
    go ih true d e = sym (append_assoc (decimal v) (b ∷ []) bs) ∙ ap (λ l. l ++ bs) (sym (decimal_digit v b h d)) ∙ ih e
    go ih false d e = clash cc

-- the first digit, and those behind it
pub digits-first : (b : ℕ) (bs : List ℕ) (n : ℕ) → digits (b ∷ bs) 0 ≡ some n → (digit b ≡ true) × (digits bs (b - 48) ≡ some n)
unfolding digits
digits-first b bs n h = go (digit b) refl h
  where
    go : (t : Bool) → digit b ≡ t → cond t (digits bs (0 * 10 + (b - 48))) none ≡ some n → (digit b ≡ true) × (digits bs (b - 48) ≡ some n)
    go true d h = let e : 0 * 10 + (b - 48) ≡ b - 48 = omega arith in (d, rw e at h)
    go false d h = clash cc

pub digit-decimal : (b : ℕ) → digit b ≡ true → b ∷ [] ≡ decimal (b - 48)
digit-decimal b d = let p = digit-byte b d in sym (decimal-small (b - 48) p.1 ∙ rw p.0)

-- a first digit that is not a 0
pub lead_unique : (b : ℕ) (bs : List ℕ) (n : ℕ) → (b ≡ 48 → ⊥) → digits (b ∷ bs) 0 ≡ some n → b ∷ bs ≡ decimal n
lead_unique b bs n m h =
    let p = digits-first b bs n h in
    let q = digit-byte b p.0 in
    let k : 0 < b - 48 = omega arith in
    ap (λ l. l ++ bs) (digit-decimal b p.0) ∙ digits-behind bs (b - 48) n k p.1

-- a field that is a number is that number as it is written
pub decimal_unique : (f : List ℕ) (n : ℕ) → decimal_of f ≡ some n → f ≡ decimal n
unfolding decimal_of more digits
decimal_unique [] n h = clash cc
decimal_unique (b ∷ []) n h =
    let p = digits-first b [] n (simp and-false at h) in
    let e : b - 48 ≡ n = cc in
    digit-decimal b p.0 ∙ ap decimal e
decimal_unique (b ∷ d ∷ f) n h = go (eqb b 48) refl h
  where
    go : (t : Bool) → eqb b 48 ≡ t → cond (t && true) none (digits (b ∷ d ∷ f) 0) ≡ some n → b ∷ d ∷ f ≡ decimal n
    go true e h = clash cc
    go false e h = lead_unique b (d ∷ f) n (eqb-false b 48 e) h

-- and so it has a byte
pub decimal-some : (f : List ℕ) (n : ℕ) → decimal_of f ≡ some n → f ≡ [] → ⊥
unfolding decimal_of
decimal-some [] n h e = let z : ◌≡◌ {A = ℕ} 0 1 = cc in omega arith
decimal-some (b ∷ f) n h e = let z : ◌≡◌ {A = ℕ} 0 1 = cc in omega arith
