-- Laws of the written form as lines: fields of printable bytes, written with an LF behind them, are one line of the text.
use Prim.Native.Nat.{ℕ, suc, ◌≤◌, ◌<◌}
use mathlib.Core.Path.{◌≡◌, refl, sym, ◌∙◌}
use mathlib.Core.Bool.{Bool, true, false, ◌&&◌, true≢false}
use mathlib.Core.List.{List, [], ◌∷◌, ◌++◌}
use native.Mathlib.Omega.{arith}
use borrow.Author.Tests.{leb-true, leb-false, ne_eqb}
use lib.ListN.{length}
use lib.Dec.{eqb, leb}
use Rattle.fields.specs.Bytes.{tab, lf, cr, space, bad_byte}
use Rattle.fields.specs.Lines.{on_line, lines_of, Line, with_line, numbered}
use Rattle.fields.specs.Names.{name_byte, name_bytes, name_max, is_name}
use Rattle.fields.specs.Numbers.{digit}
use Rattle.fields.specs.WrittenLines.{decimal, joined}
use Rattle.fields.proofs.NameLaws.{name-byte-no}
use Rattle.units.proofs.TestLaws.{and_both, within_true, below_false, above_false}
use Rattle.fields.proofs.WrittenLaws.{all_digits, plain_fields, decimal_plain, joined-fields}

-- every byte is from 32 to 126
unfoldable pub printable : List ℕ → Bool
printable [] = true
printable (b ∷ bs) = (leb 32 b && leb b 126) && printable bs

-- every one of the fields is so
unfoldable pub printables : List (List ℕ) → Bool
printables [] = true
printables (f ∷ fs) = printable f && printables fs

-- a byte that is from 32 to 126, before bytes that are
pub record Prints (b : ℕ) (bs : List ℕ) : Type 0 where
  pub is : (leb 32 b && leb b 126) ≡ true
  pub low : 32 ≤ b
  pub high : b ≤ 126
  pub rest : printable bs ≡ true

pub prints : (b : ℕ) (bs : List ℕ) → printable (b ∷ bs) ≡ true → Prints b bs
unfolding printable
prints b bs h =
    let p = and_both (leb 32 b && leb b 126) (printable bs) h in
    let q = and_both (leb 32 b) (leb b 126) p.0 in
    record { is = p.0; low = leb-true 32 b q.0; high = leb-true b 126 q.1; rest = p.1 }

-- no such byte ends a line
pub prints_no_lf : (b : ℕ) → 32 ≤ b → eqb b lf ≡ false
prints_no_lf b h = ne_eqb b lf (λ e. omega arith)

pub prints_no_cr : (b : ℕ) → 32 ≤ b → eqb b cr ≡ false
prints_no_cr b h = ne_eqb b cr (λ e. omega arith)

pub lines-written : (l t : List ℕ) → printable l ≡ true → lines_of (l ++ lf ∷ t) ≡ l ∷ lines_of t
unfolding lines_of on_line
lines-written [] t h = refl
lines-written (b ∷ l) t h =
    let p = prints b l h in
    simp (prints_no_lf b p.low, prints_no_cr b p.low, lines-written l t p.rest)

pub bad_written : (n : ℕ) (l t : List ℕ) → printable l ≡ true → bad_byte n (l ++ lf ∷ t) ≡ bad_byte (suc n) t
unfolding bad_byte
bad_written n [] t h = refl
bad_written n (b ∷ l) t h =
    let p = prints b l h in
    simp (ne_eqb b tab (λ e. omega arith), prints_no_lf b p.low, prints_no_cr b p.low, p.is, bad_written n l t p.rest)

pub printable_append : (a b : List ℕ) → printable a ≡ true → printable b ≡ true → printable (a ++ b) ≡ true
unfolding printable
printable_append [] b h k = k
printable_append (x ∷ a) b h k = let p = prints x a h in simp (p.is, printable_append a b p.rest k)

pub joined_printable : (fs : List (List ℕ)) → printables fs ≡ true → printable (joined fs) ≡ true
unfolding printable printables joined
joined_printable [] h = refl
joined_printable (f ∷ []) h = (and_both _ _ h).0
joined_printable (f ∷ g ∷ fs) h =
    let p = and_both (printable f) (printables (g ∷ fs)) h in
    printable_append f (space ∷ joined (g ∷ fs)) p.0 (joined_printable (g ∷ fs) p.1)

pub digits_printable : (l : List ℕ) → all_digits l ≡ true → printable l ≡ true
unfolding all_digits printable
digits_printable [] h = refl
digits_printable (b ∷ l) h =
    let p = and_both (digit b) (all_digits l) h in
    let q = and_both (leb 48 b) (leb b 57) p.0 in
    let x = leb-true 48 b q.0 in
    let y = leb-true b 57 q.1 in
    simp (within_true 32 b 126 (omega arith) (omega arith), digits_printable l p.1)

pub decimal_printable : (n : ℕ) → printable (decimal n) ≡ true
decimal_printable n = digits_printable (decimal n) (decimal_plain n)

pub name-low : (b : ℕ) → name_byte b ≡ true → 32 ≤ b
name-low b h = go (leb 32 b) refl
  where
    go : (t : Bool) → leb 32 b ≡ t → 32 ≤ b
    go true e = leb-true 32 b e
    go false e =
        let k : b < 32 = leb-false 32 b e in
        let n : name_byte b ≡ false =
        name-byte-no b (omega arith) (omega arith) (below_false 65 b 90 (omega arith)) (below_false 97 b 122 (omega arith)) (below_false 48 b 57 (omega arith)) in
        absurd (true≢false (sym h ∙ n))

pub name-high : (b : ℕ) → name_byte b ≡ true → b ≤ 126
name-high b h = go (leb b 126) refl
  where
    go : (t : Bool) → leb b 126 ≡ t → b ≤ 126
    go true e = leb-true b 126 e
    go false e =
        let k : 126 < b = leb-false b 126 e in
        let n : name_byte b ≡ false =
        name-byte-no b (omega arith) (omega arith) (above_false 65 b 90 (omega arith)) (above_false 97 b 122 (omega arith)) (above_false 48 b 57 (omega arith)) in
        absurd (true≢false (sym h ∙ n))

pub names_printable : (l : List ℕ) → name_bytes l ≡ true → printable l ≡ true
unfolding name_bytes printable
names_printable [] h = refl
names_printable (b ∷ l) h =
    let p = and_both (name_byte b) (name_bytes l) h in
    simp (within_true 32 b 126 (name-low b p.0) (name-high b p.0), names_printable l p.1)

pub name_printable : (f : List ℕ) → is_name f ≡ true → printable f ≡ true
name_printable f h =
    let p = and_both (leb 1 (length f)) (leb (length f) name_max && name_bytes f) h in
    names_printable f (and_both (leb (length f) name_max) (name_bytes f) p.1).1

pub with_fields : (n : ℕ) (fs : List (List ℕ)) (ls : List Line) → (fs ≡ [] → ⊥) → with_line n fs ls ≡ record { number = n; fields = fs } ∷ ls
unfolding with_line
with_fields n [] ls m = absurd (m refl)
with_fields n (f ∷ fs) ls m = refl

-- fields that are written as a line are the fields of that line
pub numbered-written : (n : ℕ) (fs : List (List ℕ)) (t : List ℕ) → plain_fields fs ≡ true → printables fs ≡ true → (fs ≡ [] → ⊥)
    → numbered n (lines_of (joined fs ++ lf ∷ t)) ≡ record { number = n; fields = fs } ∷ numbered (suc n) (lines_of t)
unfolding numbered
numbered-written n fs t p q m =
    rw (lines-written (joined fs) t (joined_printable fs q), joined-fields fs p) (with_fields n fs (numbered (suc n) (lines_of t)) m)
