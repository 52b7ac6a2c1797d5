-- `fields::byte::bad_byte` meets its contract: what its invariant (Invariants.antt) leaves to show. Assumes nothing.
use borrow.Author.Tests.{eq-eqb, ne_eqb}
use native.Mathlib.Numerals.{add-one}
use native.Mathlib.Omega.{arith}
use Prim.Native.Nat.{ℕ, ◌+◌, ◌≤◌, ◌<◌}
use mathlib.Core.Path.{◌≡◌, refl, sym, ◌∙◌}
use mathlib.Core.Bool.{true, false, ◌&&◌}
use mathlib.Core.List.{List}
use lib.ListN.{length, get_or, drop, drop_of_length-le}
use lib.Dec.{eqb, leb}
use lib.Seq.{drop-cons}
use Rattle.units.proofs.TestLaws.{and_both}
use Rattle.std.proofs.lemmas.Bool.{or_right, leb-true}
use Rattle.fields.specs.Bytes.{tab, lf, cr, lf_next, allowed, line_behind, bad_byte}
use Rattle.std.specs.Prelude.{Some, None}
use Rattle.fields.proofs.byte.bad_byte.Goals as goal
use Rattle.fields.proofs.byte.bad_byte.Goals.{then-b-eq10, else-b-eq10}

module _ (n : ℕ) (s : List ℕ) (i : ℕ) where
  bad-here : i < length s → allowed (get_or s i 0) (drop (i + 1) s) ≡ false → bad_byte n (drop i s) ≡ Some n
  unfolding bad_byte
  bad-here h e = rw (drop-cons s i 0) (simp (← add-one, e))

  bad-later : (m : ℕ) → i < length s → allowed (get_or s i 0) (drop (i + 1) s) ≡ true → line_behind n (get_or s i 0) ≡ m → bad_byte n (drop i s) ≡ bad_byte m (drop (i + 1) s)
  unfolding bad_byte
  bad-later m h e k = rw (drop-cons s i 0) (simp (← add-one, e, k))

  bad-none : length s ≤ i → bad_byte n (drop i s) ≡ None
  unfolding bad_byte
  bad-none h = rw (drop_of_length-le s h)

line-lf : (n b m : ℕ) → b ≡ lf → m ≡ n + 1 → line_behind n b ≡ m
line-lf n b m e h = simp (eq-eqb b lf e) (omega arith)

line_on : (n b m : ℕ) → (b ≡ lf → ⊥) → m ≡ n → line_behind n b ≡ m
line_on n b m e h = simp (ne_eqb b lf e) (sym h)

-- 32 to 126: allowed, and no LF
printable : (b : ℕ) (bs : List ℕ) → (leb 32 b && leb b 126) ≡ true → allowed b bs ≡ true
printable b bs h = or_right (eqb b tab) _ (or_right (eqb b lf) _ (or_right (eqb b cr && lf_next bs) _ h))

printable-on : (n b : ℕ) → (leb 32 b && leb b 126) ≡ true → line_behind n b ≡ n
printable-on n b h = let low = leb-true 32 b (and_both _ _ h).0 in line_on n b n (λ e. omega arith) refl

pub loop-i-preserved-then-is_printable : goal.loop-i-preserved-then-is_printable
loop-i-preserved-then-is_printable c =
    let s = c.args.text.now in
    let i = c.loop-i.i in
    let h = sym c.is_printable.ensures ∙ c.if-is_printable.true in
    (omega arith, c.loop-i.invariant.1 ∙ bad-later c.loop-i.line s i c.loop-i.line (omega arith) (printable (get_or s i 0) (drop (i + 1) s) h) (printable-on c.loop-i.line (get_or s i 0) h))

pub returns-then-not-is_allowed : goal.returns-then-not-is_allowed
returns-then-not-is_allowed c = sym (c.loop-i.invariant.1 ∙ bad-here _ c.args.text.now c.loop-i.i (omega arith) (sym c.is_allowed.ensures ∙ c.if-not-is_allowed.true))

pub loop-i-preserved : goal.loop-i-preserved
loop-i-preserved c = let s = c.args.text.now in
    let ok = sym c.is_allowed.ensures ∙ c.if-not-is_allowed.false in
    (elim c.if-b-eq10.branch [ then-b-eq10 w ↦ (omega arith, c.loop-i.invariant.1 ∙ bad-later c.loop-i.line s c.loop-i.i c.if-b-eq10.line (omega arith) ok (line-lf _ _ _ w.if-b-eq10.true w.line-is)) | else-b-eq10 w ↦ (omega arith, c.loop-i.invariant.1 ∙ bad-later c.loop-i.line s c.loop-i.i c.if-b-eq10.line (omega arith) ok (line_on _ _ _ w.if-b-eq10.false w.line-is)) ])

pub returns : goal.returns
returns c = sym (c.loop-i.invariant.1 ∙ bad-none _ c.args.text.now c.loop-i.i (omega arith))
