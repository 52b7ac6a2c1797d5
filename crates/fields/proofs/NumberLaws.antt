-- Laws of decimal numbers: how a field is read digit by digit, and that a number cut at the cap on the way ends as the same cut number.
use Prim.Native.Nat.{ℕ, suc, ◌+◌, ◌-◌, ◌*◌, ◌≤◌, ◌<◌, min}
use mathlib.Core.Path.{◌≡◌, refl, sym, ap, ◌∙◌}
use mathlib.Core.Bool.{Bool, true, false, ◌&&◌, cond, and-false, and-true}
use mathlib.Core.List.{List, [], ◌∷◌}
use mathlib.Core.Option.{Option, none}
use native.Mathlib.Omega.{arith}
use native.Mathlib.Numerals.{add-one}
use native.Mathlib.Nat.{min-eq_left}
use borrow.Author.Tests.{lt-ltb, eq-eqb}
use lib.ListN.{length, get_or, drop}
use lib.Dec.{eqb, ltb}
use lib.Seq.{drop-cons, drop-length}
use Rattle.std.specs.Prelude.{Some}
use Rattle.fields.specs.Numbers.{digit, digits, more, decimal_of, cap, cut}

cut-cond : (t : Bool) (x y : Option ℕ) → cut x ≡ cut y → cut (cond t x none) ≡ cut (cond t y none)
cut-cond true x y h = h
cut-cond false x y h = refl

-- two counts that are cut at the same number make the same cut number
pub cut-same : (bs : List ℕ) (v w : ℕ) → min v cap ≡ min w cap → cut (digits bs v) ≡ cut (digits bs w)
unfolding digits cut
cut-same [] v w h = ap Some h
cut-same (b ∷ bs) v w h =
    cut-cond (digit b) (digits bs (v * 10 + (b - 48))) (digits bs (w * 10 + (b - 48))) (cut-same bs (v * 10 + (b - 48)) (w * 10 + (b - 48)) (omega arith))

pub digits-at : (f : List ℕ) (i v : ℕ) → i < length f → digits (drop i f) v ≡ cond (digit (get_or f i 0)) (digits (drop (i + 1) f) (v * 10 + (get_or f i 0 - 48))) none
unfolding digits
digits-at f i v h = rw (add-one, drop-cons f i 0)

pub cut-end : (f : List ℕ) (i v : ℕ) → length f ≡ i → v ≤ cap → cut (digits (drop i f) v) ≡ Some v
unfolding digits cut
cut-end f i v e h = simp (← e, drop-length, min-eq_left h)

pub decimal-start : (f : List ℕ) → (length f ≡ 0 → ⊥) → (eqb (get_or f 0 0) 48 && ltb 1 (length f)) ≡ false → decimal_of f ≡ digits (drop 0 f) 0
unfolding decimal_of more
decimal-start [] n h = absurd (n refl)
decimal-start (b ∷ []) n h = simp and-false
decimal-start (b ∷ d ∷ f) n h =
    let t : ltb 1 (suc (suc (length f))) ≡ true = lt-ltb 1 (suc (suc (length f))) (omega arith) in
    let e : eqb b 48 ≡ false = sym (and-true (eqb b 48)) ∙ simp t at h in
    simp e

pub decimal-zero : (f : List ℕ) → get_or f 0 0 ≡ 48 → 1 < length f → decimal_of f ≡ none
unfolding decimal_of more
decimal-zero [] e h = absurd (omega arith)
decimal-zero (b ∷ []) e h = absurd (omega arith)
decimal-zero (b ∷ d ∷ f) e h = simp (eq-eqb _ _ e)

pub decimal-none : (f : List ℕ) → length f ≡ 0 → decimal_of f ≡ none
unfolding decimal_of
decimal-none [] e = refl
decimal-none (b ∷ f) e = absurd (omega arith)
