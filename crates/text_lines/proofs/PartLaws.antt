-- Laws of the parts of a line: what a field's number, which an answer has cut at a cap, says of a number that is due and of a figure that
-- may be not given, both below the cap; when a rule is kept; what a `?` hands on; and whether a keyword is next. Assumes nothing.
use Prim.Native.Nat.{ℕ, ◌≤◌, ◌<◌, min}
use mathlib.Core.Path.{◌≡◌, refl, sym, ap, ◌∙◌}
use mathlib.Core.Bool.{Bool, true, false, cond}
use mathlib.Core.List.{List, [], ◌∷◌}
use mathlib.Core.Option.{Option, some, none}
use native.Mathlib.Omega.{arith}
use borrow.Author.Tests.{eq-eqb, ne_eqb, le-leb, lt-leb}
use lib.IntN.{pos}
use Rattle.std.specs.Prelude as prelude
use Rattle.std.specs.Prelude.{Result, Ok, Err}
use Rattle.std.specs.Result.{IsErrAnd, is_ok}
use Rattle.std.proofs.lemmas.Result.{err_from_is_err_and}
use Rattle.units.specs.declared.Fault.{Fault}
use Rattle.units.specs.declared.Fault.TheVariants.{WrongForm, WrongFigure, BrokenRule, PlannedPins}
use Rattle.units.proofs.TestLaws.{clash}
use Rattle.fields.specs.Bytes.{same_bytes}
use Rattle.fields.specs.Numbers.{cap, cut}
use Rattle.fields.specs.Readers.{no, got, FieldsGot, bytes_due, past_is}
use Rattle.text_lines.specs.Parts.{due_is, given_is, rule, pins, is_next}

-- the field is no number, the number v, or where v is the cap, some number from there on
module _ (n : ℕ) (fs : List (List ℕ)) where
  pub due_bad : (o : Option ℕ) → cut o ≡ prelude.None → due_is n o fs ≡ no WrongFigure
  unfolding due_is cut
  due_bad none h = refl
  due_bad (some m) h = clash cc

  pub due-got : (v : ℕ) (o : Option ℕ) → cut o ≡ prelude.Some v → v ≡ n → n < cap → due_is n o fs ≡ got tt fs
  unfolding due_is cut
  due-got v none h k l = clash cc
  due-got v (some m) h k l =
      let q : min m cap ≡ v = cc in
      let e : m ≡ n = omega arith in
      simp (eq-eqb m n e)

  pub due_other : (v : ℕ) (o : Option ℕ) → cut o ≡ prelude.Some v → (v ≡ n → ⊥) → n < cap → due_is n o fs ≡ no BrokenRule
  unfolding due_is cut
  due_other v none h k l = clash cc
  due_other v (some m) h k l =
      let q : min m cap ≡ v = cc in
      simp (ne_eqb m n (λ e. k (omega arith)))

-- the same of a figure that may be not given
module _ (high : ℕ) (fs : List (List ℕ)) where
  pub given_bad : (o : Option ℕ) → cut o ≡ prelude.None → given_is high o fs ≡ no WrongFigure
  unfolding given_is cut
  given_bad none h = refl
  given_bad (some m) h = clash cc

  pub given-got : (v : ℕ) (o : Option ℕ) → cut o ≡ prelude.Some v → v ≤ high → high < cap → given_is high o fs ≡ got (pos v) fs
  unfolding given_is cut
  given-got v none h k l = clash cc
  given-got v (some m) h k l =
      let q : min m cap ≡ v = cc in
      let e : m ≡ v = omega arith in
      simp (e, le-leb v high k)

  pub given_above : (v : ℕ) (o : Option ℕ) → cut o ≡ prelude.Some v → high < v → given_is high o fs ≡ no WrongFigure
  unfolding given_is cut
  given_above v none h k = clash cc
  given_above v (some m) h k =
      let q : min m cap ≡ v = cc in
      let b : high < m = omega arith in
      simp (lt-leb m high b)

module _ (t : Bool) (fs : List (List ℕ)) where
  pub rule_broken : t ≡ false → rule t fs ≡ no BrokenRule
  unfolding rule
  rule_broken e = rw e

  pub rule-kept : t ≡ true → rule t fs ≡ got tt fs
  unfolding rule
  rule-kept e = rw e

  pub pins_broken : t ≡ false → pins t fs ≡ no PlannedPins
  unfolding pins
  pins_broken e = rw e

  pub pins-kept : t ≡ true → pins t fs ≡ got tt fs
  unfolding pins
  pins-kept e = rw e

-- what a `?` hands on
pub exit : {A : Type 0} {e : Fault} (r : Result A Fault) → IsErrAnd r (λ y. y ≡ e) → r ≡ Err e
exit r h = let p = err_from_is_err_and r h in p.1 ∙ ap Err p.2

-- a keyword that is there is the first field, and one that is not is refused for its form
module _ (w f : List ℕ) (fs : List (List ℕ)) where
  due-same : (u : Unit {0}) (gs : List (List ℕ)) → bytes_due w (f ∷ fs) ≡ got u gs → (same_bytes f w ≡ true) × (fs ≡ gs)
  unfolding bytes_due
  due-same u gs h = go (same_bytes f w) h
    where
      go : (t : Bool) → cond {A = FieldsGot (Unit {0})} t (got tt fs) (no WrongForm) ≡ got u gs → (t ≡ true) × (fs ≡ gs)
      go true k = (refl, cc)
      go false k = clash cc

  due-not : (c : Fault) → bytes_due w (f ∷ fs) ≡ no c → (same_bytes f w ≡ false) × (WrongForm ≡ c)
  unfolding bytes_due
  due-not c h = go (same_bytes f w) h
    where
      go : (t : Bool) → cond {A = FieldsGot (Unit {0})} t (got tt fs) (no WrongForm) ≡ no c → (t ≡ false) × (WrongForm ≡ c)
      go true k = clash cc
      go false k = (refl, cc)

-- the keyword w is next where it was read
pub next-word : (l w : List ℕ) (fs : List (List ℕ)) (r : Result ℕ Fault) → past_is l r ≡ bytes_due w fs → is_ok r ≡ is_next w fs
unfolding bytes_due is_next
next-word l w [] (Ok e) h = clash cc
next-word l w [] (Err c) h = refl
next-word l w (f ∷ fs) (Ok e) h = sym (due-same w f fs _ _ (sym h)).0
next-word l w (f ∷ fs) (Err c) h = sym (due-not w f fs _ (sym h)).0
