-- Laws of the parts of a line that are read (document 01, "The SOC text"): what a keyword, a number, a flag, a figure that may be -1, a
-- name or a rule says of the fields where its reading gives a figure. Assumes nothing.
use Prim.Native.Nat.{ℕ, ◌≤◌}
use mathlib.Core.Path.{◌≡◌, refl, sym, ap, ◌∙◌}
use mathlib.Core.Bool.{Bool, true, false, cond, ◌&&◌}
use mathlib.Core.List.{List, [], ◌∷◌}
use mathlib.Core.Option.{Option, some, none}
use native.Mathlib.Omega.{arith}
use borrow.Author.Tests.{eqb-true, leb-true}
use lib.Dec.{eqb, leb}
use lib.IntN.{ℤ, pos}
use Rattle.units.specs.declared.Fault.{Fault}
use Rattle.units.specs.declared.Fault.TheVariants.{WrongForm, WrongFigure, BrokenRule}
use Rattle.std.specs.Prelude.{Ok}
use Rattle.fields.specs.Bytes.{bytes, same_bytes}
use Rattle.fields.specs.Names.{is_name}
use Rattle.fields.specs.Numbers.{decimal_of}
use Rattle.fields.specs.Readers.{Got, no, got, FieldsGot, Reads, Reader, ◌>>◌, after, bytes_due, within, between, key_between}
use Rattle.fields.specs.WrittenLines.{decimal}
use Rattle.fields.proofs.BackLaws.{same-bytes_eq, decimal_unique}
use Rattle.units.proofs.TestLaws.{clash, and_both}
use Rattle.soc.specs.Record.{not_given}
use Rattle.text_lines.specs.Parts.{closed, due, due_is, key_due, flag, key_flag, given_is, or_not_given, key_given, name, rule}
use Rattle.text_lines.specs.LineFields.{flag_field, given_field}
use Rattle.text.proofs.LineBack.{may_be}

-- a line that says a: its reading leaves no field
pub closed_only : {A : Type 0} (g : FieldsGot A) (a : A) → closed g ≡ Ok a → g ≡ got a []
unfolding closed
closed_only (no c) a h = clash cc
closed_only (got b []) a h = cc
closed_only (got b (f ∷ fs)) a h = clash cc

-- what the first of two readings gave, and what the second made of it
pub record Two {E S A B : Type 0} (g : Got E S A) (k : A → Reads E S B) (b : B) (t : S) : Type 0 where
  pub value : A
  pub left : S
  pub first : g ≡ got value left
  pub second : k value left ≡ got b t

pub after_only : {E S A B : Type 0} {g : Got E S A} {k : A → Reads E S B} {b : B} {t : S} → after g k ≡ got b t → Two g k b t
unfolding after
after_only {g = no c} h = clash cc
after_only {g = got a s} h = record { value = a; left = s; first = refl; second = h }

-- the parts of a line

-- a test that decides between a value and a refusal
pub tested_only : {A : Type 0} (t : Bool) (c : Fault) (v u : A) (fs gs : List (List ℕ)) → cond {A = FieldsGot A} t (got v fs) (no c) ≡ got u gs
    → (t ≡ true) × (v ≡ u) × (fs ≡ gs)
tested_only true c v u fs gs h = (refl, cc, cc)
tested_only false c v u fs gs h = clash cc

pub word_only : (w : List ℕ) (fs gs : List (List ℕ)) (u : Unit {0}) → bytes_due w fs ≡ got u gs → fs ≡ w ∷ gs
unfolding bytes_due
word_only w [] gs u h = clash cc
word_only w (f ∷ fs) gs u h =
    let p = tested_only (same_bytes f w) WrongForm tt u fs gs h in
    let q : f ≡ w = same-bytes_eq f w p.0 in
    cc

-- a keyword, and what the reading behind it says
pub record Key {A : Type 0} (w : List ℕ) (p : Reader A) (fs : List (List ℕ)) (a : A) (gs : List (List ℕ)) : Type 0 where
  pub left : List (List ℕ)
  pub fields : fs ≡ w ∷ left
  pub reads : p left ≡ got a gs

pub key_only : {A : Type 0} (w : List ℕ) (p : Reader A) (fs : List (List ℕ)) (a : A) (gs : List (List ℕ)) → (bytes_due w >> p) fs ≡ got a gs → Key w p fs a gs
key_only w p fs a gs h =
    let t = after_only h in
    record { left = t.left; fields = word_only w fs t.left t.value t.first; reads = t.second }

-- the number v, from low to high
pub record Number (low high : ℕ) (fs : List (List ℕ)) (v : ℕ) (gs : List (List ℕ)) : Type 0 where
  pub fields : fs ≡ decimal v ∷ gs
  pub least : low ≤ v
  pub most : v ≤ high

within_only : (low high : ℕ) (f : List ℕ) (fs : List (List ℕ)) (v : ℕ) (gs : List (List ℕ)) (o : Option ℕ) → decimal_of f ≡ o → within low high o fs ≡ got v gs
    → Number low high (f ∷ fs) v gs
unfolding within
within_only low high f fs v gs none e h = clash cc
within_only low high f fs v gs (some n) e h =
    let p = tested_only (leb low n && leb n high) WrongFigure n v fs gs h in
    let b = and_both (leb low n) (leb n high) p.0 in
    let d : f ≡ decimal n = decimal_unique f n e in
    record { fields = cc; least = omega (arith, leb-true low n b.0); most = omega (arith, leb-true n high b.1) }

pub between_only : (low high : ℕ) (fs : List (List ℕ)) (v : ℕ) (gs : List (List ℕ)) → between low high fs ≡ got v gs → Number low high fs v gs
unfolding between
between_only low high [] v gs h = clash cc
between_only low high (f ∷ fs) v gs h = within_only low high f fs v gs (decimal_of f) refl h

due-is_only : (n : ℕ) (f : List ℕ) (fs : List (List ℕ)) (u : Unit {0}) (gs : List (List ℕ)) (o : Option ℕ) → decimal_of f ≡ o → due_is n o fs ≡ got u gs → f ∷ fs ≡ decimal n ∷ gs
unfolding due_is
due-is_only n f fs u gs none e h = clash cc
due-is_only n f fs u gs (some v) e h =
    let p = tested_only (eqb v n) BrokenRule tt u fs gs h in
    let q : v ≡ n = eqb-true v n p.0 in
    let d : f ≡ decimal v = decimal_unique f v e in
    cc

pub due_only : (n : ℕ) (fs : List (List ℕ)) (u : Unit {0}) (gs : List (List ℕ)) → due n fs ≡ got u gs → fs ≡ decimal n ∷ gs
unfolding due
due_only n [] u gs h = clash cc
due_only n (f ∷ fs) u gs h = due-is_only n f fs u gs (decimal_of f) refl h

pub flag_only : (fs : List (List ℕ)) (b : Bool) (gs : List (List ℕ)) → flag fs ≡ got b gs → fs ≡ flag_field b ∷ gs
unfolding flag flag_field
flag_only [] b gs h = clash cc
flag_only (f ∷ fs) b gs h = go (same_bytes f (bytes "0")) refl h
  where
    go : (t : Bool) → same_bytes f (bytes "0") ≡ t
        → cond {A = FieldsGot Bool} t (got false fs) (cond (same_bytes f (bytes "1")) (got true fs) (no WrongForm)) ≡ got b gs
        → f ∷ fs ≡ flag_field b ∷ gs
    go true e h =
        let q : f ≡ flag_field false = same-bytes_eq f (bytes "0") e in
        let r : ◌≡◌ {A = FieldsGot Bool} (got false fs) (got b gs) = h in
        cc
    go false e h =
        let p = tested_only (same_bytes f (bytes "1")) WrongForm true b fs gs h in
        let q : f ≡ flag_field true = same-bytes_eq f (bytes "1") p.0 in
        cc

-- the figure z, not given or from 0 to high
pub record Given (high : ℕ) (fs : List (List ℕ)) (z : ℤ) (gs : List (List ℕ)) : Type 0 where
  pub fields : fs ≡ given_field z ∷ gs
  pub may : may_be high z ≡ true

given-is_only : (high : ℕ) (f : List ℕ) (fs : List (List ℕ)) (z : ℤ) (gs : List (List ℕ)) (o : Option ℕ) → decimal_of f ≡ o → given_is high o fs ≡ got z gs → Given high (f ∷ fs) z gs
unfolding given_is given_field
given-is_only high f fs z gs none e h = clash cc
given-is_only high f fs z gs (some v) e h =
    let p = tested_only (leb v high) WrongFigure (pos v) z fs gs h in
    let d : f ≡ given_field (pos v) = decimal_unique f v e in
    record { fields = cc; may = ap (may_be high) (sym p.1) ∙ p.0 }

pub given_only : (high : ℕ) (fs : List (List ℕ)) (z : ℤ) (gs : List (List ℕ)) → or_not_given high fs ≡ got z gs → Given high fs z gs
unfolding or_not_given given_field
given_only high [] z gs h = clash cc
given_only high (f ∷ fs) z gs h = go (same_bytes f (bytes "-1")) refl h
  where
    go : (t : Bool) → same_bytes f (bytes "-1") ≡ t → cond {A = FieldsGot ℤ} t (got not_given fs) (given_is high (decimal_of f) fs) ≡ got z gs → Given high (f ∷ fs) z gs
    go true e h =
        let d : f ≡ given_field not_given = same-bytes_eq f (bytes "-1") e in
        let q : not_given ≡ z = cc in
        record { fields = cc; may = ap (may_be high) (sym q) }
    go false e h = given-is_only high f fs z gs (decimal_of f) refl h

pub record Named (fs : List (List ℕ)) (f : List ℕ) (gs : List (List ℕ)) : Type 0 where
  pub fields : fs ≡ f ∷ gs
  pub named : is_name f ≡ true

pub named_only : (fs : List (List ℕ)) (f : List ℕ) (gs : List (List ℕ)) → name fs ≡ got f gs → Named fs f gs
unfolding name
named_only [] f gs h = clash cc
named_only (g ∷ fs) f gs h =
    let p = tested_only (is_name g) WrongForm g f fs gs h in
    record { fields = cc; named = ap is_name (sym p.1) ∙ p.0 }

pub rule_only : (b : Bool) (fs gs : List (List ℕ)) (u : Unit {0}) → rule b fs ≡ got u gs → (b ≡ true) × (fs ≡ gs)
unfolding rule
rule_only false fs gs u h = clash cc
rule_only true fs gs u h = (refl, cc)

-- a keyword, and a part behind it

module _ (w : List ℕ) (fs gs : List (List ℕ)) where
  pub record Keyed (low high v : ℕ) : Type 0 where
    pub fields : fs ≡ w ∷ decimal v ∷ gs
    pub least : low ≤ v
    pub most : v ≤ high

  pub keyed_only : (low high v : ℕ) → key_between w low high fs ≡ got v gs → Keyed low high v
  keyed_only low high v h =
      let k = key_only w (between low high) fs v gs h in
      let n = between_only low high k.left v gs k.reads in
      record { fields = cc; least = n.least; most = n.most }

  pub key-due_only : (n : ℕ) (u : Unit {0}) → key_due w n fs ≡ got u gs → fs ≡ w ∷ decimal n ∷ gs
  key-due_only n u h =
      let k = key_only w (due n) fs u gs h in
      let d = due_only n k.left u gs k.reads in
      cc

  pub key-flag_only : (b : Bool) → key_flag w fs ≡ got b gs → fs ≡ w ∷ flag_field b ∷ gs
  key-flag_only b h =
      let k = key_only w flag fs b gs h in
      let d = flag_only k.left b gs k.reads in
      cc

  pub record KeyGiven (high : ℕ) (z : ℤ) : Type 0 where
    pub fields : fs ≡ w ∷ given_field z ∷ gs
    pub may : may_be high z ≡ true

  pub key-given_only : (high : ℕ) (z : ℤ) → key_given w high fs ≡ got z gs → KeyGiven high z
  key-given_only high z h =
      let k = key_only w (or_not_given high) fs z gs h in
      let d = given_only high k.left z gs k.reads in
      record { fields = cc; may = d.may }
