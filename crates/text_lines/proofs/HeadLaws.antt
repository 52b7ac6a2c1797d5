-- Laws of whole lines, and of the lines with which a SOC text begins: what follows where fields are left and where none are, how a name is
-- placed, and that the modules of a text are at most as many as there are places. Assumes nothing.
use borrow.Author.Tests.{leb-true}
use Prim.Native.Nat.{ℕ, ◌≤◌}
use mathlib.Core.Path.{◌≡◌, refl, ap, ◌∙◌}
use mathlib.Core.Bool.{true, false, ◌&&◌}
use mathlib.Core.List.{List, [], ◌∷◌, ◌++◌}
use lib.Dec.{leb}
use lib.ListN.{length, drop, replicate}
use Rattle.std.proofs.lemmas.List.{drop-replicate}
use Rattle.fields.specs.Bytes.{bytes}
use Rattle.fields.specs.Fields.{blank}
use Rattle.fields.specs.Names.{name_max, name_bytes, is_name}
use Rattle.fields.specs.Readers.{FieldsGot, no, got, after, key_between}
use Rattle.fields.proofs.ReaderLaws.{key-between-within}
use Rattle.units.proofs.TestLaws.{clash, and_both}
use Rattle.soc.specs.Limits.{modules_max}
use Rattle.units.specs.Places.{padded}
use Rattle.text_lines.specs.Parts.{closed, whole, name}
use Rattle.text_lines.specs.Kinds.{name_part, total_line}
use Rattle.units.specs.declared.Fault.{Fault}
use Rattle.units.specs.declared.Fault.TheVariants.{WrongForm}
use Rattle.std.specs.Prelude.{Result, Ok, Err}

module _ {A : Type 0} where
  pub closed-no : (g : FieldsGot A) (c : Fault) → g ≡ no c → closed g ≡ Err c
  unfolding closed
  closed-no g c e = rw e

  blank-says : (a : A) (fs : List (List ℕ)) → blank fs ≡ true → closed (got a fs) ≡ Ok a
  unfolding closed blank
  blank-says a [] h = refl
  blank-says a (f ∷ fs) h = clash cc

  blank-refuses : (a : A) (fs : List (List ℕ)) → blank fs ≡ false → closed (got a fs) ≡ Err WrongForm
  unfolding closed blank
  blank-refuses a [] h = clash cc
  blank-refuses a (f ∷ fs) h = refl

  -- no field is left
  pub closed-blank : (g : FieldsGot A) (a : A) (fs : List (List ℕ)) → g ≡ got a fs → blank fs ≡ true → closed g ≡ Ok a
  closed-blank g a fs e h = ap closed e ∙ blank-says a fs h

  -- some field is left
  pub closed-more : (g : FieldsGot A) (a : A) (fs : List (List ℕ)) → g ≡ got a fs → blank fs ≡ false → closed g ≡ Err WrongForm
  closed-more g a fs e h = ap closed e ∙ blank-refuses a fs h

  -- the same, by what is answered at the line's end
  pub closed-end : (g : FieldsGot A) (a : A) (fs : List (List ℕ)) → g ≡ got a fs → ◌≡◌ {A = Result (Unit {0}) Fault} (Ok tt) (closed (got tt fs)) → Ok a ≡ closed g
  unfolding closed
  closed-end g a [] e h = rw e
  closed-end g a (f ∷ fs) e h = clash cc

  pub closed-left : (g : FieldsGot A) (a : A) (fs : List (List ℕ)) (c : Fault) → g ≡ got a fs → ◌≡◌ {A = Result (Unit {0}) Fault} (Err c) (closed (got tt fs)) → Err c ≡ closed g
  unfolding closed
  closed-left g a [] c e h = clash cc
  closed-left g a (f ∷ fs) c e h = let k : c ≡ WrongForm = cc in rw (e, k)

closed-total : (fs : List (List ℕ)) (n : ℕ) (g : FieldsGot ℕ) → key_between (bytes "TotalModules") 1 modules_max fs ≡ g → closed g ≡ Ok n → (1 ≤ n) × (n ≤ modules_max)
unfolding closed
closed-total fs n (no c) e h = clash cc
closed-total fs n (got v []) e h = let q : v ≡ n = cc in rw q at (key-between-within (bytes "TotalModules") 1 modules_max fs v [] e)
closed-total fs n (got v (f ∷ gs)) e h = clash cc

-- a text has from 1 to 40 modules
pub total-within : (fs : List (List ℕ)) (n : ℕ) → whole total_line fs ≡ Ok n → (1 ≤ n) × (n ≤ modules_max)
unfolding total_line
total-within fs n h = closed-total fs n (key_between (bytes "TotalModules") 1 modules_max fs) refl h

module _ (f : List ℕ) (fs : List (List ℕ)) where
  pub name-no : is_name f ≡ false → name_part (f ∷ fs) ≡ no WrongForm
  unfolding name_part name after
  name-no h = simp h

  pub name-got : is_name f ≡ true → (n : ℕ) (b : List ℕ) → length f ≡ n → b ≡ padded name_max 0 f → name_part (f ∷ fs) ≡ got (record { len = n; bytes = b }) fs
  unfolding name_part name after
  name-got h n b e p = rw (p, ← e) (simp h)

pub name-none : name_part [] ≡ no WrongForm
unfolding name_part name after
name-none = refl

-- a name is not too long for its places
pub name-short : (f : List ℕ) → is_name f ≡ true → length f ≤ name_max
name-short f h = leb-true (length f) name_max (and_both (leb (length f) name_max) (name_bytes f) (and_both (leb 1 (length f)) (leb (length f) name_max && name_bytes f) h).1).0

-- what stands at the front of spare places
pub front-placed : {A : Type 0} (m : ℕ) (z : A) (f b : List A) (n : ℕ) → b ≡ f → length f ≡ n → b ++ drop n (replicate m z) ≡ padded m z f
unfolding padded
front-placed m z f b n e l = rw (e, drop-replicate, ← l)
