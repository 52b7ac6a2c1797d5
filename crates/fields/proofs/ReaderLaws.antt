-- Laws of reading: what follows a refusal and what follows a value, and that a number that was read is within its limits.
use Prim.Native.Nat.{ℕ, suc, ◌+◌, ◌-◌, ◌≤◌, ◌<◌, min}
use mathlib.Core.Path.{◌≡◌, refl, sym, ap}
use mathlib.Core.Bool.{Bool, true, false, ◌&&◌, cond, and-false}
use mathlib.Core.List.{List, [], ◌∷◌, ◌++◌, append-nil}
use mathlib.Core.Option.{Option, some, none}
use native.Mathlib.Omega.{arith}
use borrow.Author.Tests.{leb-true, leb-false, lt-leb}
use lib.Dec.{leb}
use lib.Seq.{append_snoc}
use Rattle.fields.specs.Numbers.{decimal_of, cap, cut}
use Rattle.std.specs.Prelude as prelude
use Rattle.units.specs.declared.Fault.TheVariants.{WrongFigure}
use Rattle.fields.specs.Readers.{Got, no, got, Reads, FieldsGot, after, give, each, bytes_due, within, between, key_between}
use Rattle.units.proofs.TestLaws.{clash, and_both}

module _ {E S A B : Type 0} (g : Got E S A) (k : A → Reads E S B) where
  pub after-no : (c : E) → g ≡ no c → after g k ≡ no c
  unfolding after
  after-no c e = rw e

  pub after-got : (a : A) (s : S) → g ≡ got a s → after g k ≡ k a s
  unfolding after
  after-got a s e = rw e

-- xs before the values that a run of readings gives
unfoldable pub prepend : {E S A : Type 0} → List A → Got E S (List A) → Got E S (List A)
prepend xs (no c) = no c
prepend xs (got ys s) = got (xs ++ ys) s

pub prepend_after : {E S A : Type 0} (x : A) (xs : List A) (g : Got E S (List A)) → prepend xs (after g (λ ys. give (x ∷ ys))) ≡ prepend (xs ++ x ∷ []) g
unfolding prepend after
prepend_after x xs (no c) = refl
prepend_after x xs (got ys s) = ap (λ l. got l s) (sym (append_snoc xs x ys))

pub prepend_none : {E S A : Type 0} (g : Got E S (List A)) → prepend [] g ≡ g
unfolding prepend
prepend_none (no c) = refl
prepend_none (got ys s) = refl

-- n readings of which i are done, numbered from `from`, whose values are xs
module _ {E S A : Type 0} (p : ℕ → Reads E S A) (from n i : ℕ) (xs : List A) (s : S) where
  pub each-no : (c : E) → i < n → p (from + i) s ≡ no c → prepend xs (each (n - i) p (from + i) s) ≡ no c
  unfolding each after prepend
  each-no c h e = let k : n - i ≡ suc (n - (i + 1)) = omega arith in rw (k, e)

  pub each_more : (x : A) (t : S) → i < n → p (from + i) s ≡ got x t
      → prepend xs (each (n - i) p (from + i) s) ≡ prepend (xs ++ x ∷ []) (each (n - (i + 1)) p (from + (i + 1)) t)
  unfolding each after
  each_more x t h e =
      let k : n - i ≡ suc (n - (i + 1)) = omega arith in
      let m : from + (i + 1) ≡ suc (from + i) = omega arith in
      rw (k, e, m) (prepend_after x xs (each (n - (i + 1)) p (suc (from + i)) t))

  pub each-end : n ≤ i → prepend xs (each (n - i) p (from + i) s) ≡ got xs s
  unfolding each prepend
  each-end h = let k : n - i ≡ 0 = omega arith in rw k (ap (λ l. got l s) (append-nil xs))

tested : (low high v : ℕ) (fs : List (List ℕ)) (u : ℕ) (gs : List (List ℕ)) (t : Bool) → (leb low v && leb v high) ≡ t → cond {A = FieldsGot ℕ} t (got v fs) (no WrongFigure) ≡ got u gs → (low ≤ u) × (u ≤ high)
tested low high v fs u gs true e h =
    let q : v ≡ u = cc in
    let b = and_both (leb low v) (leb v high) e in
    (omega (arith, leb-true low v b.0), omega (arith, leb-true v high b.1))
tested low high v fs u gs false e h = clash cc

within-within : (low high : ℕ) (o : Option ℕ) (fs : List (List ℕ)) (v : ℕ) (gs : List (List ℕ)) → within low high o fs ≡ got v gs → (low ≤ v) × (v ≤ high)
unfolding within
within-within low high none fs v gs h = clash cc
within-within low high (some u) fs v gs h = tested low high u fs v gs (leb low u && leb u high) refl h

pub between-within : (low high : ℕ) (fs : List (List ℕ)) (v : ℕ) (gs : List (List ℕ)) → between low high fs ≡ got v gs → (low ≤ v) × (v ≤ high)
unfolding between
between-within low high [] v gs h = clash cc
between-within low high (f ∷ fs) v gs h = within-within low high (decimal_of f) fs v gs h

due-within : (low high : ℕ) (g : FieldsGot (Unit {0})) (v : ℕ) (gs : List (List ℕ)) → after g (λ _. between low high) ≡ got v gs → (low ≤ v) × (v ≤ high)
unfolding after
due-within low high (no c) v gs h = clash cc
due-within low high (got a fs) v gs h = between-within low high fs v gs h

pub key-between-within : (w : List ℕ) (low high : ℕ) (fs : List (List ℕ)) (v : ℕ) (gs : List (List ℕ)) → key_between w low high fs ≡ got v gs → (low ≤ v) × (v ≤ high)
key-between-within w low high fs v gs h = due-within low high (bytes_due w fs) v gs h

-- the field is no number
pub within_bad : (low high : ℕ) (o : Option ℕ) (fs : List (List ℕ)) → cut o ≡ prelude.None → within low high o fs ≡ no WrongFigure
unfolding within cut
within_bad low high none fs h = refl
within_bad low high (some n) fs h = clash cc

-- the field is the number v, or where v is the cap, some number from there on
pub within-cut : (low high v : ℕ) (fs : List (List ℕ)) (o : Option ℕ) → cut o ≡ prelude.Some v → low < cap → high < cap → within low high o fs ≡ cond (leb low v && leb v high) (got v fs) (no WrongFigure)
unfolding within cut
within-cut low high v fs none h l m = clash cc
within-cut low high v fs (some n) h l m = let q : min n cap ≡ v = cc in go q (leb cap n) refl
  where
    go : min n cap ≡ v → (t : Bool) → leb cap n ≡ t → within low high (some n) fs ≡ cond (leb low v && leb v high) (got v fs) (no WrongFigure)
    go q true k =
        let z : cap ≤ n = leb-true cap n k in
        let a : high < n = omega arith in
        let b : high < v = omega arith in
        simp (lt-leb n high a, lt-leb v high b, and-false)
    go q false k = let z : n < cap = leb-false cap n k in let e : n ≡ v = omega arith in rw e
