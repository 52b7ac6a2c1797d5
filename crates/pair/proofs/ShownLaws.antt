-- Laws of the lines of a module of a pair: which answer there is, and that the part lies in the text that it is of. Assumes nothing.
use Prim.Native.Nat.{ℕ, ◌≤◌, ◌<◌}
use mathlib.Core.Path.{◌≡◌, refl}
use mathlib.Core.Bool.{Bool, true, false, cond, true≢false, false≢true}
use mathlib.Core.List.{List}
use borrow.Author.Tests.{lt-ltb, le-ltb}
use lib.ListN.{length, get_or}
use lib.Dec.{ltb}
use Rattle.std.specs.Prelude.{Result, Ok, Err}
use Rattle.units.proofs.TestLaws.{clash}
use Rattle.units.specs.Refusals.{refused}
use Rattle.units.specs.declared.Fault.TheVariants.{NotThere}
use Rattle.fields.specs.Fields.{part}
use Rattle.module_part.proofs.PartLaws.{Before, part-inside}
use Rattle.pair.specs.Pair.{refused_pair, read_pair}
use Rattle.pair.specs.Shown.{shown_in, shown_of, lines_shown, part_of}
use Rattle.pair.specs.declared.read.Meant.TheVariants as meant
use Rattle.pair.specs.declared.read.PairRead.{PairRead}
use Rattle.pair.specs.declared.read.PairRefusal.{PairRefusal}
use Rattle.pair.specs.declared.shown.Shown.{Shown}

module _ (p : PairRead) (base overlay : List ℕ) (m : ℕ) where
  pub shown_absent : p.soc.module_count ≤ m → shown_of (Ok p) base overlay m ≡ refused_pair (refused NotThere 0) meant.Neither
  unfolding shown_of
  shown_absent h = rw (le-ltb m p.soc.module_count h)

  pub shown_there : m < p.soc.module_count → shown_of (Ok p) base overlay m ≡ Ok (shown_in base overlay m (get_or p.has m false))
  unfolding shown_of
  shown_there h = rw (lt-ltb m p.soc.module_count h)

-- the part lies in the text that it is of
pub record Lies (base overlay : List ℕ) (s : Shown) : Type 0 where
  pub over : s.over ≡ true → Before (length overlay) s.part
  pub under : s.over ≡ false → Before (length base) s.part

module _ (base overlay : List ℕ) where
  in_lies : (m : ℕ) (over : Bool) → Lies base overlay (shown_in base overlay m over)
  unfolding shown_in
  in_lies m true = record { over = λ _. part-inside m overlay; under = λ e. absurd (true≢false e) }
  in_lies m false = record { over = λ e. absurd (false≢true e); under = λ _. part-inside m base }

  of_lies : (p : Result PairRead PairRefusal) (m : ℕ) {s : Shown} → Ok s ≡ shown_of p base overlay m → Lies base overlay s
  unfolding shown_of
  of_lies (Err r) m e = clash cc
  of_lies (Ok p) m {s} e = go (ltb m p.soc.module_count) e
    where
      go : (u : Bool) → Ok s ≡ cond u (Ok (shown_in base overlay m (get_or p.has m false))) (refused_pair (refused NotThere 0) meant.Neither) → Lies base overlay s
      go true e = let k : s ≡ shown_in base overlay m (get_or p.has m false) = cc in rw k (in_lies m (get_or p.has m false))
      go false e = clash cc

  pub lines_lie : (m : ℕ) (s : Shown) → Ok s ≡ lines_shown base overlay m → Lies base overlay s
  unfolding lines_shown
  lines_lie m s e = of_lies (read_pair base overlay) m e

-- the text that a part is of
module _ (base overlay : List ℕ) (s : Shown) (t : List ℕ) (is : t ≡ cond s.over overlay base) where
  pub text_lies : Lies base overlay s → Before (length t) s.part
  text_lies l = rw is (go s.over l.over l.under)
    where
      go : (o : Bool) → (o ≡ true → Before (length overlay) s.part) → (o ≡ false → Before (length base) s.part) → Before (length (cond o overlay base)) s.part
      go true f g = f refl
      go false f g = g refl

  pub text_part : part t s.part.from s.part.to ≡ part_of s base overlay
  text_part = rw is (go s.over)
    where
      go : (o : Bool) → part (cond o overlay base) s.part.from s.part.to ≡ cond o (part overlay s.part.from s.part.to) (part base s.part.from s.part.to)
      go true = refl
      go false = refl
