-- Laws of the marks of a module's lines in a pair: a pair has them where its texts do, and what is shown between them are the module's
-- lines. Assumes nothing.
use Prim.Native.Nat.{ℕ}
use mathlib.Core.Path.{◌≡◌, refl, ap}
use mathlib.Core.Bool.{Bool, true, false, cond}
use mathlib.Core.List.{List}
use Rattle.std.specs.Prelude.{Result, Ok, Err}
use Rattle.units.proofs.TestLaws.{clash}
use Rattle.units.specs.Refusals.{refused}
use Rattle.units.specs.declared.Fault.TheVariants.{OtherBase}
use Rattle.units.specs.declared.Refusal.{Refusal}
use Rattle.soc.specs.declared.record.Soc.{Soc}
use Rattle.text_reader.specs.declared.marks.Marks.{Marks}
use Rattle.overlay.specs.declared.read.Overlay.{Overlay}
use Rattle.module_part.proofs.MarkedPart.{marked_part}
use Rattle.pair.specs.Pair.{fits, combined, refused_pair, joined, pair_of}
use Rattle.pair.specs.PairMarks.{MarkedIn, shown_between}
use Rattle.pair.specs.Shown.{part_shown, shown_in}
use Rattle.pair.specs.declared.read.Meant.TheVariants as meant
use Rattle.pair.specs.declared.read.PairRead.{PairRead}

-- the texts are read one behind the other
pub base_no : (f : Refusal) (a : Result Soc Refusal) (b : Result Overlay Refusal) → Err f ≡ a → refused_pair f meant.Base ≡ pair_of a b
unfolding pair_of
base_no f a b e = rw (← e) refl

pub over_no : (f : Refusal) (s : Soc) (a : Result Soc Refusal) (b : Result Overlay Refusal) → Ok s ≡ a → Err f ≡ b
    → refused_pair f meant.Overlay ≡ pair_of a b
unfolding pair_of
over_no f s a b e h = rw (← e, ← h) refl

pub both_got : (s : Soc) (o : Overlay) (a : Result Soc Refusal) (b : Result Overlay Refusal) → Ok s ≡ a → Ok o ≡ b → joined s o ≡ pair_of a b
unfolding pair_of
both_got s o a b e h = rw (← e, ← h) refl

-- a pair that is joined has the base's modules, and those of the overlay in their places
module _ (s : Soc) (o : Overlay) {p : PairRead} where
  pub joined_is : Ok p ≡ joined s o → (p.soc.module_count ≡ s.module_count) × (p.has ≡ o.has)
  unfolding joined combined
  joined_is e = go (fits s o) e
    where
      go : (u : Bool) → Ok p ≡ cond u (Ok (record { soc = combined s o; has = o.has })) (refused_pair (refused OtherBase 0) meant.Overlay)
          → (p.soc.module_count ≡ s.module_count) × (p.has ≡ o.has)
      go true h = let k : p ≡ record { soc = combined s o; has = o.has } = cc in (ap (λ (r : PairRead). r.soc.module_count) k, ap (λ (r : PairRead). r.has) k)
      go false h = clash cc

-- what stands between the marks are the module's lines
pub between-shown : (m : ℕ) (base overlay : List ℕ) (b o : Marks) (over : Bool) → MarkedIn m base b → (over ≡ true → MarkedIn m overlay o)
    → shown_between base b overlay o over ≡ shown_in base overlay m over
unfolding shown_between shown_in
between-shown m base overlay b o true f g = ap (part_shown true) (marked_part m overlay o.from o.to (g refl))
between-shown m base overlay b o false f g = ap (part_shown false) (marked_part m base b.from b.to f)
