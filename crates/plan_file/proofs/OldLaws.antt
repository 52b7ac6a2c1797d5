-- Laws of plan files of the old form (document 02, item 1): each is refused with 12, and no list of bytes is good under both forms. Assumes
-- nothing.
use mathlib.Core.Path.{◌≡◌, refl, sym}
use mathlib.Core.Bool.{Bool, true, false}
use mathlib.Core.List.{List}
use native.Mathlib.Omega.{arith}
use Prim.Native.Nat.{ℕ}
use Rattle.std.specs.Prelude.{Err}
use Rattle.units.specs.Refusals.{refused}
use Rattle.units.specs.declared.Fault.TheVariants.{BadPlan}
use Rattle.units.proofs.TestLaws.{and_both}
use Rattle.plan_file.specs.Files.{good_length, good_file, read_answer}
use Rattle.plan_file.specs.OldFiles.{IsOld}
use Rattle.plan_file.proofs.ReadLaws.{length-fits, answer-refused}

-- with at least one module the two forms have two lengths
pub forms_apart : (f : List ℕ) → good_file f ≡ true → IsOld f → ⊥
unfolding good_file
forms_apart f e o = let w = length-fits f (and_both (good_length f) _ e).0 in omega (arith, w.exact, o.exact, o.some)

-- "a file of the old 12-byte records is 12"
pub old_refused : (f : List ℕ) → IsOld f → read_answer f ≡ Err (refused BadPlan 0)
old_refused f o = sym (answer-refused f (bad (good_file f) refl))
  where
    bad : (t : Bool) → good_file f ≡ t → good_file f ≡ false
    bad true e = absurd (forms_apart f e o)
    bad false e = e
