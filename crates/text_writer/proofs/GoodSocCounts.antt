-- Laws of a good record that is written: the counts of each of its modules keep their limits. Assumes nothing.
use Prim.Native.Nat.{ℕ, zero, suc, ◌<◌}
use mathlib.Core.Path.{◌≡◌, refl}
use mathlib.Core.Bool.{true}
use mathlib.Core.List.{List, [], ◌∷◌}
use native.Mathlib.Omega.{arith}
use lib.ListN.{length, get_or}
use Rattle.soc.specs.Record.{modules_of}
use Rattle.soc.specs.Rules.{good_soc}
use Rattle.soc.specs.declared.record.Soc.{Soc}
use Rattle.soc.proofs.GoodSocLaws.{soc-figures, modules-counts}
use Rattle.text_writer.specs.WrittenSoc.{Countable}

pub good_countable : (s : Soc) → good_soc s ≡ true → Countable (modules_of s)
good_countable s h i k = modules-counts s.power s.xy 0 0 (modules_of s) (soc-figures s h).modules i

-- an element that is there is read whatever is taken for one that is not
pub get_or-same : {A : Type 0} (l : List A) (i : ℕ) (y z : A) → i < length l → get_or l i y ≡ get_or l i z
get_or-same [] i y z h = absurd (omega arith)
get_or-same (x ∷ l) zero y z h = refl
get_or-same (x ∷ l) (suc i) y z h = get_or-same l i y z (omega arith)
