-- Laws of what a writer answers: its refusal has no line, and what it wrote had the room. Assumes nothing.
use Prim.Native.Nat.{ℕ, ◌≤◌}
use mathlib.Core.Path.{◌≡◌, refl}
use mathlib.Core.Bool.{Bool, true, false, cond}
use mathlib.Core.List.{List}
use native.Mathlib.Omega.{arith}
use borrow.Author.Tests.{leb-true}
use lib.Dec.{leb}
use lib.ListN.{length}
use Rattle.std.specs.Prelude.{Result, Ok, Err, MatchResult}
use Rattle.units.specs.Refusals.{number_of, refused}
use Rattle.units.specs.declared.Fault.{Fault}
use Rattle.units.specs.declared.Fault.TheVariants.{ShortBuffer}
use Rattle.units.specs.declared.Refusal.{Refusal}
use Rattle.buffer.specs.WriterAnswers.{written}

abbrev pub Fits : List ℕ → Result ℕ Refusal → Type 0
Fits buf a = MatchResult a (λ n. n ≤ length buf) (λ r. (number_of r.fault ≤ 14) × (r.line ≡ 0))

pub refused-fits : (f : Fault) (buf : List ℕ) → number_of f ≤ 14 → Fits buf (Err (refused f 0))
refused-fits f buf h = (h, refl)

pub written-fits : (w buf : List ℕ) → Fits buf (written w buf)
written-fits w buf = go (leb (length w) (length buf)) refl
  where
    go : (t : Bool) → leb (length w) (length buf) ≡ t → Fits buf (cond t (Ok (length w)) (Err (refused ShortBuffer 0)))
    go true e = leb-true (length w) (length buf) e
    go false e = (omega arith, refl)

-- one that refuses before it writes
pub unless_fits : (f : Fault) (w buf : List ℕ) → number_of f ≤ 14 → (t : Bool) → Fits buf (cond t (written w buf) (Err (refused f 0)))
unless_fits f w buf h true = written-fits w buf
unless_fits f w buf h false = refused-fits f buf h
