-- What the reading of a pair says of the marks of a module's lines, and the part that is shown between them.
use Rattle.std.specs.Prelude.{ℕ, ◌<◌, ◌≡◌, Bool, true, false, cond, List, [], get_or, Result, Ok, Err, IfOk}
use Rattle.fields.specs.Lines.{lines_from}
use Rattle.text_reader.specs.Marks.{Marked}
use Rattle.text_reader.specs.declared.marks.Marks.{Marks}
use Rattle.module_part.specs.Trimmed.{trimmed}
use Rattle.pair.specs.Pair.{read_pair}
use Rattle.pair.specs.Shown.{part_shown}
use Rattle.pair.specs.declared.read.PairMarked.{PairMarked}
use Rattle.pair.specs.declared.read.PairRead.{PairRead}
use Rattle.pair.specs.declared.read.PairRefusal.{PairRefusal}
use Rattle.pair.specs.declared.shown.Shown.{Shown}

-- module m's lines stand between two marks in the whole of a text
abbrev pub MarkedIn : ℕ → List ℕ → Marks → Type 0
MarkedIn m t s = Marked m t (lines_from 1 t 0) [] s.from s.to

-- what a pair says alone
abbrev pub pair_read : Result PairMarked PairRefusal → Result PairRead PairRefusal
pair_read (Err f) = Err f
pair_read (Ok r) = Ok r.pair

-- what a pair says, and the marks of module m in the texts that have it
pub record PairReadMarked (m : ℕ) (base overlay : List ℕ) (r : Result PairMarked PairRefusal) : Type 0 where
  pub pair : pair_read r ≡ read_pair base overlay
  pub in_base : IfOk r (λ p. m < p.pair.soc.module_count → MarkedIn m base p.base)
  pub in_overlay : IfOk r (λ p. get_or p.pair.has m false ≡ true → MarkedIn m overlay p.over)

-- the part between the marks of a module, of the overlay or of the base
unfoldable pub shown_between : List ℕ → Marks → List ℕ → Marks → Bool → Shown
shown_between base b overlay o over =
    cond over (part_shown true (trimmed overlay o.from o.to)) (part_shown false (trimmed base b.from b.to))
