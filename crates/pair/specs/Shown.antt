-- The lines of a module of a pair, as they stand (document 02, item 3): "they are shown as that very part of the text they stand in, first
-- field to last."
use Rattle.std.specs.Prelude.{ℕ, Bool, true, false, cond, List, [], get_or, ltb, Result, Ok, Err}
use Rattle.units.specs.Refusals.{refused}
use Rattle.units.specs.declared.Fault.TheVariants.{NotThere}
use Rattle.fields.specs.Fields.{part}
use Rattle.module_part.specs.ModulePart.{module_part}
use Rattle.module_part.specs.declared.Part.{Part}
use Rattle.pair.specs.Pair.{refused_pair, read_pair}
use Rattle.pair.specs.declared.read.Meant.TheVariants as meant
use Rattle.pair.specs.declared.read.PairRead.{PairRead}
use Rattle.pair.specs.declared.read.PairRefusal.{PairRefusal}
use Rattle.pair.specs.declared.shown.Shown.{Shown}

abbrev pub part_shown : Bool → Part → Shown
part_shown over p = record { over = over; part = p }

-- "The lines of a module are the overlay's if it has that module, otherwise the base's"
unfoldable pub shown_in : List ℕ → List ℕ → ℕ → Bool → Shown
shown_in base overlay m over = cond over (part_shown true (module_part m overlay)) (part_shown false (module_part m base))

-- "a module not there (13, after 15)"
unfoldable pub shown_of : Result PairRead PairRefusal → List ℕ → List ℕ → ℕ → Result Shown PairRefusal
shown_of (Err r) base overlay m = Err r
shown_of (Ok p) base overlay m =
    cond (ltb m p.soc.module_count) (Ok (shown_in base overlay m (get_or p.has m false))) (refused_pair (refused NotThere 0) meant.Neither)

unfoldable pub lines_shown : List ℕ → List ℕ → ℕ → Result Shown PairRefusal
lines_shown base overlay m = shown_of (read_pair base overlay) base overlay m

-- the very part, of the overlay or of the base
abbrev pub part_of : Shown → List ℕ → List ℕ → List ℕ
part_of s base overlay = cond s.over (part overlay s.part.from s.part.to) (part base s.part.from s.part.to)

-- "A refused pair, or a module not there .., shows an empty part."
unfoldable pub lines_of : Result Shown PairRefusal → List ℕ → List ℕ → List ℕ
lines_of (Err r) base overlay = []
lines_of (Ok s) base overlay = part_of s base overlay

unfoldable pub module_lines : List ℕ → List ℕ → ℕ → List ℕ
module_lines base overlay m = lines_of (lines_shown base overlay m) base overlay
