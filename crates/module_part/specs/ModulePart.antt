-- The part of a text in which the lines of a module stand (document 02, item 3): "they are shown as that very part of the text they stand
-- in, first field to last".
use Rattle.std.specs.Prelude.{ℕ, zero, suc, ◌+◌, Bool, true, false, cond, ◌&&◌, List, [], ◌∷◌, length, ltb, eqb}
use Rattle.fields.specs.Fields.{gap, gaps, fields_of, part}
use Rattle.fields.specs.Lines.{line_at}
use Rattle.fields.specs.Readers.{FieldsGot, no, got}
use Rattle.text_lines.specs.Kinds.{module_due}
use Rattle.module_part.specs.declared.Part.{Part}

-- how many bytes of a line stand before the end of its last field
unfoldable pub last_end : List ℕ → ℕ
last_end [] = 0
last_end (b ∷ bs) = cond (gap b && eqb (last_end bs) 0) 0 (suc (last_end bs))

-- a line of module m is one that begins with "`Module` m"
unfoldable pub begun : FieldsGot (Unit {0}) → Bool
begun (no c) = false
begun (got a fs) = true

abbrev pub is_of : ℕ → List ℕ → Bool
is_of m l = begun (module_due m (fields_of l))

abbrev pub no_part : Part
no_part = record { from = 0; to = 0 }

-- the part s, and behind it what stands from a place to another
abbrev pub widened : Part → ℕ → ℕ → Part
widened s from to = record { from = cond (eqb s.to 0) from s.from; to = to }

-- the part s, and behind it the line l that begins at a place, where it is of module m: "first field to last"
unfoldable pub with_line : ℕ → Part → ℕ → List ℕ → Part
with_line m s at l = cond (is_of m l) (widened s (at + gaps l) (at + last_end l)) s

-- the same with the lines of a text from a place on, n of them at most
unfoldable pub part_from : ℕ → ℕ → List ℕ → ℕ → Part → Part
part_from zero m t at s = s
part_from (suc n) m t at s = cond (ltb at (length t)) (part_from n m t (line_at t at).next (with_line m s at (part t at (line_at t at).to))) s

-- the part of a text from the first field of module m's lines to the last one; each line has a byte at least, its end
unfoldable pub module_part : ℕ → List ℕ → Part
module_part m t = part_from (length t) m t 0 no_part
