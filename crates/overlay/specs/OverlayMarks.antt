-- What the reading of an overlay says of the marks of a module's lines.
use Rattle.std.specs.Prelude.{ℕ, ◌≡◌, true, false, List, [], get_or, Result, Ok, Err, IfOk}
use Rattle.units.specs.declared.Refusal.{Refusal}
use Rattle.fields.specs.Lines.{Line}
use Rattle.fields.specs.Readers.{no, got}
use Rattle.text_line_reader.specs.Due.{place_at, lines_at}
use Rattle.text_line_reader.specs.declared.place.Place.{Place}
use Rattle.text_lines.specs.declared.head.Options.{Options}
use Rattle.text_reader.specs.Lines.{LinesReader}
use Rattle.text_reader.specs.Marks.{Marked}
use Rattle.overlay.specs.Overlay.{places, answer, read_overlay}
use Rattle.overlay.specs.declared.block.PlacesMarked.{PlacesMarked}
use Rattle.overlay.specs.declared.read.Overlay.{Overlay}
use Rattle.overlay.specs.declared.read.OverlayMarked.{OverlayMarked}

-- the blocks were read from a place to the text's end, and module m has its marks where they have it
abbrev pub BlocksMean : List ℕ → Place → Options → ℕ → Result PlacesMarked Refusal → Type 0
BlocksMean t p o m (Err f) = no f ≡ places o (lines_at t p)
BlocksMean t p o m (Ok r) =
    (got r.places [] ≡ places o (lines_at t p)) × (get_or r.places.has m false ≡ true → Marked m t (lines_at t p) [] r.marks.from r.marks.to)

-- what an overlay says alone
abbrev pub overlay_read : Result OverlayMarked Refusal → Result Overlay Refusal
overlay_read (Err f) = Err f
overlay_read (Ok r) = Ok r.overlay

-- what an overlay with the lines ls says, and the marks of module m where the overlay has it
pub record OverlayReadMarked (m : ℕ) (t : List ℕ) (ls : List Line) (a : Result Overlay Refusal) (r : Result OverlayMarked Refusal) : Type 0 where
  pub read : overlay_read r ≡ a
  pub marks : IfOk r (λ s. get_or s.overlay.has m false ≡ true → Marked m t ls [] s.marks.from s.marks.to)

-- the same of the lines from a place on
abbrev pub ReadsMarked : ℕ → List ℕ → Place → LinesReader Overlay → Result OverlayMarked Refusal → Type 0
ReadsMarked m t p g r = OverlayReadMarked m t (lines_at t p) (answer (g (lines_at t p))) r

abbrev pub TextMarked : ℕ → List ℕ → Result OverlayMarked Refusal → Type 0
TextMarked m t r = OverlayReadMarked m t (lines_at t (place_at 0 1)) (read_overlay t) r
