-- `listing::put_lines::put_bus_line` meets its contract: the form with its figures is the line, and the figures bound its
-- length. Assumes nothing.
use native.Mathlib.Omega.{arith}
use Prim.Native.Nat.{◌+◌, ◌≤◌}
use mathlib.Core.List.{[], ◌∷◌}
use lib.ListN.{length}
use Rattle.fields.specs.Bytes.{bytes}
use Rattle.fields.specs.WrittenLines.{written_lines}
use Rattle.listing.specs.Listing.{bus_fields}
use Rattle.listing.specs.Room.{bus_room}
use Rattle.listing.specs.Forms.{marks, formed}
use Rattle.listing.proofs.LineLaws.{bus-formed, bus_size}
use Rattle.listing.proofs.put_lines.put_bus_line.Goals as goal
use Rattle.listing.proofs.put_lines.put_bus_line.Goals.{Start}

-- how long the line is, and that there is room for it
short : (s : Start) → length (written_lines (bus_fields s.args.i s.args.b ∷ [])) ≤ bus_room
short c = let g = c.well_formed.1.1.1.0.1.1 in
    bus_size c.args.i c.args.b (omega (arith, c.ranges.i)) (omega (arith, g.0.1.1.0.1)) (omega (arith, g.1.0.1.1.0.1))

room : (s : Start) →
    s.args.at + length (formed (bytes "bus # width # busy #\n") (s.args.i ∷ s.args.b.width.0 ∷ s.args.b.busy.0 ∷ []))
    ≤ length s.args.buf.now
room c = rw (← bus-formed c.args.i c.args.b) (omega (arith, short c, c.requires))

pub put_form-requires : goal.put_form-requires
unfolding marks
put_form-requires c = (omega arith, room (goal.at.put_form-requires c).Start)

pub returns : goal.returns
returns c = (rw (bus-formed c.args.i c.args.b) c.put_form.ensures, short (goal.at.returns c).Start)
