-- `listing::put_lines::put_counts` meets its contract: the form with its figures is the line, and the figures bound its
-- length. Assumes nothing.
use native.Mathlib.Omega.{arith}
use Prim.Native.Nat.{◌+◌, ◌≤◌}
use mathlib.Core.List.{[], ◌∷◌}
use lib.ListN.{length}
use Rattle.fields.specs.Bytes.{bytes}
use Rattle.fields.specs.WrittenLines.{written_lines}
use Rattle.listing.specs.Listing.{count_fields}
use Rattle.listing.specs.Room.{count_room}
use Rattle.listing.specs.Forms.{marks, formed}
use Rattle.listing.proofs.LineLaws.{count-formed, count_size}
use Rattle.listing.proofs.put_lines.put_counts.Goals as goal
use Rattle.listing.proofs.put_lines.put_counts.Goals.{Start}

-- how long the line is, and that there is room for it
short : (s : Start) → length (written_lines (count_fields s.args.p ∷ [])) ≤ count_room
short c = let g = c.well_formed.1.1.0.1.1 in
    count_size c.args.p (omega (arith, g.0.1.1.0.1)) (omega (arith, g.1.0.1)) (omega (arith, g.1.1.1.1.1.1.0.1.1.0.1))

room : (s : Start) →
    s.args.at + length (formed (bytes "wires # limit # time #\n") (s.args.p.wires.0 ∷ s.args.p.limit ∷ s.args.p.time.0 ∷ []))
    ≤ length s.args.buf.now
room c = rw (← count-formed c.args.p) (omega (arith, short c, c.requires))

pub put_form-requires : goal.put_form-requires
unfolding marks
put_form-requires c = (omega arith, room (goal.at.put_form-requires c).Start)

pub returns : goal.returns
returns c = (rw (count-formed c.args.p) c.put_form.ensures, short (goal.at.returns c).Start)
