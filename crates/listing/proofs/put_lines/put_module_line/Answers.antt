-- `listing::put_lines::put_module_line` meets its contract: the form with its figures is the line, and the figures bound its
-- length. Assumes nothing.
use native.Mathlib.Omega.{arith}
use Prim.Native.Nat.{◌+◌, ◌≤◌}
use mathlib.Core.List.{[], ◌∷◌}
use lib.ListN.{length}
use Rattle.fields.specs.Bytes.{bytes}
use Rattle.fields.specs.WrittenLines.{written_lines}
use Rattle.listing.specs.Listing.{module_fields}
use Rattle.listing.specs.Room.{module_room}
use Rattle.listing.specs.Forms.{marks, formed}
use Rattle.listing.proofs.LineLaws.{module_formed, module_size}
use Rattle.listing.proofs.put_lines.put_module_line.Goals as goal
use Rattle.listing.proofs.put_lines.put_module_line.Goals.{Start}

-- how long the line is, and that there is room for it
short : (s : Start) → length (written_lines (module_fields s.args.m ∷ [])) ≤ module_room
short c = let g = c.well_formed.1.1.0.1.1 in
    let h = g.1.1 in
    module_size c.args.m (omega (arith, g.0.1)) (omega (arith, g.1.0.1))
    (omega (arith, h.0.1.1.0.1)) (omega (arith, h.1.0.1.1.0.1)) (omega (arith, h.1.1.0.1.1.0.1))

room : (s : Start) →
    s.args.at + length (formed (bytes "module # bus # wires # cycles # start #\n")
    (s.args.m.number ∷ s.args.m.bus ∷ s.args.m.wires.0 ∷ s.args.m.cycles.0 ∷ s.args.m.start.0 ∷ []))
    ≤ length s.args.buf.now
room c = rw (← module_formed c.args.m) (omega (arith, short c, c.requires))

pub put_form-requires : goal.put_form-requires
unfolding marks
put_form-requires c = (omega arith, room (goal.at.put_form-requires c).Start)

pub returns : goal.returns
returns c = (rw (module_formed c.args.m) c.put_form.ensures, short (goal.at.returns c).Start)
