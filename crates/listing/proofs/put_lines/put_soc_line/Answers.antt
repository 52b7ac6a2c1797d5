-- `listing::put_lines::put_soc_line` meets its contract: each call puts what is due behind the call before it, and the name and the figures bound the
-- line's length. Assumes nothing.
use native.Mathlib.Omega.{arith}
use Prim.Native.Nat.{◌+◌, ◌≤◌}
use mathlib.Core.List.{[], ◌∷◌}
use lib.ListN.{length}
use Rattle.fields.specs.WrittenLines.{written_lines}
use Rattle.listing.specs.Listing.{soc_fields}
use Rattle.listing.specs.Room.{name_room, count_room}
use Rattle.listing.proofs.LineLaws.{soc_size, soc-front}
use Rattle.listing.proofs.put_lines.put_soc_line.Goals as goal
use Rattle.listing.proofs.put_lines.put_soc_line.Goals.{Start}

-- how long the line is, and that there is room for it
short : (s : Start) → length (written_lines (soc_fields s.args.s s.args.p ∷ [])) ≤ name_room + count_room
short c = let g = c.well_formed.1.1.1.0.1.1 in soc_size c.args.p c.args.s c.requires.0 (omega (arith, g.0.1.1.0.1)) (omega (arith, g.1.0.1)) (omega (arith, g.1.1.1.1.1.1.0.1.1.0.1))

room : (s : Start) → s.args.at + length (written_lines (soc_fields s.args.s s.args.p ∷ [])) ≤ length s.args.buf.now
room c = omega (arith, short c, c.requires.1)

pub put_counts-requires : goal.put_counts-requires
put_counts-requires c = let f = soc-front c.args.p c.args.s c.requires.0 (room (goal.at.put_counts-requires c).Start) c.put_bytes-a.ensures c.put_bytes-b.ensures c.put_bytes-c.ensures in
    omega (arith, f.0, c.requires.1, c.put_bytes-c.auto.buf, c.put_bytes-b.auto.buf, c.put_bytes-a.auto.buf)

pub returns : goal.returns
returns c = let f = soc-front c.args.p c.args.s c.requires.0 (room (goal.at.returns c).Start) c.put_bytes-a.ensures c.put_bytes-b.ensures c.put_bytes-c.ensures in
    (f.1.done _ _ c.put_counts.ensures.0, short (goal.at.returns c).Start)
