-- `listing::put_lines::put_buses` meets its contract. The loop's invariant: the text of the first buses is put, and each line keeps its bound.
-- Assumes nothing.
use Prim.Native.Nat.{◌*◌, ◌≤◌}
use mathlib.Core.Path.{◌≡◌}
use lib.ListN.{length, take}
use Rattle.buffer.specs.Puts.{Put}
use Rattle.plan_record.specs.Record.{buses_of}
use Rattle.listing.specs.Room.{bus_room}
use Rattle.listing.proofs.LineLaws.{buses_text}
use Rattle.listing.proofs.put_lines.put_buses.Given as goal

abbrev pub invariant-loop-i : goal.invariant-loop-i
invariant-loop-i l = (length l.buf ≡ length l.initial.buf) × Put (buses_text (take l.i (buses_of l.fn.p))) l.at l.initial.buf l.buf l.e
    × (length (buses_text (take l.i (buses_of l.fn.p))) ≤ l.i * bus_room)
