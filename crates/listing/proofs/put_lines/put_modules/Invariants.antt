-- `listing::put_lines::put_modules` meets its contract. The loop's invariant: the text of the first modules is put, and each line keeps its bound.
-- Assumes nothing.
use Prim.Native.Nat.{◌*◌, ◌≤◌}
use mathlib.Core.Path.{◌≡◌}
use lib.ListN.{length, take}
use Rattle.buffer.specs.Puts.{Put}
use Rattle.plan_record.specs.Record.{modules_of}
use Rattle.listing.specs.Room.{module_room}
use Rattle.listing.proofs.LineLaws.{modules_text}
use Rattle.listing.proofs.put_lines.put_modules.Given as goal

abbrev pub invariant-loop-m : goal.invariant-loop-m
invariant-loop-m l = (length l.buf ≡ length l.initial.buf) × Put (modules_text (take l.m-index (modules_of l.fn.p))) l.at l.initial.buf l.buf l.e
    × (length (modules_text (take l.m-index (modules_of l.fn.p))) ≤ l.m-index * module_room)
