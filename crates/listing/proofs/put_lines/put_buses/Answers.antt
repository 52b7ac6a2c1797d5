-- `listing::put_lines::put_buses` meets its contract: what its invariant (Invariants.antt) leaves to show. Assumes nothing.
use native.Mathlib.Omega.{arith}
use Prim.Native.Nat.{◌+◌, ◌*◌, ◌≤◌}
use mathlib.Core.Path.{◌≡◌, refl, ◌∙◌}
use mathlib.Core.List.{[], ◌∷◌, ◌++◌}
use lib.ListN.{length, get_or, take, length-append, length-take}
use lib.Seq.{take_all}
use Rattle.buffer.proofs.PutLaws.{put-none, put_then}
use Rattle.plan_record.specs.Record.{bus_places, no_bus, buses_of}
use Rattle.listing.specs.Room.{bus_room}
use Rattle.fields.specs.WrittenLines.{written_lines}
use Rattle.listing.specs.Listing.{bus_fields, bus_lines}
use Rattle.listing.proofs.LineLaws.{buses_text, buses-more}
use Rattle.listing.proofs.put_lines.put_buses.Goals as goal
use Rattle.listing.proofs.put_lines.put_buses.Goals.{In-loop-i}

-- the text of one more
more : (c : In-loop-i) →
    let p = c.args.p in
    buses_text (take (c.loop-i.i + 1) (buses_of p)) ≡ buses_text (take c.loop-i.i (buses_of p)) ++ written_lines (bus_fields (c.loop-i.i + 1) (get_or (buses_of p) c.loop-i.i no_bus) ∷ [])
more c = buses-more c.loop-i.i (buses_of c.args.p) no_bus c.loop-i-test.true

pub loop-i-init : goal.loop-i-init
unfolding bus_lines written_lines
loop-i-init c = (refl, put-none _ _, omega arith)

pub loop-i-preserved : goal.loop-i-preserved
loop-i-preserved c = let m = more (goal.at.loop-i-preserved c).In-loop-i in (
  c.put_bus_line-e.auto.buf ∙ c.loop-i.invariant.0,
  rw m (put_then (omega (arith, c.requires.1)) c.loop-i.invariant.1 c.put_bus_line-e.ensures.0),
  rw (m, length-append) (omega (arith, c.loop-i.invariant.2, c.put_bus_line-e.ensures.1)),
)

pub returns : goal.returns
returns c = let all = take_all c.loop-i.i (buses_of c.args.p) c.loop-i-test.false in
    let l = length-take c.args.p.bus_count c.args.p.buses in
    let long : length (buses_text (take c.loop-i.i (buses_of c.args.p))) ≤ bus_places * bus_room = omega (arith, c.loop-i.invariant.2, c.loop-i.auto.i-end, c.requires.0) in
    (rw all at c.loop-i.invariant.1, rw all at long)
