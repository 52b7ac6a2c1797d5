-- `listing::put_lines::put_form` meets its contract: what its invariant (Invariants.antt) leaves to show. Assumes nothing.
use Prim.Native.Nat.{◌<◌}
use lib.ListN.{length}
use Rattle.listing.proofs.FormLaws.{formed-start, formed-end, figure_there, formed-figure, byte-room, formed-next}
use Rattle.listing.proofs.put_lines.put_form.Goals as goal
use Rattle.listing.proofs.put_lines.put_form.Goals.{Else-b-eq35, Then-b-eq35, then-b-eq35, else-b-eq35}

-- a mark has its figure
figure : (c : Then-b-eq35) → c.loop-b.k < length c.args.figures.now
figure c = figure_there c.loop-b.invariant c.loop-b-test.true c.if-b-eq35.true

-- a byte has its room
room : (c : Else-b-eq35) → c.loop-b.e < length c.loop-b.buf
room c = byte-room c.loop-b.invariant c.loop-b-test.true c.if-b-eq35.false

pub loop-b-init : goal.loop-b-init
loop-b-init c = formed-start c.requires.0 c.requires.1

pub bounds-figures-k : goal.bounds-figures-k
bounds-figures-k c = figure (goal.at.bounds-figures-k c).Then-b-eq35

pub bounds-buf-e : goal.bounds-buf-e
bounds-buf-e c = room c

pub loop-b-preserved : goal.loop-b-preserved
loop-b-preserved c = let h = c.loop-b-test.true in
    (elim c.if-b-eq35.branch [ then-b-eq35 w ↦ rw (w.buf-is, w.e-is, w.k-is) (formed-figure c.loop-b.invariant h w.if-b-eq35.true w.put_number-e.ensures) | else-b-eq35 w ↦ rw (w.buf-is, w.e-is, w.k-is) (formed-next c.loop-b.invariant h w.if-b-eq35.false) ])

pub returns : goal.returns
returns c = formed-end c.loop-b.invariant c.loop-b-test.false
