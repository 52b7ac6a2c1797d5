-- `plan::entry::buses_of` meets its contract: what its invariant (Invariants.antt) leaves to show. Assumes nothing.
use native.Mathlib.Omega.{arith}
use Prim.Native.Nat.{◌<◌}
use mathlib.Core.Path.{◌≡◌, sym, ◌∙◌}
use lib.ListN.{get_or, take, length-take}
use lib.Seq.{get_or-take}
use Rattle.units.proofs.PlaceLaws.{padded-none}
use Rattle.plan_search.specs.Search.{table_time}
use Rattle.plan_record.specs.Record.{bus_places, no_bus}
use Rattle.plan.proofs.EntryLaws.{cycles_of_lem, front-none, front_fill, front-all}
use Rattle.plan.proofs.entry.buses_of.Goals as goal
use Rattle.plan.proofs.entry.buses_of.Goals.{In-loop-b}

module _ (c : In-loop-b) where
  below : c.loop-b.b < c.args.f.count
  below = omega (arith, length-take c.args.f.count c.args.f.widths)

  width_is : get_or (take c.args.f.count c.args.f.widths) c.loop-b.b 0 ≡ get_or c.args.f.widths c.loop-b.b 0
  width_is = get_or-take c.args.f.count c.args.f.widths c.loop-b.b 0 below

pub loop-b-init : goal.loop-b-init
loop-b-init c = let a = c.args in
    let none = front-none (table_time a.table.now) (take a.n a.f.buses) a.f.widths in
    rw (c.no_bus-list.ensures, none) (sym (padded-none bus_places no_bus))

pub loop-b-preserved : goal.loop-b-preserved
loop-b-preserved c = let i = (goal.at.loop-b-preserved c).In-loop-b in
    let f = c.args.f in
    let m = below i in
    let fill =
    front_fill (table_time c.args.table.now) (take c.args.n f.buses) f.widths c.loop-b.b c.loop-b.list (omega (arith, length-take f.count f.widths))
    (omega (arith, c.requires.1.few)) c.loop-b.invariant
    in
    rw (cycles_of_lem c.busy_of.ensures, width_is i) fill

pub returns : goal.returns
returns c = let f = c.args.f in
    let e : c.loop-b.b ≡ f.count = omega (arith, length-take f.count f.widths, c.requires.1.few) in
    c.loop-b.invariant ∙ rw e (front-all (table_time c.args.table.now) f c.args.n)
