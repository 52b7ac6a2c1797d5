-- `plan::entry::modules_of` meets its contract: what its invariant (Invariants.antt) leaves to show. Assumes nothing.
use native.Mathlib.Omega.{arith}
use Prim.Native.Nat.{◌<◌}
use mathlib.Core.Path.{◌≡◌, sym, ◌∙◌}
use lib.ListN.{get_or, take, length-take}
use lib.Seq.{get_or-take}
use Rattle.units.proofs.PlaceLaws.{padded-none}
use Rattle.plan_record.specs.Record.{module_places, no_placed}
use Rattle.plan.proofs.EntryLaws.{cycles_of_lem, placed-none, placed_fill, placed-all}
use Rattle.plan.proofs.entry.modules_of.Goals as goal
use Rattle.plan.proofs.entry.modules_of.Goals.{In-loop-i}

module _ (c : In-loop-i) where
  -- a turn is for a module
  below : c.loop-i.i < c.args.p.count
  below = omega (arith, length-take c.args.p.count c.args.p.numbers)

  number_is : get_or (take c.args.p.count c.args.p.numbers) c.loop-i.i 0 ≡ get_or c.args.p.numbers c.loop-i.i 0
  number_is = get_or-take c.args.p.count c.args.p.numbers c.loop-i.i 0 below

pub loop-i-init : goal.loop-i-init
loop-i-init c = let a = c.args in
    rw (c.no_placed-list.ensures, placed-none a.p a.t a.f) (sym (padded-none module_places no_placed))

pub loop-i-preserved : goal.loop-i-preserved
loop-i-preserved c = let i = (goal.at.loop-i-preserved c).In-loop-i in
    let a = c.args in
    let h = below i in
    let fill =
    placed_fill a.p a.t a.f c.loop-i.i c.loop-i.list (omega (arith, c.requires.1.few)) (omega (arith, c.requires.0.few)) c.loop-i.invariant
    in
    rw (cycles_of_lem c.busy_of.ensures, number_is i) fill

pub returns : goal.returns
returns c = let p = c.args.p in
    let e : c.loop-i.i ≡ p.count = omega (arith, length-take p.count p.numbers, c.requires.0.few) in
    c.loop-i.invariant ∙ rw e (placed-all p c.args.t c.args.f)
