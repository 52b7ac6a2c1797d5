-- `groups::over_group` meets its contract: what its invariant (Invariants.antt) leaves to show. Assumes nothing.
use native.Mathlib.Omega.{arith}
use Prim.Native.Nat.{ℕ, suc, ◌+◌, ◌-◌, ◌*◌, ◌/◌, ◌<◌}
use mathlib.Core.Path.{◌≡◌, sym, ◌∙◌}
use native.Mathlib.Nat.{div-le_self}
use lib.ListN.{length, take, set, length-set}
use Rattle.plan_search.specs.Lists.{group, Group}
use Rattle.plan_search.proofs.GroupLaws.{group_as, wide-front, wide-widths, group-none, group_split, group-next, group-one, last-widths, group-last, group_upper}
use Rattle.plan_search.proofs.SoughtLaws.{sought-none, sought-append, sought_le, sought_as, sought-rooms}
use Rattle.plan_search.proofs.groups.+over_group.Goals as goal
use Rattle.plan_search.proofs.groups.+over_group.Goals.{Else-at-c, Then-low-high}

-- a width behind this one is to be set too
less : (t : ℕ) (c : Else-at-c t) → suc c.args.at < length c.args.widths.now
less t c = omega (arith, c.requires.2.at_most, c.if-at-c.false)

-- the next width is known
single : (t : ℕ) (c : Then-low-high t) → let a = c.args in Group a.at a.low.0 a.low.0 a.left.0 a.widths.now
single t c =
    let e = c.if-low-high.true in
    rw (← e) at c.requires.2

pub on_widths-requires : goal.on_widths-requires
on_widths-requires t c =
    let e : suc c.args.at ≡ length c.args.widths.now = omega (arith, c.if-at-c.true) in
    (c.requires.0, last-widths c.requires.2 e, c.requires.1, rw length-set c.requires.3)

pub returns-then-at-c-clause-sought : goal.returns-then-at-c-clause-sought
returns-then-at-c-clause-sought t c =
    let e : suc c.args.at ≡ length c.args.widths.now = omega (arith, c.if-at-c.true) in
    sought_as (group-last c.requires.2 e) c.on_widths.ensures

pub over_group-requires : goal.over_group-requires
over_group-requires t c =
    let a = c.args in
    let g = single t (goal.at.over_group-requires t c).Then-low-high in
    let p = less t (goal.at.over_group-requires t c).Else-at-c in
    let k = length a.widths.now - (a.at + 1) in
    let m : (length (set a.widths.now a.at a.low.0) - (a.at + 1)) * 65 + ((a.left.0 - a.low.0) / k - a.low.0) < t =
    rw length-set (omega (arith, p, div-le_self (a.left.0 - a.low.0) k, g.narrow)) in
    (m, (c.requires.0, c.requires.1, group-next g p, rw length-set c.requires.3))

pub returns-then-low-high-clause-sought : goal.returns-then-low-high-clause-sought
returns-then-low-high-clause-sought t c =
    let a = c.args in
    let e : a.high.0 ≡ a.low.0 = sym c.if-low-high.true in
    let h : group (take a.at a.widths.now) (length a.widths.now - (a.at + 1)) a.low.0 a.high.0 a.left.0
    ≡ group (take a.at a.widths.now) (length a.widths.now - (a.at + 1)) a.low.0 a.low.0 a.left.0 = rw e in
    let place = goal.at.returns-then-low-high-clause-sought t c in
    sought_as (h ∙ group-one (single t place.Then-low-high) (less t place.Else-at-c)) c.over_group.ensures.sought

pub may_beat-requires : goal.may_beat-requires
may_beat-requires t c =
    let g = c.requires.2 in
    (c.requires.0, rw c.widen.ensures (wide-widths g), c.requires.1)

pub returns-then-not-may_beat-clause-sought : goal.returns-then-not-may_beat-clause-sought
returns-then-not-may_beat-clause-sought t c =
    sought-none _ c.requires.3 (group-none c.requires.2 c.requires.0 _ (rw c.widen.ensures at (c.may_beat.ensures c.if-not-may_beat.true)))

pub over_group-requires-2 : goal.over_group-requires-2
over_group-requires-2 t c =
    let a = c.args in
    let g = c.requires.2 in
    let w = c.widen in
    let o = c.over_group-r in
    let n = o.auto.widths ∙ w.auto.widths in
    let p : a.low.0 < a.high.0 = omega (arith, g.upward, c.if-low-high.false) in
    let d : (length o.new.widths - a.at) * 65 + (a.high.0 - ((a.low.0 + a.high.0) / 2 + 1)) < t = rw n (omega arith) in (
      d,
      (
        c.requires.0,
        omega (arith, c.requires.1, sought_le _ o.ensures.sought),
        group_upper g (less t (goal.at.over_group-requires-2 t c).Else-at-c) c.if-low-high.false n (o.ensures.widths_unchanged ∙ rw w.ensures (wide-front g)),
        sought-rooms _ c.requires.3 n o.ensures.sought,
      ),
    )

pub returns-clause-sought : goal.returns-clause-sought
returns-clause-sought t c =
    let a = c.args in
    let g = c.requires.2 in
    let w = c.widen in
    let o = c.over_group-r in
    let ws = a.widths.now in
    let vs = w.new.widths in
    let us = o.new.widths in
    let middle = (a.low.0 + a.high.0) / 2 in
    let front : take a.at vs ≡ take a.at ws = rw w.ensures (wide-front g) in
    let n = w.auto.widths in
    let p : a.low.0 < a.high.0 = omega (arith, g.upward, c.if-low-high.false) in
    sought_as (group_split (take a.at ws) (length ws - (a.at + 1)) a.low.0 middle a.high.0 a.left.0 (omega arith) (omega arith))
    (sought-append _ _
    (sought_as (group_as ws vs a.at a.low.0 middle a.left.0 front n) o.ensures.sought)
    (sought_as (group_as ws us a.at (middle + 1) a.high.0 a.left.0 (o.ensures.widths_unchanged ∙ front) (o.auto.widths ∙ n)) c.over_group-2.ensures.sought))
