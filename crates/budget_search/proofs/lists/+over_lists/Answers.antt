-- `lists::over_lists` meets its contract: what its invariant (Invariants.antt) leaves to show. Assumes nothing.
use native.Mathlib.Omega.{arith}
use Prim.Native.Nat.{ℕ, ◌-◌, ◌≤◌}
use mathlib.Core.Path.{refl, sym, ap, ◌∙◌}
use mathlib.Core.List.{List, ◌++◌, map}
use lib.ListN.{length, take, set, length-set}
use lib.Seq.{take-set-le}
use Rattle.plan_rules.specs.Listed.{width_lists}
use Rattle.budget_rules.specs.Tries.{on_lists}
use Rattle.budget_search.specs.Steps.{held_in}
use Rattle.plan_search.specs.Search.{table_time}
use Rattle.budget_search.proofs.SpendLaws.{lists_append, lists_none, lists_one, lists_stopped}
use Rattle.budget_search.proofs.PlaceLaws.{spent_held}
use Rattle.budget_search.proofs.ListLaws.{low_fits, begun_more, left-none, left_one}
use Rattle.budget_search.proofs.ListLaws.{left-more, front_same}
use Rattle.budget_search.proofs.lists.+over_lists.Goals as goal
use Rattle.budget_search.proofs.lists.+over_lists.Goals.{Start, Else-left-low, Else-due-eq1}

-- some list is left
fits : (t : ℕ) (c : Else-left-low t) → c.args.low.0 ≤ c.args.left.0
fits t c =
    let a = c.args in
    low_fits a.low.0 (length a.widths.now - a.at) a.left.0 (omega (arith, c.requires.4.at_most)) (omega (arith, c.if-left-low.false))

-- the lists that are left
abbrev left-lists : (t : ℕ) → Start t → List (List ℕ)
left-lists t c =
    map (λ us. take c.args.at c.args.widths.now ++ us)
    (width_lists (length c.args.widths.now - c.args.at) c.args.low.0 c.args.left.0)

pub returns-then-is_stopped : goal.returns-then-is_stopped
returns-then-is_stopped t c =
    let a = c.args in
    let e = sym c.is_stopped.ensures ∙ c.if-is_stopped.true in (
      sym (lists_stopped (table_time a.table.now) a.budget (held_in a.n a.budget a.s a.best.now) e
          (spent_held a.n a.budget a.s a.best.now e) a.n (left-lists t (goal.at.returns-then-is_stopped t c).Start) c.requires.1),
      c.requires.3,
      refl,
    )

pub returns-then-left-low : goal.returns-then-left-low
returns-then-left-low t c =
    let a = c.args in
    let none = left-none c.requires.4 c.if-left-low.true in (
      sym (ap (λ wss. on_lists (table_time a.table.now) a.budget a.n wss (held_in a.n a.budget a.s a.best.now)) none
          ∙ lists_none (table_time a.table.now) a.budget a.n (held_in a.n a.budget a.s a.best.now)),
      c.requires.3,
      refl,
    )

pub returns-then-due-eq1 : goal.returns-then-due-eq1
returns-then-due-eq1 t c =
    let a = c.args in
    let p = c.placed_on in
    let one = left_one c.requires.4 c.if-due-eq1.true (fits t (goal.at.returns-then-due-eq1 t c).Else-left-low) in (
      p.ensures.0
          ∙ sym (ap (λ wss. on_lists (table_time a.table.now) a.budget a.n wss
          (held_in a.n a.budget a.s a.best.now)) one
          ∙ lists_one (table_time a.table.now) a.budget a.n (set a.widths.now a.at a.left.0)
          (held_in a.n a.budget a.s a.best.now)),
      p.ensures.1,
      take-set-le a.at a.widths.now a.at a.left.0 (omega arith),
    )

-- the next width is more, by omega, so that a wrong one is met where the lists are told
pub over_lists-requires : goal.over_lists-requires
over_lists-requires t c =
    let a = c.args in
    let o = c.over_lists-r in
    let f = fits t (goal.at.over_lists-requires t c).Else-left-low in
    let w = c.requires.4.narrow in
    let n = o.auto.widths ∙ length-set a.widths.now a.at a.low.0 in
    let e = front_same a.widths.now o.new.widths a.at a.low.0 o.ensures.2 in (
      rw n (omega (arith, f, w)),
      (
        c.requires.0,
        c.requires.1,
        c.requires.2,
        o.ensures.1,
        begun_more c.requires.4 n e (omega arith) (omega (arith, f, w)),
      ),
    )

pub returns : goal.returns
returns t c =
    let a = c.args in
    let o = c.over_lists-r in
    let q = c.over_lists in
    let time = table_time a.table.now in
    let vs = o.new.widths in
    let n = o.auto.widths ∙ length-set a.widths.now a.at a.low.0 in
    let e = front_same a.widths.now vs a.at a.low.0 o.ensures.2 in
    let more = left-more c.requires.4 vs n e (fits t (goal.at.returns t c).Else-left-low) in (
      q.ensures.0 ∙ ap (on_lists time a.budget a.n _) o.ensures.0
          ∙ sym (ap (λ wss. on_lists time a.budget a.n wss (held_in a.n a.budget a.s a.best.now)) more
          ∙ lists_append time a.budget a.n _ _ (held_in a.n a.budget a.s a.best.now)),
      q.ensures.1,
      q.ensures.2 ∙ e,
    )
