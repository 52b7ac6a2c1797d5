-- `within::spent_of` meets its contract. Assumes nothing.
use native.Mathlib.Omega.{arith}
use mathlib.Core.Path.{sym}
use Rattle.budget_search.proofs.SpentLaws.{spent_unknown, spent_known}
use Rattle.budget_search.proofs.within.spent_of.Goals as goal

pub returns-then-time-ge-NO_TIME : goal.returns-then-time-ge-NO_TIME
returns-then-time-ge-NO_TIME c = let a = c.args in
    rw (c.none_found.ensures, c.tries_of-tries.ensures, c.is_stopped-stopped.ensures)
    (sym (spent_unknown a.n a.budget a.s a.best (omega (arith, c.if-time-ge-NO_TIME.true))))

pub returns : goal.returns
returns c = let a = c.args in
    rw (c.tries_of-tries.ensures, c.is_stopped-stopped.ensures)
    (sym (spent_known a.n a.budget a.s a.best (omega (arith, c.if-time-ge-NO_TIME.false)) c.requires.1
    c.widths_in-widths.ensures c.buses_in-buses.ensures))
