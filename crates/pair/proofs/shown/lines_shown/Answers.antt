-- `pair::shown::lines_shown` meets its contract: the pair is read first, then the module is looked for, and its lines stand between its
-- marks. Assumes nothing.
use mathlib.Core.Path.{sym, ap, ◌∙◌}
use Rattle.std.specs.Prelude.{Ok}
use Rattle.std.proofs.lemmas.Result.{err_from_is_err_and}
use Rattle.pair.specs.Pair.{refused_pair}
use Rattle.pair.specs.Shown.{shown_in, shown_of, lines_shown}
use Rattle.pair.specs.declared.read.Meant.TheVariants as meant
use Rattle.pair.proofs.PairMarkLaws.{between-shown}
use Rattle.pair.proofs.ShownLaws.{shown_absent, shown_there}
use Rattle.pair.proofs.shown.lines_shown.Goals as goal

pub returns-in_err-read : goal.returns-in_err-read
unfolding lines_shown shown_of
returns-in_err-read c = let s = c.args in
    let p = err_from_is_err_and c.from_residual.result c.from_residual.ensures.1 in
    rw (p.1, p.2) (ap (λ r. shown_of r s.base.now s.overlay.now s.m) c.in_err-read.ensures.pair)

pub returns-then-m-read : goal.returns-then-m-read
unfolding lines_shown
returns-then-m-read c = let s = c.args in
    ap (λ r. refused_pair r meant.Neither) c.at.ensures
    ∙ sym (shown_absent c.in_ok-read.read.pair s.base.now s.overlay.now s.m c.if-m-read.true)
    ∙ ap (λ r. shown_of r s.base.now s.overlay.now s.m) c.in_ok-read.ensures.pair

pub returns : goal.returns
unfolding lines_shown
returns c = let s = c.args in
    let p = c.in_ok-read.ensures in
    let there = c.if-m-read.false in
    let o = c.is_over-over in
    ap Ok
    (c.shown_between.ensures
    ∙ between-shown s.m s.base.now s.overlay.now _ _ o.result (p.in_base there) (λ e. p.in_overlay (sym o.ensures ∙ e))
    ∙ ap (shown_in s.base.now s.overlay.now s.m) o.ensures)
    ∙ sym (shown_there c.in_ok-read.read.pair s.base.now s.overlay.now s.m there)
    ∙ ap (λ r. shown_of r s.base.now s.overlay.now s.m) p.pair
