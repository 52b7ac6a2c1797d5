-- `text_lines::second::position_to_end` meets its contract. The definition goes on behind each figure as the code does: to the rule for the pair,
-- and then the line must end. Assumes nothing.
use mathlib.Core.Path.{sym, ◌∙◌}
use Rattle.fields.proofs.ReaderLaws.{after-no, after-got}
use Rattle.text_lines.proofs.HeadLaws.{closed-no, closed-end, closed-left}
use borrow.Author.Rules.{rules}
use mir.Syntax.{w32}
use mir.Val.{SFits}
use Rattle.soc.proofs.FigureLaws.{figure_back}
use Rattle.text_lines.proofs.PartLaws.{exit, rule_broken, rule-kept}
use Rattle.text_lines.specs.Kinds.{position_part}
use Rattle.text_lines.proofs.second.position_to_end.Goals as goal

pub returns-in_err-x : goal.returns-in_err-x
unfolding position_part
returns-in_err-x c = rw (exit _ c.from_residual.ensures.1) (sym (closed-no _ _ (after-no _ _ _ (sym c.in_err-x.ensures))))

pub returns-in_err-y : goal.returns-in_err-y
unfolding position_part
returns-in_err-y c = rw (exit _ c.from_residual-in_err-y.ensures.1) (sym (closed-no _ _ (after-got _ _ _ _ (sym c.in_ok-x.ensures) ∙ after-no _ _ _ (sym c.in_err-y.ensures))))

pub returns-then-not-is_pair : goal.returns-then-not-is_pair
unfolding position_part
returns-then-not-is_pair c = let u : SFits w32 c.in_ok-x.x = record { sfits = search rules } in
    let v : SFits w32 c.in_ok-y.y = record { sfits = search rules } in
    let p = rw (figure_back c.in_ok-x.x u, figure_back c.in_ok-y.y v) at c.is_pair.ensures in
    sym (closed-no _ _ (after-got _ _ _ _ (sym c.in_ok-x.ensures) ∙ after-got _ _ _ _ (sym c.in_ok-y.ensures) ∙ after-no _ _ _ (rule_broken _ _ (sym p ∙ c.if-not-is_pair.true))))

pub returns-in_err-line_end : goal.returns-in_err-line_end
unfolding position_part
returns-in_err-line_end c = let u : SFits w32 c.in_ok-x.x = record { sfits = search rules } in
    let v : SFits w32 c.in_ok-y.y = record { sfits = search rules } in
    let p = rw (figure_back c.in_ok-x.x u, figure_back c.in_ok-y.y v) at c.is_pair.ensures in
    rw (exit _ c.from_residual-in_err-line_end.ensures.1) (closed-left _ _ _ _ (after-got _ _ _ _ (sym c.in_ok-x.ensures) ∙ after-got _ _ _ _ (sym c.in_ok-y.ensures) ∙ after-got _ _ _ _ (rule-kept _ _ (sym p ∙ c.if-not-is_pair.false))) c.in_err-line_end.ensures)

pub returns : goal.returns
unfolding position_part
returns c = let u : SFits w32 c.in_ok-x.x = record { sfits = search rules } in
    let v : SFits w32 c.in_ok-y.y = record { sfits = search rules } in
    let p = rw (figure_back c.in_ok-x.x u, figure_back c.in_ok-y.y v) at c.is_pair.ensures in
    rw (figure_back c.in_ok-x.x u, figure_back c.in_ok-y.y v)
    (closed-end _ _ _ (after-got _ _ _ _ (sym c.in_ok-x.ensures) ∙ after-got _ _ _ _ (sym c.in_ok-y.ensures) ∙ after-got _ _ _ _ (rule-kept _ _ (sym p ∙ c.if-not-is_pair.false))) c.in_ok-line_end.ensures)
