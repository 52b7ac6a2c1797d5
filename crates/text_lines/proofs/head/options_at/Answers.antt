-- `text_lines::head::options_at` meets its contract. The definition reads the two flags as the code does, and the line ends behind them or not.
-- Assumes nothing.
use mathlib.Core.Path.{sym, ◌∙◌}
use Rattle.fields.proofs.ReaderLaws.{after-no, after-got}
use Rattle.text_lines.proofs.HeadLaws.{closed-no, closed-end, closed-left}
use Rattle.text_lines.proofs.PartLaws.{exit}
use Rattle.text_lines.specs.Kinds.{options_part}
use Rattle.text_lines.proofs.head.options_at.Goals as goal

pub returns-in_err-power : goal.returns-in_err-power
unfolding options_part
returns-in_err-power c = rw (exit _ c.from_residual.ensures.1) (sym (closed-no _ _ (after-no _ _ _ (sym c.in_err-power.ensures))))

pub returns-in_err-xy : goal.returns-in_err-xy
unfolding options_part
returns-in_err-xy c = rw (exit _ c.from_residual-in_err-xy.ensures.1) (sym (closed-no _ _ (after-got _ _ _ _ (sym c.in_ok-power.ensures) ∙ after-no _ _ _ (sym c.in_err-xy.ensures))))

pub returns-in_err-line_end : goal.returns-in_err-line_end
unfolding options_part
returns-in_err-line_end c = rw (exit _ c.from_residual-in_err-line_end.ensures.1) (closed-left _ _ _ _ (after-got _ _ _ _ (sym c.in_ok-power.ensures) ∙ after-got _ _ _ _ (sym c.in_ok-xy.ensures)) c.in_err-line_end.ensures)

pub returns : goal.returns
unfolding options_part
returns c = closed-end _ _ _ (after-got _ _ _ _ (sym c.in_ok-power.ensures) ∙ after-got _ _ _ _ (sym c.in_ok-xy.ensures)) c.in_ok-line_end.ensures
