-- `text_lines::level::shape_to_end` meets its contract. The definition goes on behind the terminals and behind the chains as the code does, and
-- the line ends behind them or not. Assumes nothing.
use mathlib.Core.Path.{sym, ◌∙◌}
use Rattle.fields.proofs.ReaderLaws.{after-no, after-got}
use Rattle.text_lines.proofs.HeadLaws.{closed-no, closed-end, closed-left}
use Rattle.text_lines.proofs.LevelLaws.{chains-end}
use Rattle.text_lines.proofs.PartLaws.{exit}
use Rattle.text_lines.proofs.level.shape_to_end.Goals as goal

pub returns-in_err-terminals : goal.returns-in_err-terminals
returns-in_err-terminals c = rw (exit _ c.from_residual.ensures.1) (sym (closed-no _ _ (after-no _ _ _ (sym c.in_err-terminals.ensures))))

pub returns-in_err-chains : goal.returns-in_err-chains
returns-in_err-chains c = rw (exit _ c.from_residual-in_err-chains.ensures.1) (sym (closed-no _ _ (after-got _ _ _ _ (sym c.in_ok-terminals.ensures) ∙ chains-end _ _ _ ∙ after-no _ _ _ (sym c.in_err-chains.ensures))))

pub returns-in_err-line_end : goal.returns-in_err-line_end
returns-in_err-line_end c = rw (exit _ c.from_residual-in_err-line_end.ensures.1) (closed-left _ _ _ _ (after-got _ _ _ _ (sym c.in_ok-terminals.ensures) ∙ chains-end _ _ _ ∙ after-got _ _ _ _ (sym c.in_ok-chains.ensures)) c.in_err-line_end.ensures)

pub returns : goal.returns
returns c = closed-end _ _ _ (after-got _ _ _ _ (sym c.in_ok-terminals.ensures) ∙ chains-end _ _ _ ∙ after-got _ _ _ _ (sym c.in_ok-chains.ensures)) c.in_ok-line_end.ensures
