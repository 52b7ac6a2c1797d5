-- `text_lines::test::patterns_to_end` meets its contract. The definition goes on behind the patterns and behind the power as the code does, and
-- then the line must end; the patterns are within their limits, so that they fit. Assumes nothing.
use native.Mathlib.Omega.{arith}
use mathlib.Core.Path.{sym, ◌∙◌}
use Rattle.fields.proofs.PlaceAnswerLaws.{key-number-is}
use Rattle.fields.proofs.ReaderLaws.{after-no, after-got, key-between-within}
use Rattle.text_lines.proofs.HeadLaws.{closed-no, closed-end, closed-left}
use Rattle.text_lines.proofs.PartLaws.{exit}
use borrow.Author.Rules.{rules}
use mir.Syntax.{w32}
use mir.Val.{SFits}
use Rattle.soc.proofs.FigureLaws.{figure_back}
use Rattle.fields.specs.Bytes.{bytes}
use Rattle.soc.specs.Limits.{patterns_max}
use Rattle.text_lines.specs.Kinds.{patterns_part}
use Rattle.text_lines.proofs.test.patterns_to_end.Goals as goal

pub returns-in_err-p : goal.returns-in_err-p
unfolding patterns_part
returns-in_err-p c = rw (exit _ c.from_residual.ensures.1) (sym (closed-no _ _ (after-no _ _ _ (sym (key-number-is _ _ _ _ _ c.in_err-p.ensures)))))

pub returns-in_err-w : goal.returns-in_err-w
unfolding patterns_part
returns-in_err-w c = rw (exit _ c.from_residual-in_err-w.ensures.1) (sym (closed-no _ _ (after-got _ _ _ _ (sym (key-number-is _ _ _ _ _ c.in_ok-p.ensures)) ∙ after-no _ _ _ (sym c.in_err-w.ensures))))

pub returns-in_err-line_end : goal.returns-in_err-line_end
unfolding patterns_part
returns-in_err-line_end c = rw (exit _ c.from_residual-in_err-line_end.ensures.1) (closed-left _ _ _ _ (after-got _ _ _ _ (sym (key-number-is _ _ _ _ _ c.in_ok-p.ensures)) ∙ after-got _ _ _ _ (sym c.in_ok-w.ensures)) c.in_err-line_end.ensures)

pub overflow_cast-result : goal.overflow_cast-result
overflow_cast-result c = let w = key-between-within (bytes "Patterns") 1 patterns_max _ _ _ (sym (key-number-is _ _ _ _ _ c.in_ok-p.ensures)) in omega arith

pub returns : goal.returns
unfolding patterns_part
returns c = let fits : SFits w32 c.in_ok-w.w = record { sfits = search rules } in
    rw (figure_back c.in_ok-w.w fits) (closed-end _ _ _ (after-got _ _ _ _ (sym (key-number-is _ _ _ _ _ c.in_ok-p.ensures)) ∙ after-got _ _ _ _ (sym c.in_ok-w.ensures)) c.in_ok-line_end.ensures)
