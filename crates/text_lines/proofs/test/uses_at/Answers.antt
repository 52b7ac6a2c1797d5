-- `text_lines::test::uses_at` meets its contract. The definition goes on behind each flag and with the rule on pins as the code does. Assumes nothing.
use mathlib.Core.Path.{sym, ◌∙◌}
use Rattle.fields.proofs.ReaderLaws.{after-no, after-got}
use Rattle.text_lines.proofs.PartLaws.{exit, pins-kept, pins_broken}
use Rattle.text_lines.specs.Kinds.{uses}
use Rattle.text_lines.proofs.test.uses_at.Goals as goal

pub returns-in_err-scan : goal.returns-in_err-scan
unfolding uses
returns-in_err-scan c = rw (exit _ c.from_residual.ensures.1) (sym (after-no _ _ _ (sym c.in_err-scan.ensures)))

pub returns-in_err-tam : goal.returns-in_err-tam
unfolding uses
returns-in_err-tam c = rw (exit _ c.from_residual-in_err-tam.ensures.1) (sym (after-got _ _ _ _ (sym c.in_ok-scan.ensures) ∙ after-no _ _ _ (sym c.in_err-tam.ensures)))

pub returns-then-not-keeps_pins_rule : goal.returns-then-not-keeps_pins_rule
unfolding uses
returns-then-not-keeps_pins_rule c = sym (after-got _ _ _ _ (sym c.in_ok-scan.ensures) ∙ after-got _ _ _ _ (sym c.in_ok-tam.ensures) ∙ after-no _ _ _ (pins_broken _ _ (sym c.keeps_pins_rule.ensures ∙ c.if-not-keeps_pins_rule.true)))

pub returns : goal.returns
unfolding uses
returns c = sym (after-got _ _ _ _ (sym c.in_ok-scan.ensures) ∙ after-got _ _ _ _ (sym c.in_ok-tam.ensures) ∙ after-got _ _ _ _ (pins-kept _ _ (sym c.keeps_pins_rule.ensures ∙ c.if-not-keeps_pins_rule.false)))
