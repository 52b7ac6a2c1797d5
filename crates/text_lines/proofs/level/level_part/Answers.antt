-- `text_lines::level::level_part` meets its contract. The definition goes on behind the module's number, behind the level and with its rule as
-- the code does. A level that was read is within its limit, so the cast keeps it. Assumes nothing.
use native.Mathlib.Omega.{arith}
use mathlib.Core.Path.{sym, ◌∙◌}
use Rattle.fields.proofs.PlaceAnswerLaws.{key-number-is}
use Rattle.fields.proofs.ReaderLaws.{after-no, after-got, key-between-within}
use Rattle.fields.specs.Bytes.{bytes}
use Rattle.soc.specs.Limits.{level_max}
use Rattle.text_lines.proofs.PartLaws.{exit, rule-kept, rule_broken}
use Rattle.text_lines.specs.Kinds.{level}
use Rattle.text_lines.proofs.level.level_part.Goals as goal

pub returns-in_err-e1 : goal.returns-in_err-e1
unfolding level
returns-in_err-e1 c = rw (exit _ c.from_residual.ensures.1) (sym (after-no _ _ _ (sym c.in_err-e1.ensures)))

pub returns-in_err-v : goal.returns-in_err-v
unfolding level
returns-in_err-v c = rw (exit _ c.from_residual-in_err-v.ensures.1) (sym (after-got _ _ _ _ (sym c.in_ok-e1.ensures) ∙ after-no _ _ _ (sym (key-number-is _ _ _ _ _ c.in_err-v.ensures))))

pub overflow_cast-v : goal.overflow_cast-v
overflow_cast-v c = let w = key-between-within (bytes "Level") 0 level_max _ _ _ (sym (key-number-is _ _ _ _ _ c.in_ok-v.ensures)) in omega arith

pub returns-then-keeps_level_rule : goal.returns-then-keeps_level_rule
unfolding level
returns-then-keeps_level_rule c = sym (after-got _ _ _ _ (sym c.in_ok-e1.ensures) ∙ after-got _ _ _ _ (sym (key-number-is _ _ _ _ _ c.in_ok-v.ensures)) ∙ after-got _ _ _ _ (rule-kept _ _ (sym c.keeps_level_rule.ensures ∙ c.if-keeps_level_rule.true)))

pub returns-else-keeps_level_rule : goal.returns-else-keeps_level_rule
unfolding level
returns-else-keeps_level_rule c = sym (after-got _ _ _ _ (sym c.in_ok-e1.ensures) ∙ after-got _ _ _ _ (sym (key-number-is _ _ _ _ _ c.in_ok-v.ensures)) ∙ after-no _ _ _ (rule_broken _ _ (sym c.keeps_level_rule.ensures ∙ c.if-keeps_level_rule.false)))
