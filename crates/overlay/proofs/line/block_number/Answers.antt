-- `overlay::line::block_number` meets its contract. The definition goes on behind the number with its rule as the code does. Assumes
-- nothing.
use native.Mathlib.Omega.{arith}
use mathlib.Core.Path.{sym, ◌∙◌}
use borrow.Author.Tests.{le-leb, lt-leb}
use Rattle.fields.proofs.PlaceAnswerLaws.{key-number-is}
use Rattle.fields.proofs.ReaderLaws.{after-no, after-got}
use Rattle.text_lines.specs.Kinds.{block_number}
use Rattle.text_lines.proofs.PartLaws.{exit, rule-kept, rule_broken}
use Rattle.overlay.proofs.line.block_number.Goals as goal

pub returns-in_err-m : goal.returns-in_err-m
unfolding block_number
returns-in_err-m c = rw (exit _ c.from_residual.ensures.1) (sym (after-no _ _ _ (sym (key-number-is _ _ _ _ _ c.in_err-m.ensures))))

pub returns-then-from-m : goal.returns-then-from-m
unfolding block_number
returns-then-from-m c = sym (after-got _ _ _ _ (sym (key-number-is _ _ _ _ _ c.in_ok-m.ensures)) ∙ after-got _ _ _ _ (rule-kept _ _ (le-leb c.args.low c.in_ok-m.m (omega arith))))

pub returns-else-from-m : goal.returns-else-from-m
unfolding block_number
returns-else-from-m c = sym (after-got _ _ _ _ (sym (key-number-is _ _ _ _ _ c.in_ok-m.ensures)) ∙ after-no _ _ _ (rule_broken _ _ (lt-leb c.args.low c.in_ok-m.m (omega arith))))
