-- `text_lines::level::terminals_at` meets its contract. The definition reads the three numbers as the code does. Each is within its limit, so
-- the casts keep them. Assumes nothing.
use native.Mathlib.Omega.{arith}
use mathlib.Core.Path.{sym, ◌∙◌}
use Rattle.fields.proofs.PlaceAnswerLaws.{key-number-is}
use Rattle.fields.proofs.ReaderLaws.{after-no, after-got, key-between-within}
use Rattle.fields.specs.Bytes.{bytes}
use Rattle.soc.specs.Limits.{terminals_max}
use Rattle.text_lines.proofs.PartLaws.{exit}
use Rattle.text_lines.specs.Kinds.{terminals}
use Rattle.text_lines.proofs.level.terminals_at.Goals as goal

pub returns-in_err-i : goal.returns-in_err-i
unfolding terminals
returns-in_err-i c = rw (exit _ c.from_residual.ensures.1) (sym (after-no _ _ _ (sym (key-number-is _ _ _ _ _ c.in_err-i.ensures))))

pub returns-in_err-o : goal.returns-in_err-o
unfolding terminals
returns-in_err-o c = rw (exit _ c.from_residual-in_err-o.ensures.1) (sym (after-got _ _ _ _ (sym (key-number-is _ _ _ _ _ c.in_ok-i.ensures)) ∙ after-no _ _ _ (sym (key-number-is _ _ _ _ _ c.in_err-o.ensures))))

pub returns-in_err-b : goal.returns-in_err-b
unfolding terminals
returns-in_err-b c = rw (exit _ c.from_residual-in_err-b.ensures.1) (sym (after-got _ _ _ _ (sym (key-number-is _ _ _ _ _ c.in_ok-i.ensures)) ∙ after-got _ _ _ _ (sym (key-number-is _ _ _ _ _ c.in_ok-o.ensures)) ∙ after-no _ _ _ (sym (key-number-is _ _ _ _ _ c.in_err-b.ensures))))

pub overflow_cast-terminals : goal.overflow_cast-terminals
overflow_cast-terminals c = let w = key-between-within (bytes "Inputs") 0 terminals_max _ _ _ (sym (key-number-is _ _ _ _ _ c.in_ok-i.ensures)) in omega arith

pub overflow_cast-terminals-2 : goal.overflow_cast-terminals-2
overflow_cast-terminals-2 c = let w = key-between-within (bytes "Outputs") 0 terminals_max _ _ _ (sym (key-number-is _ _ _ _ _ c.in_ok-o.ensures)) in omega arith

pub overflow_cast-terminals-3 : goal.overflow_cast-terminals-3
overflow_cast-terminals-3 c = let w = key-between-within (bytes "Bidirs") 0 terminals_max _ _ _ (sym (key-number-is _ _ _ _ _ c.in_ok-b.ensures)) in omega arith

pub returns : goal.returns
unfolding terminals
returns c = sym (after-got _ _ _ _ (sym (key-number-is _ _ _ _ _ c.in_ok-i.ensures)) ∙ after-got _ _ _ _ (sym (key-number-is _ _ _ _ _ c.in_ok-o.ensures)) ∙ after-got _ _ _ _ (sym (key-number-is _ _ _ _ _ c.in_ok-b.ensures)))
