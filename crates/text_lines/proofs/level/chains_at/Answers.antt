-- `text_lines::level::chains_at` meets its contract. The definition goes on behind the number of chains and behind the colon as the code
-- does. The number that was read is within its limit, as `lengths_at` requires. Assumes nothing.
use mathlib.Core.Path.{sym, ◌∙◌}
use Rattle.fields.proofs.PlaceAnswerLaws.{word-is, key-number-is}
use Rattle.fields.proofs.ReaderLaws.{after-no, after-got, key-between-within}
use Rattle.fields.specs.Bytes.{bytes}
use Rattle.soc.specs.Limits.{chains_max}
use Rattle.text_lines.proofs.PartLaws.{exit}
use Rattle.text_lines.specs.Kinds.{chains}
use Rattle.text_lines.proofs.level.chains_at.Goals as goal

pub returns-in_err-s : goal.returns-in_err-s
unfolding chains
returns-in_err-s c = rw (exit _ c.from_residual.ensures.1) (sym (after-no _ _ _ (sym (key-number-is _ _ _ _ _ c.in_err-s.ensures))))

pub returns-in_err-e2 : goal.returns-in_err-e2
unfolding chains
returns-in_err-e2 c = rw (exit _ c.from_residual-in_err-e2.ensures.1) (sym (after-got _ _ _ _ (sym (key-number-is _ _ _ _ _ c.in_ok-s.ensures)) ∙ after-no _ _ _ (sym (word-is _ _ _ c.in_err-e2.ensures))))

pub lengths_at-requires : goal.lengths_at-requires
lengths_at-requires c = (key-between-within (bytes "ScanChains") 0 chains_max _ _ _ (sym (key-number-is _ _ _ _ _ c.in_ok-s.ensures))).1

pub returns-in_err-lengths : goal.returns-in_err-lengths
unfolding chains
returns-in_err-lengths c = rw (exit _ c.from_residual-in_err-lengths.ensures.1) (sym (after-got _ _ _ _ (sym (key-number-is _ _ _ _ _ c.in_ok-s.ensures)) ∙ after-got _ _ _ _ (sym (word-is _ _ _ c.in_ok-e2.ensures)) ∙ after-no _ _ _ (sym c.in_err-lengths.ensures)))

pub returns : goal.returns
unfolding chains
returns c = sym (after-got _ _ _ _ (sym (key-number-is _ _ _ _ _ c.in_ok-s.ensures)) ∙ after-got _ _ _ _ (sym (word-is _ _ _ c.in_ok-e2.ensures)) ∙ after-got _ _ _ _ (sym c.in_ok-lengths.ensures))
