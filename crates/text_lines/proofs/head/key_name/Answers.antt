-- `text_lines::head::key_name` meets its contract. What `next_field_lem` names is the first field behind the keyword, by the law of fields. Assumes nothing.
use native.Mathlib.Omega.{arith}
use mathlib.Core.Path.{sym, ap, ◌∙◌}
use Rattle.fields.proofs.PlaceAnswerLaws.{word-is}
use Rattle.fields.proofs.ReaderLaws.{after-no, after-got}
use Rattle.fields.proofs.FieldLaws.{next_field_lem, next-nothing}
use Rattle.text_lines.specs.Kinds.{name_part}
use Rattle.text_lines.specs.Parts.{closed}
use Rattle.text_lines.proofs.HeadLaws.{closed-no, name-none}
use Rattle.text_lines.proofs.PartLaws.{exit}
use Rattle.text_lines.proofs.head.key_name.Goals as goal

pub returns-in_err-at : goal.returns-in_err-at
returns-in_err-at c = rw (exit _ c.from_residual.ensures.1) (sym (closed-no _ _ (after-no _ _ _ (sym (word-is _ _ _ c.in_err-at.ensures)))))

pub name_at-requires : goal.name_at-requires
name_at-requires c = let f = next_field_lem _ _ _ _ (sym c.in-Some.ensures) in (omega arith, f.high)

pub returns-in-Some : goal.returns-in-Some
returns-in-Some c = c.name_at.ensures ∙ sym (ap closed (after-got _ _ _ _ (sym (word-is _ _ _ c.in_ok-at.ensures)) ∙ ap name_part (next_field_lem _ _ _ _ (sym c.in-Some.ensures)).is))

pub returns-in-None : goal.returns-in-None
returns-in-None c = sym (closed-no _ _ (after-got _ _ _ _ (sym (word-is _ _ _ c.in_ok-at.ensures)) ∙ ap name_part (next-nothing _ _ (sym c.in-None.ensures)) ∙ name-none))
