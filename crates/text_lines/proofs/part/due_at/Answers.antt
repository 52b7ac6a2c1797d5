-- `text_lines::part::due_at` meets its contract. What `next_field_lem` names is the first field, by the law of fields; its number is cut at a cap that
-- is over the number due, so that the test on the cut number is the one on the number. Assumes nothing.
use native.Mathlib.Omega.{arith}
use mathlib.Core.Path.{sym, ap, ◌∙◌}
use Rattle.fields.proofs.FieldLaws.{FieldIs, next_field_lem, next-nothing}
use Rattle.text_lines.specs.Parts.{due}
use Rattle.text_lines.proofs.PartLaws.{due_bad, due-got, due_other}
use Rattle.text_lines.proofs.part.due_at.Goals as goal
use Rattle.text_lines.proofs.part.due_at.Goals.{In-Some}

-- the field that was found
field : (c : In-Some) → FieldIs c.args.l.now c.args.at c.in-Some.a c.in-Some.e
field c = next_field_lem _ _ _ _ (sym c.in-Some.ensures)

pub returns-in_default : goal.returns-in_default
unfolding due
returns-in_default c = sym (ap (due c.args.n) (next-nothing _ _ (sym c.in_default.ensures)))

pub slice_bounds-number_of-count : goal.slice_bounds-number_of-count
slice_bounds-number_of-count c = let f = field c in omega arith

pub slice_bounds-number_of-start : goal.slice_bounds-number_of-start
slice_bounds-number_of-start c = let f = field c in omega arith

pub slice_bounds-number_of-end : goal.slice_bounds-number_of-end
slice_bounds-number_of-end c = let f = field c in omega arith

pub returns-in-None : goal.returns-in-None
unfolding due
returns-in-None c = sym (ap (due c.args.n) (field (goal.at.returns-in-None c).In-Some).is ∙ due_bad _ _ _ (sym c.in-None.ensures))

pub returns-in-Some-number_of : goal.returns-in-Some-number_of
unfolding due
returns-in-Some-number_of c = sym (ap (due c.args.n) (field (goal.at.returns-in-Some-number_of c).In-Some).is ∙ due-got c.args.n _ _ _ (sym c.in-Some-number_of.ensures) (omega arith) (omega arith))

pub returns-in-Some-2 : goal.returns-in-Some-2
unfolding due
returns-in-Some-2 c = sym (ap (due c.args.n) (field (goal.at.returns-in-Some-2 c).In-Some).is ∙ due_other c.args.n _ _ _ (sym c.in-Some-number_of.ensures) (λ e. omega arith) (omega arith))
