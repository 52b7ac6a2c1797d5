-- `text_lines::part::flag_at` meets its contract. What `next_field` names is the first field, by the law of fields, and the field is compared
-- with one flag and then with the other. Assumes nothing.
use native.Mathlib.Omega.{arith}
use mathlib.Core.Path.{◌≡◌, sym, ap, ◌∙◌}
use mathlib.Core.Bool.{false}
use Rattle.fields.specs.Bytes.{bytes, same_bytes}
use Rattle.fields.specs.Fields.{part}
use Rattle.fields.proofs.FieldLaws.{FieldIs, next_field_lem, next-nothing}
use Rattle.text_lines.specs.Parts.{flag}
use Rattle.text_lines.proofs.part.flag_at.Goals as goal
use Rattle.text_lines.proofs.part.flag_at.Goals.{Else-same_bytes, In-Some}

-- the field that was found
field : (c : In-Some) → FieldIs c.args.l.now c.args.at c.in-Some.a c.in-Some.e
field c = next_field_lem _ _ _ _ (sym c.in-Some.ensures)

-- it is not `0`
not-0 : (c : Else-same_bytes) → same_bytes (part c.args.l.now c.in-Some.a c.in-Some.e) (bytes "0") ≡ false
not-0 c = sym c.same_bytes.ensures ∙ c.if-same_bytes.false

pub returns-in_default : goal.returns-in_default
unfolding flag
returns-in_default c = sym (ap flag (next-nothing _ _ (sym c.in_default.ensures)))

pub slice_bounds-field-count : goal.slice_bounds-field-count
slice_bounds-field-count c = let f = field c in omega arith

pub slice_bounds-field-start : goal.slice_bounds-field-start
slice_bounds-field-start c = let f = field c in omega arith

pub slice_bounds-field-end : goal.slice_bounds-field-end
slice_bounds-field-end c = let f = field c in omega arith

pub returns-then-same_bytes : goal.returns-then-same_bytes
unfolding flag
returns-then-same_bytes c = sym (ap flag (field (goal.at.returns-then-same_bytes c).In-Some).is ∙ simp (sym c.same_bytes.ensures ∙ c.if-same_bytes.true))

pub returns-then-same_bytes-2 : goal.returns-then-same_bytes-2
unfolding flag
returns-then-same_bytes-2 c = sym (ap flag (field (goal.at.returns-then-same_bytes-2 c).In-Some).is ∙ simp (not-0 (goal.at.returns-then-same_bytes-2 c).Else-same_bytes, sym c.same_bytes-2.ensures ∙ c.if-same_bytes-2.true))

pub returns : goal.returns
unfolding flag
returns c = sym (ap flag (field (goal.at.returns c).In-Some).is ∙ simp (not-0 (goal.at.returns c).Else-same_bytes, sym c.same_bytes-2.ensures ∙ c.if-same_bytes-2.false))
