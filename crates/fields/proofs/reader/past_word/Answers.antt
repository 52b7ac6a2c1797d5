-- `fields::reader::past_word` meets its contract. What `next_field` names is the first field, by the law of fields, and the field is compared
-- with the keyword; the place answered is that field's end. Assumes nothing.
use native.Mathlib.Omega.{arith}
use mathlib.Core.Path.{◌≡◌, sym, ap, ◌∙◌}
use lib.ListN.{drop}
use Rattle.fields.specs.Fields.{fields_of, field_end}
use Rattle.fields.specs.Readers.{bytes_due}
use Rattle.fields.proofs.FieldLaws.{FieldIs, next_field_lem, next-end, next-nothing}
use Rattle.fields.proofs.PlaceAnswerLaws.{word-no, word_got}
use Rattle.fields.proofs.reader.past_word.Goals as goal
use Rattle.fields.proofs.reader.past_word.Goals.{In-Some}

-- the field that was found
field : (c : In-Some) → FieldIs c.args.l.now c.args.at c.in-Some.from c.in-Some.to
field c = next_field_lem _ _ _ _ (sym c.next_field.ensures ∙ c.in-Some.is)

end : (c : In-Some) → field_end c.args.l.now c.args.at ≡ c.in-Some.to
end c = next-end _ _ _ _ (sym c.next_field.ensures ∙ c.in-Some.is)

pub slice_bounds-same_bytes-count : goal.slice_bounds-same_bytes-count
slice_bounds-same_bytes-count c = let f = field c in omega arith

pub slice_bounds-same_bytes-start : goal.slice_bounds-same_bytes-start
slice_bounds-same_bytes-start c = let f = field c in omega arith

pub slice_bounds-same_bytes-end : goal.slice_bounds-same_bytes-end
slice_bounds-same_bytes-end c = let f = field c in omega arith

pub returns-in_default : goal.returns-in_default
unfolding bytes_due
returns-in_default c = word-no c.args.l.now c.args.at c.args.w.now _ (ap (bytes_due c.args.w.now) (next-nothing _ _ (sym c.next_field.ensures ∙ c.in_default.is)))

pub returns-then-not-same_bytes : goal.returns-then-not-same_bytes
unfolding bytes_due
returns-then-not-same_bytes c = word-no _ _ c.args.w.now _ (ap (bytes_due c.args.w.now) (field (goal.at.returns-then-not-same_bytes c).In-Some).is ∙ simp (sym c.same_bytes.ensures ∙ c.if-not-same_bytes.true))

pub returns : goal.returns
unfolding bytes_due
returns c = let fs = fields_of (drop c.in-Some.to c.args.l.now) in
    word_got _ _ c.args.w.now _ fs (end (goal.at.returns c).In-Some) (ap (bytes_due c.args.w.now) (field (goal.at.returns c).In-Some).is ∙ simp (sym c.same_bytes.ensures ∙ c.if-not-same_bytes.false))
