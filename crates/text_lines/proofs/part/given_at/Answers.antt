-- `text_lines::part::given_at` meets its contract. What `next_field` names is the first field, by the law of fields; where it is not `-1`,
-- its number decides, which is cut at a cap over the limit, so that the test on the cut number is the one on the number. Assumes nothing.
use native.Mathlib.Omega.{arith}
use Prim.Native.Nat.{◌<◌}
use mathlib.Core.Path.{◌≡◌, sym, ap, ◌∙◌}
use lib.IntN.{pos}
use lib.ListN.{drop}
use Rattle.fields.specs.Fields.{fields_of, part}
use Rattle.fields.specs.Numbers.{decimal_of}
use Rattle.fields.proofs.FieldLaws.{FieldIs, next_field_lem, next-nothing}
use Rattle.soc.proofs.FigureLaws.{figure_back}
use Rattle.text_lines.specs.Parts.{or_not_given, given_is}
use Rattle.text_lines.proofs.PartLaws.{given_bad, given-got, given_above}
use Rattle.text_lines.proofs.part.given_at.Goals as goal
use Rattle.text_lines.proofs.part.given_at.Goals.{Else-same_bytes, In-Some}

-- the field that was found
field : (c : In-Some) → FieldIs c.args.l.now c.args.at c.in-Some.a c.in-Some.e
field c = next_field_lem _ _ _ _ (sym c.in-Some.ensures)

-- where it is not `-1`, its number decides
found : (c : Else-same_bytes) → let l = c.args.l.now in
    or_not_given c.args.high (fields_of (drop c.args.at l))
    ≡ given_is c.args.high (decimal_of (part l c.in-Some.a c.in-Some.e)) (fields_of (drop c.in-Some.e l))
unfolding or_not_given
found c = ap (or_not_given c.args.high) (field (goal.at.Else-same_bytes c).In-Some).is ∙ simp (sym c.same_bytes.ensures ∙ c.if-same_bytes.false)

pub returns-in_default : goal.returns-in_default
unfolding or_not_given
returns-in_default c = sym (ap (or_not_given c.args.high) (next-nothing _ _ (sym c.in_default.ensures)))

pub slice_bounds-field-count : goal.slice_bounds-field-count
slice_bounds-field-count c = let f = field c in omega arith

pub slice_bounds-field-start : goal.slice_bounds-field-start
slice_bounds-field-start c = let f = field c in omega arith

pub slice_bounds-field-end : goal.slice_bounds-field-end
slice_bounds-field-end c = let f = field c in omega arith

pub returns-then-same_bytes : goal.returns-then-same_bytes
unfolding or_not_given
returns-then-same_bytes c = sym (ap (or_not_given c.args.high) (field (goal.at.returns-then-same_bytes c).In-Some).is ∙ simp (sym c.same_bytes.ensures ∙ c.if-same_bytes.true))

pub returns-in-Some-number_of : goal.returns-in-Some-number_of
returns-in-Some-number_of c = let v = c.in-Some-number_of.v in
    let small : v < 2147483648 = omega arith in
    rw (figure_back (pos v) (record { sfits = small }))
    (sym (found (goal.at.returns-in-Some-number_of c).Else-same_bytes ∙ given-got c.args.high _ _ _ (sym c.in-Some-number_of.ensures) c.if-v-high.true (omega arith)))

pub returns-in_default-number_of : goal.returns-in_default-number_of
returns-in_default-number_of c = sym (found (goal.at.returns-in_default-number_of c).Else-same_bytes ∙ given_above c.args.high _ _ _ (sym c.in-Some-number_of.ensures) c.if-v-high.false)

pub returns-in_default-number_of-2 : goal.returns-in_default-number_of-2
returns-in_default-number_of-2 c = sym (found (goal.at.returns-in_default-number_of-2 c).Else-same_bytes ∙ given_bad c.args.high _ _ (sym c.number_of.ensures ∙ c.in_default-number_of.is))
