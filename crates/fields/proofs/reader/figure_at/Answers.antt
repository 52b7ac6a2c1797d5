-- `fields::reader::figure_at` meets its contract. What `next_field` names is the first field, by the law of fields; its number is cut at a cap
-- that is over both limits, so that the test on the cut number is that on the number. The place answered is that field's end. Assumes
-- nothing.
use Prim.Native.Nat.{ℕ, ◌<◌}
use native.Mathlib.Omega.{arith}
use mathlib.Core.Path.{◌≡◌, sym, ap, ◌∙◌}
use lib.ListN.{drop}
use mathlib.Core.Bool.{cond, ◌&&◌}
use lib.Dec.{leb}
use Rattle.units.specs.declared.Fault.TheVariants.{WrongFigure}
use Rattle.std.specs.Prelude.{Some}
use Rattle.fields.specs.Fields.{fields_of, field_end, part}
use Rattle.fields.specs.Numbers.{decimal_of, cap, cut}
use Rattle.fields.specs.Readers.{no, got, between, within}
use Rattle.fields.proofs.FieldLaws.{FieldIs, next_field_lem, next-end, next-nothing}
use Rattle.fields.proofs.PlaceAnswerLaws.{number-no, number-got}
use Rattle.fields.proofs.ReaderLaws.{within_bad, within-cut}
use Rattle.fields.proofs.reader.figure_at.Goals as goal
use Rattle.fields.proofs.reader.figure_at.Goals.{In-Some}

-- the field that was found
field : (c : In-Some) → FieldIs c.args.l.now c.args.at c.in-Some.a c.in-Some.e
field c = next_field_lem _ _ _ _ (sym c.next_field.ensures ∙ c.in-Some.is)

end : (c : In-Some) → field_end c.args.l.now c.args.at ≡ c.in-Some.e
end c = next-end _ _ _ _ (sym c.next_field.ensures ∙ c.in-Some.is)

-- its number decides
found : (c : In-Some) → let l = c.args.l.now in
    between c.args.low c.args.high (fields_of (drop c.args.at l))
    ≡ within c.args.low c.args.high (decimal_of (part l c.in-Some.a c.in-Some.e)) (fields_of (drop c.in-Some.e l))
unfolding between
found c = ap (between c.args.low c.args.high) (field c).is

pub slice_bounds-number_of-count : goal.slice_bounds-number_of-count
slice_bounds-number_of-count c = let f = field c in omega arith

pub slice_bounds-number_of-start : goal.slice_bounds-number_of-start
slice_bounds-number_of-start c = let f = field c in omega arith

pub slice_bounds-number_of-end : goal.slice_bounds-number_of-end
slice_bounds-number_of-end c = let f = field c in omega arith

pub returns-in_default : goal.returns-in_default
unfolding between
returns-in_default c = number-no _ _ _ _ _ (ap (between c.args.low c.args.high) (next-nothing _ _ (sym c.next_field.ensures ∙ c.in_default.is)))

pub returns-in_default-number_of : goal.returns-in_default-number_of
returns-in_default-number_of c = number-no _ _ _ _ _ (found (goal.at.returns-in_default-number_of c).In-Some ∙ within_bad _ _ _ _ (sym c.number_of.ensures ∙ c.in_default-number_of.is))

value : (c : In-Some) (v : ℕ) → cut (decimal_of (part c.args.l.now c.in-Some.a c.in-Some.e)) ≡ Some v → c.args.low < cap → c.args.high < cap → let l = c.args.l.now in
    between c.args.low c.args.high (fields_of (drop c.args.at l))
    ≡ cond (leb c.args.low v && leb v c.args.high) (got v (fields_of (drop c.in-Some.e l))) (no WrongFigure)
value c v e h k = found c ∙ within-cut _ _ _ _ _ e h k

pub returns-then-not-is_within : goal.returns-then-not-is_within
returns-then-not-is_within c = number-no _ _ _ _ _ (value (goal.at.returns-then-not-is_within c).In-Some _ (sym c.number_of.ensures ∙ c.in-Some-number_of.is) (omega arith) (omega arith) ∙ simp (sym c.is_within.ensures ∙ c.if-not-is_within.true))

pub returns : goal.returns
returns c = number-got _ _ _ _ _ _ (fields_of (drop c.in-Some.e c.args.l.now)) (end (goal.at.returns c).In-Some) (value (goal.at.returns c).In-Some _ (sym c.number_of.ensures ∙ c.in-Some-number_of.is) (omega arith) (omega arith) ∙ simp (sym c.is_within.ensures ∙ c.if-not-is_within.false))
