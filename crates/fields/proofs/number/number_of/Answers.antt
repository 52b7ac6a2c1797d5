-- `fields::number::number_of` meets its contract: what its invariant (Invariants.antt) leaves to show. Assumes nothing.
use native.Mathlib.Omega.{arith}
use Prim.Native.Nat.{◌+◌}
use mathlib.Core.Path.{sym, ap, ◌∙◌}
use mathlib.Core.Bool.{and-false}
use borrow.Author.Tests.{le-ltb, ne_eqb}
use lib.ListN.{drop}
use Rattle.fields.specs.Numbers.{cut}
use Rattle.fields.proofs.NumberLaws.{cut-same, digits-at, cut-end, decimal-start, decimal-zero, decimal-none}
use Rattle.fields.proofs.number.number_of.Goals as goal
use Rattle.fields.proofs.number.number_of.Goals.{else-f-eq48-via-then-f-eq48+else-f-gt1, else-f-eq48-via-else-f-eq48}

pub returns-then-f-eq0 : goal.returns-then-f-eq0
unfolding cut
returns-then-f-eq0 c = sym (ap cut (decimal-none c.args.f.now c.if-f-eq0.true))

pub returns-then-f-gt1 : goal.returns-then-f-gt1
unfolding cut
returns-then-f-gt1 c = sym (ap cut (decimal-zero c.args.f.now c.if-f-eq48.true c.if-f-gt1.true))

pub loop-b-init : goal.loop-b-init
loop-b-init c = (
  omega arith,
  ap cut (decimal-start c.args.f.now c.if-f-eq0.false
      ((elim c.else-f-eq48.branch [ else-f-eq48-via-then-f-eq48+else-f-gt1 w ↦ simp (le-ltb _ _ w.if-f-gt1.false, and-false) | else-f-eq48-via-else-f-eq48 w ↦ simp (ne_eqb _ _ w.if-f-eq48.false) ]))),
)

pub returns-then-not-is_digit : goal.returns-then-not-is_digit
unfolding cut
returns-then-not-is_digit c = sym (c.loop-b.invariant.1 ∙ ap cut (digits-at c.args.f.now c.loop-b.b-index c.loop-b.v (omega arith)) ∙ simp (sym c.is_digit.ensures ∙ c.if-not-is_digit.true))

pub loop-b-preserved : goal.loop-b-preserved
loop-b-preserved c = let f = c.args.f.now in (
  omega arith,
  c.loop-b.invariant.1 ∙ ap cut (digits-at f c.loop-b.b-index c.loop-b.v (omega arith))
      ∙ simp (sym c.is_digit.ensures ∙ c.if-not-is_digit.false) (cut-same (drop (c.loop-b.b-index + 1) f) _ _ (omega arith)),
)

pub returns : goal.returns
returns c = sym (c.loop-b.invariant.1 ∙ cut-end c.args.f.now c.loop-b.b-index c.loop-b.v (omega arith) (omega arith))
