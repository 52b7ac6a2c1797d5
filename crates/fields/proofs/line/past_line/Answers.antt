-- `fields::line::past_line` meets its contract: what its invariant (Invariants.antt) leaves to show. Assumes nothing.
use borrow.Author.Tests.{eq-eqb, ne_eqb}
use native.Mathlib.Omega.{arith}
use mathlib.Core.Path.{◌≡◌, refl, sym, ap, ◌∙◌}
use mathlib.Core.Bool.{not}
use lib.Dec.{eqb}
use Rattle.fields.specs.Bytes.{lf}
use Rattle.fields.specs.Lines.{until_lf}
use Rattle.fields.proofs.CountLaws.{lf-counts, count_on, count_stop, count-end}
use Rattle.fields.proofs.line.past_line.Goals as goal

pub loop-i-init : goal.loop-i-init
loop-i-init c = (omega arith, refl)

pub returns-then-text-i-eq10 : goal.returns-then-text-i-eq10
returns-then-text-i-eq10 c = sym (c.loop-i.invariant.1 ∙ count_stop until_lf (λ b. not (eqb b lf)) lf-counts c.args.text.now c.loop-i.i (omega arith) (ap not (eq-eqb _ _ c.if-text-i-eq10.true)))

pub loop-i-preserved : goal.loop-i-preserved
loop-i-preserved c = (omega arith, c.loop-i.invariant.1 ∙ count_on until_lf (λ b. not (eqb b lf)) lf-counts c.args.text.now c.loop-i.i (omega arith) (ap not (ne_eqb _ _ c.if-text-i-eq10.false)))

pub returns : goal.returns
returns c = let end : c.max.result ≡ c.loop-i.i = omega arith in end ∙ sym (c.loop-i.invariant.1 ∙ count-end until_lf (λ b. not (eqb b lf)) lf-counts c.args.text.now c.loop-i.i (omega arith))
