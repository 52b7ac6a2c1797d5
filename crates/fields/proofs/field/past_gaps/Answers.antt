-- `fields::field::past_gaps` meets its contract: what its invariant (Invariants.antt) leaves to show. Assumes nothing.
use native.Mathlib.Omega.{arith}
use mathlib.Core.Path.{◌≡◌, refl, sym, ◌∙◌}
use Rattle.fields.specs.Fields.{gap, gaps}
use Rattle.fields.proofs.CountLaws.{gaps-counts, count_on, count_stop, count-end}
use Rattle.fields.proofs.field.past_gaps.Goals as goal

pub loop-i-init : goal.loop-i-init
loop-i-init c = (omega arith, refl)

pub returns-then-not-is_gap : goal.returns-then-not-is_gap
returns-then-not-is_gap c = sym (c.loop-i.invariant.1 ∙ count_stop gaps gap gaps-counts c.args.l.now c.loop-i.i (omega arith) (sym c.is_gap.ensures ∙ c.if-not-is_gap.true))

pub loop-i-preserved : goal.loop-i-preserved
loop-i-preserved c = (omega arith, c.loop-i.invariant.1 ∙ count_on gaps gap gaps-counts c.args.l.now c.loop-i.i (omega arith) (sym c.is_gap.ensures ∙ c.if-not-is_gap.false))

pub returns : goal.returns
returns c = let end : c.max.result ≡ c.loop-i.i = omega arith in end ∙ sym (c.loop-i.invariant.1 ∙ count-end gaps gap gaps-counts c.args.l.now c.loop-i.i (omega arith))
