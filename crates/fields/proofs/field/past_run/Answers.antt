-- `fields::field::past_run` meets its contract: what its invariant (Invariants.antt) leaves to show. Assumes nothing.
use native.Mathlib.Omega.{arith}
use mathlib.Core.Path.{◌≡◌, refl, sym, ap, ◌∙◌}
use mathlib.Core.Bool.{not}
use Rattle.fields.specs.Fields.{gap, run}
use Rattle.fields.proofs.CountLaws.{run-counts, count_on, count_stop, count-end}
use Rattle.fields.proofs.field.past_run.Goals as goal

pub loop-i-init : goal.loop-i-init
loop-i-init c = (omega arith, refl)

pub returns-then-is_gap : goal.returns-then-is_gap
returns-then-is_gap c = sym (c.loop-i.invariant.1 ∙ count_stop run (λ b. not (gap b)) run-counts c.args.l.now c.loop-i.i (omega arith) (ap not (sym c.is_gap.ensures ∙ c.if-is_gap.true)))

pub loop-i-preserved : goal.loop-i-preserved
loop-i-preserved c = (omega arith, c.loop-i.invariant.1 ∙ count_on run (λ b. not (gap b)) run-counts c.args.l.now c.loop-i.i (omega arith) (ap not (sym c.is_gap.ensures ∙ c.if-is_gap.false)))

pub returns : goal.returns
returns c = let end : c.max.result ≡ c.loop-i.i = omega arith in end ∙ sym (c.loop-i.invariant.1 ∙ count-end run (λ b. not (gap b)) run-counts c.args.l.now c.loop-i.i (omega arith))
