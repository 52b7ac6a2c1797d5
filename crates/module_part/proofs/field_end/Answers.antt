-- `module_part::field_end` meets its contract: what its invariant (Invariants.antt) leaves to show. Assumes nothing.
use native.Mathlib.Omega.{arith}
use mathlib.Core.Path.{◌≡◌, sym, ap, ◌∙◌}
use Rattle.module_part.specs.Trimmed.{last_field}
use Rattle.module_part.proofs.TrimLaws.{end_stop, end_on}
use Rattle.module_part.proofs.field_end.Goals as goal

pub returns-then-is_field_byte : goal.returns-then-is_field_byte
returns-then-is_field_byte c = let l = c.loop-i in
    sym (l.invariant ∙ end_stop c.args.text.now l.i (omega arith) (sym c.is_field_byte.ensures ∙ c.if-is_field_byte.true) ∙ omega arith)

pub loop-i-preserved : goal.loop-i-preserved
loop-i-preserved c = let l = c.loop-i in
    l.invariant ∙ end_on c.args.text.now l.i (omega arith) (sym c.is_field_byte.ensures ∙ c.if-is_field_byte.false)

pub returns : goal.returns
unfolding last_field
returns c = let l = c.loop-i in
    let z : l.i ≡ 0 = omega arith in
    sym (l.invariant ∙ ap (λ n. last_field n c.args.text.now) z)
