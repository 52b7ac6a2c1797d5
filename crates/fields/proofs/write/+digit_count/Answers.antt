-- `fields::write::digit_count` meets its contract: a number over 9 has one digit more than its tenth. Assumes nothing.
use native.Mathlib.Omega.{arith}
use Prim.Native.Nat.{◌+◌, ◌/◌}
use mathlib.Core.Path.{sym, ap, ◌∙◌}
use lib.ListN.{length}
use Rattle.fields.proofs.WrittenLaws.{decimal-small, length_large, decimal-length}
use Rattle.fields.proofs.write.+digit_count.Goals as goal

pub overflow_add-result : goal.overflow_add-result
overflow_add-result t c = omega (arith, c.digit_count.ensures, decimal-length (c.args.v / 10))

pub returns-then-v-lt10 : goal.returns-then-v-lt10
returns-then-v-lt10 t c = sym (ap length (decimal-small c.args.v c.if-v-lt10.true))

pub returns-else-v-lt10 : goal.returns-else-v-lt10
returns-else-v-lt10 t c = ap (λ k. k + 1) c.digit_count.ensures ∙ sym (length_large c.args.v c.if-v-lt10.false)
