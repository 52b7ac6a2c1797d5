-- `fields::write::put_digits` meets its contract: behind the digits of its tenth, which the call wrote, the last digit is stored. Assumes
-- nothing.
use native.Mathlib.Omega.{arith}
use Prim.Native.Nat.{◌+◌, ◌/◌, ◌%◌, ◌≤◌, ◌<◌}
use mathlib.Core.Path.{◌≡◌, refl, sym, ap, ◌∙◌}
use lib.ListN.{length}
use Rattle.fields.specs.WrittenLines.{decimal}
use Rattle.fields.proofs.WrittenLaws.{decimal-small, decimal_large, length_large, put_first, put_last}
use Rattle.fields.proofs.write.+put_digits.Goals as goal

pub bounds-buf-0 : goal.bounds-buf-0
bounds-buf-0 t c = omega (arith, c.requires, ap length (decimal-small c.args.v c.if-v-lt10.true))

pub returns-then-v-lt10 : goal.returns-then-v-lt10
returns-then-v-lt10 t c =
    let e = decimal-small c.args.v c.if-v-lt10.true in
    let p : 1 ≤ length c.args.buf.now = omega (arith, c.requires, ap length e) in
    rw e (refl, put_first c.args.buf.now (48 + c.args.v) p)

pub put_digits-k-requires : goal.put_digits-k-requires
put_digits-k-requires t c = (omega arith, omega (arith, c.requires, length_large c.args.v c.if-v-lt10.false))

pub bounds-buf-k : goal.bounds-buf-k
bounds-buf-k t c = omega (arith, c.put_digits-k.ensures.0, c.put_digits-k.auto.buf, c.requires, length_large c.args.v c.if-v-lt10.false)

pub returns : goal.returns
returns t c =
    let d = decimal (c.args.v / 10) in
    let x = 48 + c.args.v % 10 in
    let n : length (decimal c.args.v) ≡ length d + 1 = length_large c.args.v c.if-v-lt10.false in
    let h : length d < length c.args.buf.now = omega (arith, c.requires) in (
      ap (λ m. m + 1) c.put_digits-k.ensures.0 ∙ sym n,
      rw (c.put_digits-k.ensures.0, c.put_digits-k.ensures.1, decimal_large c.args.v c.if-v-lt10.false) (put_last d c.args.buf.now x h),
    )
