-- `module_part::field_from` meets its contract: what its invariant (Invariants.antt) leaves to show. Assumes nothing.
use native.Mathlib.Omega.{arith}
use mathlib.Core.Path.{refl, sym, ◌∙◌}
use Rattle.std.proofs.Math.Nat.{le-max_left, le-max_right, max-le}
use lib.ListN.{length}
use Rattle.module_part.proofs.TrimLaws.{until_stop, until_on, until_end}
use Rattle.module_part.proofs.field_from.Goals as goal

pub loop-i-init : goal.loop-i-init
loop-i-init c = (omega arith, le-max_left _ _, refl)

pub returns-then-is_field_byte : goal.returns-then-is_field_byte
returns-then-is_field_byte c = let l = c.loop-i in
    let e = until_stop c.args.text.now l.i (sym c.is_field_byte.ensures ∙ c.if-is_field_byte.true) in
    sym (l.invariant.2 ∙ omega (arith, e))

pub loop-i-preserved : goal.loop-i-preserved
loop-i-preserved c = let l = c.loop-i in
    let e = until_on c.args.text.now l.i (omega arith) (sym c.is_field_byte.ensures ∙ c.if-is_field_byte.false) in
    (omega arith, omega (arith, le-max_right c.args.at (length c.args.text.now)), l.invariant.2 ∙ omega (arith, e))

pub returns : goal.returns
returns c = let l = c.loop-i in
    let e = until_end c.args.text.now l.i (omega arith) in
    let m = max-le {a = c.args.at} {b = length c.args.text.now} {k = l.i} l.invariant.0 (omega arith) in
    sym (l.invariant.2 ∙ omega (arith, e, m))
