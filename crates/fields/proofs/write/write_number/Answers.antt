-- `fields::write::write_number` meets its contract. The test is that of the definition, by what the two callees ensure. Assumes nothing.
use mathlib.Core.Path.{◌≡◌, ◌∙◌}
use mathlib.Core.Bool.{true, false}
use borrow.Author.Tests.{le-leb, lt-leb}
use lib.ListN.{length}
use lib.Dec.{leb}
use Rattle.fields.specs.WrittenLines.{decimal}
use Rattle.fields.proofs.write.write_number.Goals as goal

pub returns-then-digit_count-buf : goal.returns-then-digit_count-buf
returns-then-digit_count-buf c = let e : leb (length (decimal c.args.v)) (length c.args.buf.now) ≡ true = le-leb _ _ (rw c.digit_count.ensures at c.if-digit_count-buf.true) in
    (c.put_digits.ensures.0 ∙ simp e, c.put_digits.ensures.1 ∙ simp e)

pub returns-else-digit_count-buf : goal.returns-else-digit_count-buf
returns-else-digit_count-buf c = let e : leb (length (decimal c.args.v)) (length c.args.buf.now) ≡ false = lt-leb _ _ (rw c.digit_count.ensures at c.if-digit_count-buf.false) in
    (simp e, simp e)
