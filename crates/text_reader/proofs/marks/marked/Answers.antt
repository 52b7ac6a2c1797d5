-- `text_reader::marks::marked` meets its contract: its test is that of `new_marks`. Assumes nothing.
use borrow.Author.Tests.{eq-eqb, ne_eqb}
use Rattle.text_reader.proofs.marks.marked.Goals as goal

pub returns-then-i-m : goal.returns-then-i-m
returns-then-i-m c = let s = c.args in rw (eq-eqb s.i s.m c.if-i-m.true)

pub returns : goal.returns
returns c = let s = c.args in rw (ne_eqb s.i s.m c.if-i-m.false)
