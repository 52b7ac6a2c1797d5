-- `text_writer::write::put_tests` meets its contract: what its invariant (Invariants.antt) leaves to show. Assumes nothing.
use native.Mathlib.Omega.{arith}
use Prim.Native.Nat.{◌+◌}
use mathlib.Core.Path.{◌∙◌}
use mathlib.Core.List.{[], ◌∷◌, ◌++◌}
use lib.ListN.{get_or, drop}
use Rattle.soc.specs.Record.{no_test}
use Rattle.text_lines.specs.LineFields.{test_fields}
use Rattle.fields.specs.WrittenLines.{written_lines}
use Rattle.text_writer.specs.WrittenSoc.{test_lines}
use Rattle.buffer.proofs.PutLaws.{Due, due-room, due-next, put-none}
use Rattle.text_writer.proofs.RunLaws.{tests_text, test_text, tests-more, rest-none}
use Rattle.text_writer.proofs.write.put_tests.Goals as goal
use Rattle.text_writer.proofs.write.put_tests.Goals.{In-loop-i}

-- the line of the next test is due
due : (c : In-loop-i) →
    let a = c.args in
    let tests = a.tests.now in
    let i = c.loop-i.i in
    Due
    (test_text a.power a.m (i + 1) (get_or tests i no_test) ++ tests_text a.power a.m (i + 1 + 1) (drop (i + 1) tests))
    (tests_text a.power a.m 1 tests)
    a.at
    a.buf.now
    c.loop-i.e
    c.loop-i.buf
due c = let a = c.args in
    rw (tests-more a.power a.m a.tests.now c.loop-i.i no_test (omega arith)) at c.loop-i.invariant.1

pub put_test_line-e-requires : goal.put_test_line-e-requires
put_test_line-e-requires c = due-room (written_lines (test_fields _ _ _ _ ∷ [])) _ (due (goal.at.put_test_line-e-requires c).In-loop-i)

pub loop-i-preserved : goal.loop-i-preserved
loop-i-preserved c = let same = c.put_test_line-e.auto.buf ∙ c.loop-i.invariant.0 in
    (same, due-next (written_lines (test_fields _ _ _ _ ∷ [])) _ (due (goal.at.loop-i-preserved c).In-loop-i) c.put_test_line-e.ensures)

pub returns : goal.returns
unfolding test_lines written_lines
returns c = (rw (rest-none c.args.tests.now c.loop-i.i (omega arith)) at c.loop-i.invariant.1).done _ _ (put-none _ _)
