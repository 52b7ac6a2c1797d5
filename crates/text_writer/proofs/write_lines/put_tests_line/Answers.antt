-- `text_writer::write_lines::put_tests_line` meets its contract: each call puts what is due behind the call before it. Assumes nothing.
use Rattle.fields.specs.Bytes.{bytes}
use Rattle.fields.specs.WrittenLines.{decimal}
use Rattle.buffer.proofs.PutLaws.{due_all, due-key, put_is}
use Rattle.text_writer.proofs.LineLaws.{tests-text}
use Rattle.text_writer.proofs.write_lines.put_tests_line.Goals as goal

pub returns : goal.returns
returns c = let d0 = due_all (tests-text c.args.m c.args.d) c.requires in
    let d1 = due-key (bytes "Module ") (decimal c.args.m) _ d0 c.put_key-a.ensures in
    let d2 = due-key (bytes " TotalTests ") (decimal c.args.d.test_count) _ d1 c.put_key-b.ensures in
    d2.done _ _ (put_is d2.room c.put_bytes.ensures)
