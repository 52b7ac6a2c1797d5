-- `text_writer::write_lines::put_head` meets its contract: each call puts what is due behind the call before it. Assumes nothing.
use mathlib.Core.List.{◌∷◌}
use Rattle.fields.specs.Bytes.{bytes, lf}
use Rattle.fields.specs.WrittenLines.{decimal}
use Rattle.soc.specs.Record.{name_of}
use Rattle.text_lines.specs.LineFields.{flag_field}
use Rattle.buffer.proofs.PutLaws.{due_all, due-key, due-put, put_is}
use Rattle.text_writer.proofs.LineLaws.{head_text}
use Rattle.text_writer.proofs.write_lines.put_head.Goals as goal

pub returns : goal.returns
returns c = let r = c.args.s in
    let d0 = due_all (head_text r) c.requires.1 in
    let d1 = due-put (bytes "SocName ") _ d0 c.put_bytes-a.ensures in
    let d2 = due-put (name_of r) _ d1 c.put_bytes-b.ensures in
    let d3 = due-key (lf ∷ bytes "TotalModules ") (decimal r.module_count) _ d2 c.put_key-c.ensures in
    let d4 = due-key (lf ∷ bytes "Options Power ") (flag_field r.power) _ d3 c.put_flag-d.ensures in
    let d5 = due-key (bytes " XY ") (flag_field r.xy) _ d4 c.put_flag-e.ensures in
    d5.done _ _ (put_is d5.room c.put_bytes.ensures)
