-- `text_writer::write_lines::put_test_line` meets its contract: each call puts what is due behind the call before it. Assumes nothing.
use mathlib.Core.Bool.{cond}
use mathlib.Core.List.{[], ◌∷◌}
use Rattle.fields.specs.Bytes.{bytes}
use Rattle.fields.specs.WrittenLines.{decimal, written_lines}
use Rattle.text_lines.specs.LineFields.{flag_field, power_fields, test_fields}
use Rattle.buffer.proofs.PutLaws.{Due, due_all, due-key}
use Rattle.text_writer.specs.WrittenSoc.{power_end}
use Rattle.text_writer.proofs.LineLaws.{test-text}
use Rattle.text_writer.proofs.write_lines.put_test_line.Goals as goal
use Rattle.text_writer.proofs.write_lines.put_test_line.Goals.{After-put_key-e}

-- behind the patterns the line's end is due
due : (c : After-put_key-e) →
    let a = c.args in
    Due
    (power_end a.power a.t)
    (written_lines (test_fields a.m a.i a.t (cond a.power (power_fields a.t) []) ∷ []))
    a.at
    a.buf.now
    c.put_key-e.result
    c.put_key-e.new.buf
due c = let t = c.args.t in
    let d0 = due_all (test-text c.args.m c.args.i t c.args.power) c.requires in
    let d1 = due-key (bytes "Module ") (decimal c.args.m) _ d0 c.put_key-a.ensures in
    let d2 = due-key (bytes " Test ") (decimal c.args.i) _ d1 c.put_key-b.ensures in
    let d3 = due-key (bytes " ScanUse ") (flag_field t.scan_use) _ d2 c.put_flag-c.ensures in
    let d4 = due-key (bytes " TamUse ") (flag_field t.tam_use) _ d3 c.put_flag-d.ensures in
    due-key (bytes " Patterns ") (decimal t.patterns) _ d4 (rw c.from.ensures at c.put_key-e.ensures)

pub put_power-requires : goal.put_power-requires
put_power-requires c = (due (goal.at.put_power-requires c).After-put_key-e).room

pub returns : goal.returns
returns c = (due (goal.at.returns c).After-put_key-e).done _ _ c.put_power.ensures
