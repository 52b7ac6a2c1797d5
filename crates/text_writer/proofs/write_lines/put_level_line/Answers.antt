-- `text_writer::write_lines::put_level_line` meets its contract: each call puts what is due behind the call before it. Assumes nothing.
use mathlib.Core.List.{[], ◌∷◌, ◌++◌}
use Rattle.fields.specs.Bytes.{bytes, lf}
use Rattle.fields.specs.WrittenLines.{decimal, written_lines}
use Rattle.soc.specs.Record.{chains_of}
use Rattle.text_lines.specs.LineFields.{level_fields}
use Rattle.buffer.proofs.PutLaws.{Due, due_all, due-key, due-put, due-room, due-next, put_is, put-kept}
use Rattle.text_writer.specs.WrittenSoc.{spaced_lengths}
use Rattle.text_writer.proofs.LineLaws.{level-text}
use Rattle.text_writer.proofs.write_lines.put_level_line.Goals as goal
use Rattle.text_writer.proofs.write_lines.put_level_line.Goals.{After-put_bytes-h}

-- behind the colon the lengths and the line's end are due
due : (c : After-put_bytes-h) →
    let a = c.args in
    Due
    (spaced_lengths (chains_of a.d) ++ lf ∷ [])
    (written_lines (level_fields a.m a.d ∷ []))
    a.at
    a.buf.now
    c.put_bytes-h.result
    c.put_bytes-h.new.buf
due c = let d = c.args.d in
    let d0 = due_all (level-text c.args.m d) c.requires.1 in
    let d1 = due-key (bytes "Module ") (decimal c.args.m) _ d0 c.put_key-a.ensures in
    let d2 = due-key (bytes " Level ") (decimal d.level) _ d1 (rw c.from.ensures at c.put_key-b.ensures) in
    let d3 = due-key (bytes " Inputs ") (decimal d.inputs) _ d2 (rw c.from-2.ensures at c.put_key-c.ensures) in
    let d4 = due-key (bytes " Outputs ") (decimal d.outputs) _ d3 (rw c.from-3.ensures at c.put_key-e.ensures) in
    let d5 = due-key (bytes " Bidirs ") (decimal d.bidirs) _ d4 (rw c.from-4.ensures at c.put_key-f.ensures) in
    let d6 = due-key (bytes " ScanChains ") (decimal d.chain_count) _ d5 c.put_key-g.ensures in
    due-put (bytes " :") _ d6 c.put_bytes-h.ensures

pub put_lengths-i-requires : goal.put_lengths-i-requires
put_lengths-i-requires c = due-room (spaced_lengths (chains_of c.args.d)) _ (due (goal.at.put_lengths-i-requires c).After-put_bytes-h)

pub returns : goal.returns
returns c = let d8 = due-next (spaced_lengths (chains_of c.args.d)) _ (due (goal.at.returns c).After-put_bytes-h) c.put_lengths-i.ensures in
    d8.done _ _ (put_is d8.room c.put_bytes.ensures)

pub shape_of-buf : goal.shape_of-buf
shape_of-buf c = put-kept (returns c) c.requires.1
