-- `text_writer::write_lines::put_position_line` meets its contract: with XY 0 there is nothing to put, and with XY 1 each call puts
-- what is due behind the call before it. Assumes nothing.
use borrow.Author.Rules.{rules}
use mathlib.Core.Path.{◌≡◌}
use mir.Syntax.{w32}
use mir.Val.{to_z, of_z}
use Rattle.soc.proofs.FigureLaws.{figure_back}
use Rattle.fields.specs.Bytes.{bytes}
use Rattle.fields.specs.WrittenLines.{decimal}
use Rattle.text_lines.specs.LineFields.{given_field}
use Rattle.buffer.proofs.PutLaws.{put-none, due_all, due-key, put_is}
use Rattle.text_writer.proofs.LineLaws.{position-none, position-text}
use Rattle.text_writer.proofs.write_lines.put_position_line.Goals as goal

pub returns-then-not-xy : goal.returns-then-not-xy
returns-then-not-xy c = rw (position-none c.args.xy c.args.m c.args.d c.if-not-xy.true) (put-none c.args.at c.args.buf.now)

pub returns : goal.returns
returns c = let d = c.args.d in
    let back-x : to_z w32 (of_z w32 d.x) ≡ d.x = figure_back d.x (record { sfits = search rules }) in
    let back-y : to_z w32 (of_z w32 d.y) ≡ d.y = figure_back d.y (record { sfits = search rules }) in
    let d0 = due_all (position-text c.args.xy c.args.m d c.if-not-xy.false) c.requires in
    let d1 = due-key (bytes "Module ") (decimal c.args.m) _ d0 c.put_key-a.ensures in
    let d2 = due-key (bytes " X ") (given_field d.x) _ d1 (rw back-x at c.put_given-b.ensures) in
    let d3 = due-key (bytes " Y ") (given_field d.y) _ d2 (rw back-y at c.put_given-c.ensures) in
    d3.done _ _ (put_is d3.room c.put_bytes.ensures)
