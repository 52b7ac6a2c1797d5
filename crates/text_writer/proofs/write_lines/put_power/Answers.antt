-- `text_writer::write_lines::put_power` meets its contract: with Power 0 it puts the line's end, and with Power 1 the line's end behind
-- the power. Assumes nothing.
use borrow.Author.Rules.{rules}
use mathlib.Core.Path.{◌≡◌}
use mir.Syntax.{w32}
use mir.Val.{to_z, of_z}
use Rattle.soc.proofs.FigureLaws.{figure_back}
use Rattle.fields.specs.Bytes.{bytes}
use Rattle.text_lines.specs.LineFields.{given_field}
use Rattle.buffer.proofs.PutLaws.{due_all, due-key, put_is}
use Rattle.text_writer.proofs.LineLaws.{power-none, power-text}
use Rattle.text_writer.proofs.write_lines.put_power.Goals as goal

pub returns-then-not-power : goal.returns-then-not-power
returns-then-not-power c = let d = due_all (power-none c.args.power c.args.t c.if-not-power.true) c.requires in
    d.done _ _ (put_is d.room c.put_bytes.ensures)

pub returns : goal.returns
returns c = let w = c.args.t.power in
    let back : to_z w32 (of_z w32 w) ≡ w = figure_back w (record { sfits = search rules }) in
    let d0 = due_all (power-text c.args.power c.args.t c.if-not-power.false) c.requires in
    let d1 = due-key (bytes " Power ") (given_field w) _ d0 (rw back at c.put_given-e.ensures) in
    d1.done _ _ (put_is d1.room c.put_bytes-2.ensures)
