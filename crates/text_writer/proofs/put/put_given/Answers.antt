-- `text_writer::put::put_given` meets its contract: behind the key it puts "-1" below 0, and else the number. Assumes nothing.
use mathlib.Core.Path.{◌≡◌}
use mir.Syntax.{w32}
use mir.Val.{to_z, of_z}
use Rattle.soc.proofs.FigureLaws.{figure_back}
use Rattle.fields.specs.Bytes.{bytes}
use Rattle.buffer.proofs.PutLaws.{put-behind}
use Rattle.text_writer.proofs.FigureLaws.{given_below, given_above}
use Rattle.text_writer.proofs.put.put_given.Goals as goal
use Rattle.text_writer.proofs.put.put_given.Goals.{Start}

-- the parameter's bits read back as the parameter
back : (c : Start) → to_z w32 (of_z w32 c.args.z) ≡ c.args.z
back c = figure_back c.args.z c.ranges.z

pub returns-then-z-lt0 : goal.returns-then-z-lt0
returns-then-z-lt0 c = rw (given_below c.args.z (rw (back (goal.at.returns-then-z-lt0 c).Start) at c.if-z-lt0.true))
    (put-behind (bytes "-1") c.args.w.now c.args.buf.now c.args.at c.put_bytes-e.ensures c.put_bytes.ensures)

pub returns : goal.returns
returns c = rw (given_above c.args.z (rw (back (goal.at.returns c).Start) at c.if-z-lt0.false)) (rw (back (goal.at.returns c).Start) at c.put_key.ensures)
