-- `text_writer::put::put_flag` meets its contract: a flag's field is its number. Assumes nothing.
use Rattle.text_writer.proofs.FigureLaws.{flag-number}
use Rattle.text_writer.proofs.put.put_flag.Goals as goal

pub returns : goal.returns
returns c = rw (← flag-number c.args.b) (rw c.from.ensures at c.put_key.ensures)
