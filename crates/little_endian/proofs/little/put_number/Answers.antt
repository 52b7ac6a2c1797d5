-- `little_endian::little::put_number` meets its contract: the number's lowest bytes are put. Assumes nothing.
use Rattle.little_endian.proofs.LittleLaws.{little_lowest}
use Rattle.little_endian.proofs.little.put_number.Goals as goal

pub returns : goal.returns
returns g c = rw (c.to_le_bytes-w.ensures, little_lowest g.row.N c.args.v c.requires) at c.put_bytes.ensures
