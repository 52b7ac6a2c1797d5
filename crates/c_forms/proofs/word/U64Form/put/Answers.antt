-- `c_forms::word::U64Form::put` meets its contract: its lowest bytes are put. Assumes nothing.
use Rattle.little_endian.proofs.LittleLaws.{little-length}
use Rattle.c_forms.proofs.PutOfLaws.{first-put}
use Rattle.c_forms.proofs.word.U64Form.put.Goals as goal

pub returns : goal.returns
returns c = first-put (little-length _ _) c.requires c.put_u32.ensures
