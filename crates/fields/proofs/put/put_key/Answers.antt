-- `fields::put::put_key` meets its contract: the number is put behind the bytes. Assumes nothing.
use Rattle.buffer.proofs.PutLaws.{put-behind}
use Rattle.fields.proofs.put.put_key.Goals as goal

pub returns : goal.returns
returns c = put-behind _ _ _ _ c.put_bytes-e.ensures c.put_number.ensures
