-- The record of a bus meets the contract of `put`: the width and three zeros at the front, and the busy figure behind them. Assumes nothing.
use mathlib.Core.List.{[], ◌∷◌}
use mathlib.Core.Path.{refl}
use Rattle.little_endian.specs.Little.{little}
use Rattle.plan_file.specs.Bytes.{bus_bytes}
use Rattle.plan_file.proofs.FileLaws.{put-number}
use Rattle.plan_file.proofs.record.BusRecord.put.Goals as goal

pub returns : goal.returns
unfolding bus_bytes little
returns c = let x = c.args.self in
    (put-number (x.width.0 ∷ 0 ∷ 0 ∷ 0 ∷ []) x.busy.0 c.args.b.now c.requires.0 c.put_bytes-at.ensures c.put_u64.ensures, refl)
