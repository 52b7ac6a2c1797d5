-- The record of a module meets the contract of `put`: four bytes at the front, and the cycles and the start behind them. Assumes nothing.
use mathlib.Core.List.{[], ◌∷◌}
use mathlib.Core.Path.{refl}
use Rattle.little_endian.specs.Little.{little}
use Rattle.plan_file.specs.Bytes.{module_bytes}
use Rattle.plan_file.proofs.FileLaws.{put-numbers}
use Rattle.plan_file.proofs.record.PlacedModuleRecord.put.Goals as goal

pub returns : goal.returns
unfolding module_bytes little
returns c = let m = c.args.self in (
  put-numbers (m.number ∷ m.bus ∷ m.wires.0 ∷ 0 ∷ []) m.cycles.0 m.start.0 c.args.b.now c.requires.0
      c.put_bytes-at.ensures c.put_u64-next.ensures c.put_u64.ensures,
  refl,
)
