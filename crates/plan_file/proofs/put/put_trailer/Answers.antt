-- `plan_file::put::put_trailer` meets its contract: the offsets and the figures at the front, and the time behind them. Assumes nothing.
use Prim.Native.Nat.{ℕ, ◌*◌, ◌/◌, ◌%◌}
use mathlib.Core.List.{List, [], ◌∷◌}
use Rattle.little_endian.specs.Little.{little}
use Rattle.plan_file.specs.Bytes.{module_stride, trailer_bytes}
use Rattle.plan_file.proofs.FileLaws.{put-number}
use Rattle.plan_file.proofs.put.put_trailer.Goals as goal

pub returns : goal.returns
unfolding trailer_bytes little
returns c = let p = c.args.p in
    let o = module_stride * p.module_count in
    let w : List ℕ = 0 ∷ 0 ∷ o % 256 ∷ o / 256 % 256 ∷ p.wires.0 ∷ p.limit ∷ p.bus_count ∷ p.module_count ∷ [] in
    put-number w p.time.0 c.args.b.now c.requires.0 (rw c.to_le_bytes.ensures at c.put_bytes-at.ensures) c.put_u64.ensures
