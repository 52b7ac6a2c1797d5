-- `little_endian::little::number_at` meets its contract: what is there of the bytes, with zeros behind it, is eight bytes. Assumes nothing.
use mathlib.Core.Path.{◌∙◌}
use native.Mathlib.Omega.{arith}
use Rattle.little_endian.proofs.LittleLaws.{AreBytes, number_read, number_fits}
use Rattle.little_endian.proofs.little.number_at.Goals as goal

pub returns : goal.returns
returns g c = let n = g.row.N in
    let a = c.args in
    let e = c.from_le_bytes.ensures ∙ number_read n _ _ a.at a.b.now _ c.requires c.min.ensures c.min-n.ensures c.copy_from_slice.ensures.after in
    let b : AreBytes a.b.now = λ i h. (c.type_inv.b i).fits in
    (e, omega (arith, e, number_fits n a.at a.b.now b))
