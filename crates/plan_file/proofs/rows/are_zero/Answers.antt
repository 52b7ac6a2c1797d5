-- `plan_file::rows::are_zero` meets its contract: its test of each record is that of the definition. Assumes nothing.
use borrow.Author.Rules.{rules}
use native.Mathlib.Omega.{arith}
use Prim.Native.Nat.{◌+◌, ◌*◌}
use mathlib.Core.Path.{refl, ◌∙◌}
use Rattle.std.proofs.lemmas.Iterator.{YieldsList-from_range}
use Rattle.std.proofs.lemmas.Iterator.Search.{all_from_yields_List}
use Rattle.little_endian.proofs.MadeLaws.{tested_rows}
use Rattle.plan_file.proofs.rows.are_zero.Goals as goal

pub returns : goal.returns
returns g c = let p = g.R.Record.zero_at c.args.f.now in
    let k = g.R.Record.STRIDE in
    all_from_yields_List (λ i. p (c.args.from + k * i)) _ _ _ c.all.ensures.ran
    (YieldsList-from_range 0 c.args.n c.args.n refl (omega arith)) (λ i t q h. search rules)
    ∙ tested_rows p k c.args.from c.args.n
