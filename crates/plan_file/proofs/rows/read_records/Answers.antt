-- `plan_file::rows::read_records` meets its contract: each call of the closure gives the record of its place, or none. Assumes nothing.
use borrow.Author.Rules.{rules}
use Rattle.little_endian.proofs.MadeLaws.{made_padded}
use Rattle.plan_file.proofs.rows.read_records.Goals as goal

pub returns : goal.returns
returns g c = let r = g.R.Record in
    made_padded _ _ (r.value_at c.args.f.now) r.nothing r.STRIDE c.args.from c.args.n (λ i y q k. search rules) _ g.row.N c.requires.0 c.from_fn.ensures.items
