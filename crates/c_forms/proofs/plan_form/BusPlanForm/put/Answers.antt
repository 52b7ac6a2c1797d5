-- `c_forms::plan_form::BusPlanForm::put` meets its contract: figures, time, buses and planned modules are put one behind another. Assumes
-- nothing.
use native.Mathlib.Omega.{arith}
use Rattle.little_endian.proofs.LittleLaws.{little-length}
use Rattle.c_forms.specs.Words.{long, PutOf}
use Rattle.c_forms.specs.PlanForm.{buses_from, count_bytes, plan_bytes}
use Rattle.c_forms.proofs.PutOfLaws.{then_put, next-put, sized-put}
use Rattle.c_forms.proofs.plan_form.BusPlanForm.put.Goals as goal
use Rattle.c_forms.proofs.plan_form.BusPlanForm.put.Goals.{After-put_u64-b}

counts : (k : After-put_u64-b) → PutOf buses_from (count_bytes k.args.self) k.args.at k.args.buf.now k.put_u64-b.new.buf k.put_u64-b.result
unfolding count_bytes
counts c = next-put (long c.args.self.time.0) (little-length _ _) (omega arith) c.put_each-a.ensures c.put_u64-b.ensures

pub put_each-c-requires : goal.put_each-c-requires
put_each-c-requires c = let n = counts (goal.at.put_each-c-requires c).After-put_u64-b in omega (arith, n.put.behind, n.long)

pub put_each-requires : goal.put_each-requires
put_each-requires c = let n = counts (goal.at.put_each-requires c).After-put_u64-b in omega (arith, n.put.behind, n.long)

pub returns : goal.returns
unfolding plan_bytes
returns c = sized-put (omega arith)
    (then_put (omega arith) (then_put (omega arith) (counts (goal.at.returns c).After-put_u64-b) c.put_each-c.ensures) c.put_each.ensures)
