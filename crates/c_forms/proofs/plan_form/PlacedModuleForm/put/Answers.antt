-- `c_forms::plan_form::PlacedModuleForm::put` meets its contract: cycles are put behind the other figures, and the start behind them.
-- Assumes nothing.
use native.Mathlib.Omega.{arith}
use Rattle.little_endian.proofs.LittleLaws.{little-length}
use Rattle.c_forms.specs.Words.{long}
use Rattle.c_forms.specs.PlanForm.{placed_bytes}
use Rattle.c_forms.proofs.PutOfLaws.{next-put}
use Rattle.c_forms.proofs.plan_form.PlacedModuleForm.put.Goals as goal

pub returns : goal.returns
unfolding placed_bytes
returns c = let m = c.args.self in
    let w = next-put (long m.cycles.0) (little-length _ _) (omega arith) c.put_each-a.ensures c.put_u64-b.ensures in
    next-put (long m.start.0) (little-length _ _) c.requires w c.put_u64.ensures
