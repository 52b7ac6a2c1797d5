-- `c_forms::plan_form::BusForm::put` meets its contract: busy is put behind the width. Assumes nothing.
use Rattle.little_endian.proofs.LittleLaws.{little-length}
use Rattle.c_forms.specs.Words.{long}
use Rattle.c_forms.specs.PlanForm.{bus_bytes}
use Rattle.c_forms.proofs.PutOfLaws.{next-put}
use Rattle.c_forms.proofs.plan_form.BusForm.put.Goals as goal

pub returns : goal.returns
unfolding bus_bytes
returns c = next-put (long c.args.self.busy.0) (little-length _ _) c.requires (rw c.from.ensures at c.put-a.ensures) c.put_u64.ensures
