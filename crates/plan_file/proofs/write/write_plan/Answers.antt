-- `plan_file::write::write_plan` meets its contract. A good plan's figures are small, and its file has the length that the code
-- computes. Assumes nothing.
use mathlib.Core.Path.{◌≡◌, sym, ◌∙◌}
use mathlib.Core.Bool.{true}
use native.Mathlib.Omega.{arith}
use lib.ListN.{length}
use Rattle.plan_record.specs.Good.{good_plan}
use Rattle.plan_record.specs.Whole.{Whole}
use Rattle.plan_file.specs.Bytes.{file_length, file_bytes}
use Rattle.plan_file.proofs.FileLaws.{good-small, file-length, write_short, write_whole}
use Rattle.plan_file.proofs.write.write_plan.Goals as goal
use Rattle.plan_file.proofs.write.write_plan.Goals.{Else-not-is_good_plan, Start}

-- a plan that is not refused is good, and its arrays have all their places
good : (e : Else-not-is_good_plan) → good_plan e.args.p ≡ true
good c = sym c.is_good_plan.ensures ∙ c.if-not-is_good_plan.false

whole : (s : Start) → Whole s.args.p
whole c = record {
  buses = c.well_formed.0.1.1.1.1.1.0.1.0.1;
  modules = c.well_formed.0.1.1.1.1.1.1.1.0.1.0.1;
}

len-file : (e : Else-not-is_good_plan) →
    let p = e.args.p in
    length (file_bytes p) ≡ file_length p.module_count p.bus_count
len-file c = file-length c.args.p (whole (goal.at.Else-not-is_good_plan c).Start) (good c)

pub returns-then-buf-n : goal.returns-then-buf-n
returns-then-buf-n c = let w = write_short c.args.p c.args.buf.now (good (goal.at.returns-then-buf-n c).Else-not-is_good_plan) (omega (arith, len-file (goal.at.returns-then-buf-n c).Else-not-is_good_plan, c.if-buf-n.true)) in
    (rw c.at-then-buf-n.ensures w.0, w.1)

pub put_file-requires : goal.put_file-requires
put_file-requires c = (good-small c.args.p (good (goal.at.put_file-requires c).Else-not-is_good_plan), c.if-buf-n.false)

pub returns : goal.returns
returns c = let room = c.if-buf-n.false in
    let w = write_whole c.args.p c.args.buf.now (good (goal.at.returns c).Else-not-is_good_plan) (omega (arith, len-file (goal.at.returns c).Else-not-is_good_plan, room)) in
    (rw (← len-file (goal.at.returns c).Else-not-is_good_plan) w.0, c.put_file.ensures ∙ w.1)
