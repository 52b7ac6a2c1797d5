-- `plan_file::write::put_file` meets its contract. The modules, the buses and the trailer are each put into the part behind what is
-- written already. Assumes nothing.
use Rattle.plan_record.specs.Whole.{Whole}
use Rattle.plan_file.proofs.FileLaws.{file-put}
use Rattle.plan_file.proofs.write.put_file.Goals as goal
use Rattle.plan_file.proofs.write.put_file.Goals.{Start}

-- the record has its places
whole : (s : Start) → Whole s.args.p
whole c = record {
  buses = c.well_formed.1.0.1.1.1.1.1.0.1.0.1;
  modules = c.well_formed.1.0.1.1.1.1.1.1.1.0.1.0.1;
}

pub returns : goal.returns
returns c = let a = c.put_records in
    let b = c.put_records-2 in
    let d = c.put_trailer in
    file-put c.args.p (whole (goal.at.returns c).Start) c.requires.0.trailer c.args.b.now a.new.b b.new.b d.new.b
    c.requires.1 a.ensures b.ensures d.ensures
