-- `text_writer::write::put_modules` meets its contract: what its invariant (Invariants.antt) leaves to show. Assumes nothing.
use native.Mathlib.Omega.{arith}
use Prim.Native.Nat.{◌+◌}
use mathlib.Core.Path.{◌≡◌, ◌∙◌}
use mathlib.Core.List.{[], ◌++◌}
use lib.IntN.{pos}
use lib.ListN.{get_or, drop}
use Rattle.soc.specs.Record.{no_module}
use Rattle.soc.specs.declared.record.Module.{Module}
use Rattle.fields.specs.WrittenLines.{written_lines}
use Rattle.text_writer.specs.WrittenSoc.{module_lines_of, module_lines_from}
use Rattle.text_writer.proofs.GoodSocCounts.{get_or-same}
use Rattle.buffer.proofs.PutLaws.{Due, due-room, due-next, put-none}
use Rattle.text_writer.proofs.RunLaws.{modules_text, modules-more, rest-none}
use Rattle.text_writer.proofs.write.put_modules.Goals as goal
use Rattle.text_writer.proofs.write.put_modules.Goals.{In-loop-m}

-- what would be read past the slice's end
abbrev blank : Module
blank = record { level = 0; inputs = 0; outputs = 0; bidirs = 0; chain_count = 0; chains = []; x = pos 0; y = pos 0; test_count = 0; tests = [] }

-- the lines of the next module are due
due : (c : In-loop-m) →
    let a = c.args in
    let modules = a.modules.now in
    let m = c.loop-m.m in
    Due
    (written_lines (module_lines_of a.power a.xy m (get_or modules m blank)) ++ modules_text a.power a.xy (m + 1) (drop (m + 1) modules))
    (modules_text a.power a.xy 0 modules)
    a.at
    a.buf.now
    c.loop-m.e
    c.loop-m.buf
due c = let a = c.args in
    rw (modules-more a.power a.xy a.modules.now c.loop-m.m blank (omega arith)) at c.loop-m.invariant.1

pub put_module-e-requires : goal.put_module-e-requires
put_module-e-requires c = let modules = c.args.modules.now in
    let m = c.loop-m.m in
    let same : get_or modules m blank ≡ get_or modules m no_module = get_or-same modules m blank no_module (omega arith) in
    let counts = c.requires.0 m (omega arith) in
    (rw same counts.0, rw same counts.1, due-room (written_lines (module_lines_of _ _ _ _)) _ (due (goal.at.put_module-e-requires c).In-loop-m))

pub loop-m-preserved : goal.loop-m-preserved
loop-m-preserved c = let same = c.put_module-e.auto.buf ∙ c.loop-m.invariant.0 in
    (same, due-next (written_lines (module_lines_of _ _ _ _)) _ (due (goal.at.loop-m-preserved c).In-loop-m) c.put_module-e.ensures)

pub returns : goal.returns
unfolding module_lines_from written_lines
returns c = (rw (rest-none c.args.modules.now c.loop-m.m (omega arith)) at c.loop-m.invariant.1).done _ _ (put-none _ _)
