-- `text_writer::write::put_soc` meets its contract: a good record keeps the limits that the two calls require, and the second puts what
-- is due behind the first. Assumes nothing.
use native.Mathlib.Omega.{arith}
use Prim.Native.Nat.{ℕ}
use mathlib.Core.List.{List, [], ◌∷◌, ◌++◌}
use Rattle.soc.specs.Record.{modules_of}
use Rattle.text_lines.specs.LineFields.{name_fields, total_fields, options_fields}
use Rattle.fields.specs.WrittenLines.{written_lines}
use Rattle.text_writer.specs.WrittenSoc.{written_soc}
use Rattle.soc.proofs.GoodSocLaws.{soc-figures}
use Rattle.text_writer.proofs.GoodSocCounts.{good_countable}
use Rattle.buffer.proofs.PutLaws.{Due, due_all, due-room, due-next}
use Rattle.text_writer.proofs.RunLaws.{modules_text, soc-text}
use Rattle.text_writer.proofs.write.put_soc.Goals as goal
use Rattle.text_writer.proofs.write.put_soc.Goals.{After-put_head-a, Start}

-- the parts of the text, and what is left behind each call
abbrev part1 : Start → List ℕ
part1 c = written_lines (name_fields c.args.s ∷ total_fields c.args.s ∷ options_fields c.args.s ∷ [])

abbrev part2 : Start → List ℕ
part2 c = modules_text c.args.s.power c.args.s.xy 0 (modules_of c.args.s)

abbrev Left : Start → List ℕ → ℕ → List ℕ → Type 0
Left c rest r buf = Due rest (written_soc c.args.s) 0 c.args.buf.now r buf

due0 : (s : Start) → Left s (part1 s ++ part2 s) 0 s.args.buf.now
due0 c = due_all (soc-text c.args.s) (omega (arith, c.requires.1))

abbrev start1 : After-put_head-a → Start
start1 c = (goal.at.After-put_head-a c).Start

due1 : (c : After-put_head-a) → Left (start1 c) (part2 (start1 c)) c.put_head-a.result c.put_head-a.new.buf
due1 c = due-next (part1 (start1 c)) (part2 (start1 c)) (due0 (start1 c)) c.put_head-a.ensures

pub put_head-a-requires : goal.put_head-a-requires
put_head-a-requires c = ((soc-figures c.args.s c.requires.0).name_len, due-room (part1 (goal.at.put_head-a-requires c).Start) (part2 (goal.at.put_head-a-requires c).Start) (due0 (goal.at.put_head-a-requires c).Start))

pub shared_ref_as_front-put_modules : goal.shared_ref_as_front-put_modules
shared_ref_as_front-put_modules c = (soc-figures c.args.s c.requires.0).module_count

pub put_modules-requires : goal.put_modules-requires
put_modules-requires c = let s = start1 (goal.at.put_modules-requires c).After-put_head-a in
    (good_countable s.args.s s.requires.0, (due1 (goal.at.put_modules-requires c).After-put_head-a).room)

pub returns : goal.returns
returns c = (due1 (goal.at.returns c).After-put_head-a).done _ _ c.put_modules.ensures
