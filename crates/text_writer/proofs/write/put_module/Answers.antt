-- `text_writer::write::put_module` meets its contract: each call puts what is due behind the call before it. Assumes nothing.
use Prim.Native.Nat.{ℕ}
use mathlib.Core.List.{List, [], ◌∷◌, ◌++◌}
use Rattle.soc.specs.Record.{tests_of}
use Rattle.text_lines.specs.LineFields.{level_fields, tests_fields}
use Rattle.fields.specs.WrittenLines.{written_lines}
use Rattle.text_writer.specs.WrittenSoc.{position_lines, module_lines_of}
use Rattle.buffer.proofs.PutLaws.{Due, due_all, due-room, due-next}
use Rattle.text_writer.proofs.RunLaws.{tests_text, module_text}
use Rattle.text_writer.proofs.write.put_module.Goals as goal
use Rattle.text_writer.proofs.write.put_module.Goals.{After-put_level_line-a, After-put_position_line-b, After-put_tests_line-c, Start}

-- the parts of the text, and what is due behind each
abbrev part1 : Start → List ℕ
part1 c = written_lines (level_fields c.args.m c.args.d ∷ [])

abbrev part2 : Start → List ℕ
part2 c = written_lines (position_lines c.args.xy c.args.m c.args.d)

abbrev part3 : Start → List ℕ
part3 c = written_lines (tests_fields c.args.m c.args.d ∷ [])

abbrev part4 : Start → List ℕ
part4 c = tests_text c.args.power c.args.m 1 (tests_of c.args.d)

abbrev rest3 : Start → List ℕ
rest3 c = part4 c

abbrev rest2 : Start → List ℕ
rest2 c = part3 c ++ rest3 c

abbrev rest1 : Start → List ℕ
rest1 c = part2 c ++ rest2 c

abbrev Left : Start → List ℕ → ℕ → List ℕ → Type 0
Left c rest r buf = Due rest (written_lines (module_lines_of c.args.power c.args.xy c.args.m c.args.d)) c.args.at c.args.buf.now r buf

-- what is left behind each call
due0 : (s : Start) → Left s (part1 s ++ rest1 s) s.args.at s.args.buf.now
due0 c = due_all (module_text c.args.power c.args.xy c.args.m c.args.d) c.requires.2

abbrev start1 : After-put_level_line-a → Start
start1 c = (goal.at.After-put_level_line-a c).Start

due1 : (c : After-put_level_line-a) → Left (start1 c) (rest1 (start1 c)) c.put_level_line-a.result c.put_level_line-a.new.buf
due1 c = due-next (part1 (start1 c)) (rest1 (start1 c)) (due0 (goal.at.After-put_level_line-a c).Start) c.put_level_line-a.ensures

abbrev start2 : After-put_position_line-b → Start
start2 c = start1 (goal.at.After-put_position_line-b c).After-put_level_line-a

due2 : (c : After-put_position_line-b) → Left (start2 c) (rest2 (start2 c)) c.put_position_line-b.result c.put_position_line-b.new.buf
due2 c = due-next (part2 (start2 c)) (rest2 (start2 c)) (due1 (goal.at.After-put_position_line-b c).After-put_level_line-a) c.put_position_line-b.ensures

abbrev start3 : After-put_tests_line-c → Start
start3 c = start2 (goal.at.After-put_tests_line-c c).After-put_position_line-b

due3 : (c : After-put_tests_line-c) → Left (start3 c) (rest3 (start3 c)) c.put_tests_line-c.result c.put_tests_line-c.new.buf
due3 c = due-next (part3 (start3 c)) (rest3 (start3 c)) (due2 (goal.at.After-put_tests_line-c c).After-put_position_line-b) c.put_tests_line-c.ensures

pub put_level_line-a-requires : goal.put_level_line-a-requires
put_level_line-a-requires c = (c.requires.0, due-room (part1 (goal.at.put_level_line-a-requires c).Start) (rest1 (goal.at.put_level_line-a-requires c).Start) (due0 (goal.at.put_level_line-a-requires c).Start))

pub put_position_line-b-requires : goal.put_position_line-b-requires
put_position_line-b-requires c = due-room (part2 (start1 (goal.at.put_position_line-b-requires c).After-put_level_line-a)) (rest2 (start1 (goal.at.put_position_line-b-requires c).After-put_level_line-a)) (due1 (goal.at.put_position_line-b-requires c).After-put_level_line-a)

pub put_tests_line-c-requires : goal.put_tests_line-c-requires
put_tests_line-c-requires c = due-room (part3 (start2 (goal.at.put_tests_line-c-requires c).After-put_position_line-b)) (rest3 (start2 (goal.at.put_tests_line-c-requires c).After-put_position_line-b)) (due2 (goal.at.put_tests_line-c-requires c).After-put_position_line-b)

pub put_tests-requires : goal.put_tests-requires
put_tests-requires c = (due3 (goal.at.put_tests-requires c).After-put_tests_line-c).room

pub returns : goal.returns
returns c = (due3 (goal.at.returns c).After-put_tests_line-c).done _ _ c.put_tests.ensures
