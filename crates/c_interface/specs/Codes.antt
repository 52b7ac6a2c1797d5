-- What the functions for other languages answer: one number, whose lowest byte is the refusal's number or 0, above it the refusal's line, or the figure
-- that the function gives.
use Rattle.std.specs.Prelude.{ℕ, ◌+◌, ◌*◌, ◌%◌, Bool, true, false, cond, List, length, leb, eqb, is_some, Result, Ok, Err}
use Rattle.std.specs.Option.{unwrap_or}
use Rattle.units.specs.Refusals.{number_of, refused}
use Rattle.units.specs.declared.Fault.TheVariants.{ShortBuffer}
use Rattle.units.specs.declared.Refusal.{Refusal}
use Rattle.buffer.specs.Puts.{put_front}
use Rattle.text_reader.specs.Reading.{read_soc}
use Rattle.text_writer.specs.WrittenSoc as soctext
use Rattle.pair.specs.Pair.{read_pair}
use Rattle.pair.specs.Shown.{lines_shown}
use Rattle.pair.specs.declared.read.Meant.{Meant}
use Rattle.pair.specs.declared.read.Meant.TheVariants as meant
use Rattle.pair.specs.declared.read.PairRead.{PairRead}
use Rattle.pair.specs.declared.read.PairRefusal.{PairRefusal}
use Rattle.pair.specs.declared.shown.Shown.{Shown}
use Rattle.pair_entries.specs.LaidPair.{layout_pair}
use Rattle.pair_entries.specs.PlannedPair.{plan_pair}
use Rattle.pair_entries.specs.TimedPair.{module_time_pair}
use Rattle.pair_entries.specs.WrittenPair.{write_pair}
use Rattle.wrapper_times.specs.TimeAnswers.{module_time_answer}
use Rattle.wrapper_times.specs.declared.asked.ModuleTime.{ModuleTime}
use Rattle.wrapper_layout.specs.LayoutAnswers.{layout_answer}
use Rattle.plan_record.specs.Record.{no_plan}
use Rattle.plan.specs.PlanAnswers.{plan_answer}
use Rattle.budget.specs.BudgetAnswers.{budget_answer}
use Rattle.budget.specs.declared.answer.BudgetAnswer.{BudgetAnswer}
use Rattle.budget.specs.declared.answer.Ended.{Ended}
use Rattle.budget.specs.declared.answer.Ended.TheVariants as ended
use Rattle.plan_file.specs.Files as planfile
use Rattle.listing.specs.Listing.{listing_answer, listing_leaves, show_answer, show_leaves}
use Rattle.c_forms.specs.SocForm.{soc_in, soc_bytes}
use Rattle.c_forms.specs.PlanForm.{plan_in, plan_bytes}
use Rattle.c_forms.specs.LayoutForm.{layout_bytes}
use Rattle.c_forms.specs.BudgetForm.{budget_bytes}

-- what stands above the lowest byte has 56 bits
abbrev pub above_max : ℕ
above_max = 72057594037927936

unfoldable pub above : ℕ → ℕ → ℕ
above n v = n + 256 * (v % above_max)

-- a refusal: its number, and above it its line
unfoldable pub refusal_code : Refusal → ℕ
refusal_code r = above (number_of r.fault) r.line

-- nothing refused, and a figure of what is answered; or the refusal
unfoldable pub code : {A : Type 0} → (A → ℕ) → Result A Refusal → ℕ
code figure (Ok a) = above 0 (figure a)
code figure (Err r) = refusal_code r

-- where the figure is what is answered
abbrev pub itself : ℕ → ℕ
itself n = n

-- k bytes put, of a result that is never empty; 0 says that there was no room
abbrev pub put_answer : ℕ → Result ℕ Refusal
put_answer k = cond (eqb k 0) (Err (refused ShortBuffer 0)) (Ok k)

unfoldable pub bytes_code : ℕ → ℕ
bytes_code k = code itself (put_answer k)

-- a result of bytes w at the front of a lent buffer; without the room 11
unfoldable pub given : List ℕ → List ℕ → ℕ
given w buf = cond (leb (length w) (length buf)) (above 0 (length w)) (above 11 0)

-- a result as bytes where nothing is refused: the answer, and what the lent buffer then holds
unfoldable pub given_unless : {A : Type 0} → (A → List ℕ) → Result A Refusal → List ℕ → ℕ
given_unless form (Ok a) buf = given (form a) buf
given_unless form (Err r) buf = refusal_code r

unfoldable pub held_unless : {A E : Type 0} → (A → List ℕ) → Result A E → List ℕ → List ℕ
held_unless form (Ok a) buf = put_front (form a) buf
held_unless form (Err r) buf = buf

abbrev pub read_code : List ℕ → List ℕ → ℕ
read_code text buf = given_unless soc_bytes (read_soc text) buf

abbrev pub read_held : List ℕ → List ℕ → List ℕ
read_held text buf = held_unless soc_bytes (read_soc text) buf

abbrev pub write_code : List ℕ → List ℕ → ℕ
write_code b buf = code itself (soctext.write_answer (soc_in b) buf)

abbrev pub write_held : List ℕ → List ℕ → List ℕ
write_held b buf = soctext.write_leaves (soc_in b) buf

-- "Every time, plan and bound reads with c"
abbrev pub layout_code : List ℕ → ℕ → ℕ → ℕ → ℕ → List ℕ → ℕ
layout_code b m i w c buf = given_unless layout_bytes (layout_answer (soc_in b) m i w c) buf

abbrev pub layout_held : List ℕ → ℕ → ℕ → ℕ → ℕ → List ℕ → List ℕ
layout_held b m i w c buf = held_unless layout_bytes (layout_answer (soc_in b) m i w c) buf

abbrev pub cycles_of : ModuleTime → ℕ
cycles_of t = t.cycles.0

abbrev pub wires_of : ModuleTime → ℕ
wires_of t = t.wires.0

abbrev pub module_time_code : List ℕ → ℕ → ℕ → ℕ → ℕ
module_time_code b m w c = code cycles_of (module_time_answer (soc_in b) m w c)

abbrev pub module_wires_code : List ℕ → ℕ → ℕ → ℕ → ℕ
module_wires_code b m w c = code wires_of (module_time_answer (soc_in b) m w c)

abbrev pub plan_code : List ℕ → ℕ → ℕ → ℕ → List ℕ → ℕ
plan_code b W B c buf = given_unless plan_bytes (plan_answer (soc_in b) W B c) buf

abbrev pub plan_held : List ℕ → ℕ → ℕ → ℕ → List ℕ → List ℕ
plan_held b W B c buf = held_unless plan_bytes (plan_answer (soc_in b) W B c) buf

-- what the planner with a spending limit found; where no plan is known, the record that says nothing
unfoldable pub is_finished : Ended → Bool
is_finished ended.Finished = true
is_finished ended.Unfinished = false

abbrev pub found_bytes : BudgetAnswer → List ℕ
found_bytes a = budget_bytes (is_finished a.ended) (is_some a.plan) a.tries (unwrap_or a.plan no_plan)

abbrev pub budget_code : List ℕ → ℕ → ℕ → ℕ → ℕ → List ℕ → ℕ
budget_code b W B c budget buf = given_unless found_bytes (budget_answer (soc_in b) W B c budget) buf

abbrev pub budget_held : List ℕ → ℕ → ℕ → ℕ → ℕ → List ℕ → List ℕ
budget_held b W B c budget buf = held_unless found_bytes (budget_answer (soc_in b) W B c budget) buf

abbrev pub write_plan_code : List ℕ → List ℕ → ℕ
write_plan_code b buf = code itself (planfile.write_answer (plan_in b) buf)

abbrev pub write_plan_held : List ℕ → List ℕ → List ℕ
write_plan_held b buf = planfile.write_leaves (plan_in b) buf

abbrev pub read_plan_code : List ℕ → List ℕ → ℕ
read_plan_code f buf = given_unless plan_bytes (planfile.read_answer f) buf

abbrev pub read_plan_held : List ℕ → List ℕ → List ℕ
read_plan_held f buf = held_unless plan_bytes (planfile.read_answer f) buf

abbrev pub listing_code : List ℕ → List ℕ → ℕ
listing_code input buf = code itself (listing_answer input buf)

abbrev pub listing_held : List ℕ → List ℕ → List ℕ
listing_held input buf = listing_leaves input buf

abbrev pub show_code : List ℕ → List ℕ → ℕ
show_code b buf = code itself (show_answer (plan_in b) buf)

abbrev pub show_held : List ℕ → List ℕ → List ℕ
show_held b buf = show_leaves (plan_in b) buf

-- "the answer says which text is meant": 0 neither, 1 the base, 2 the overlay
unfoldable pub meant_number : Meant → ℕ
meant_number meant.Neither = 0
meant_number meant.Base = 1
meant_number meant.Overlay = 2

abbrev pub line_max : ℕ
line_max = 18014398509481984

-- a refusal of a pair: 4 times its line, and the text that is meant
unfoldable pub pair_refused : PairRefusal → ℕ
pair_refused r = above (number_of r.refusal.fault) (4 * (r.refusal.line % line_max) + meant_number r.meant)

-- nothing refused, and a figure of what is answered; or the refusal
unfoldable pub pair_figure : {A : Type 0} → (A → ℕ) → Result A PairRefusal → ℕ
pair_figure figure (Ok a) = above 0 (figure a)
pair_figure figure (Err r) = pair_refused r

-- a result as bytes where nothing is refused; without the room 11, about neither text
unfoldable pub pair_given : {A : Type 0} → (A → List ℕ) → Result A PairRefusal → List ℕ → ℕ
pair_given form (Ok a) buf = given (form a) buf
pair_given form (Err r) buf = pair_refused r

-- the combined description
abbrev pub both_bytes : PairRead → List ℕ
both_bytes p = soc_bytes p.soc

abbrev pub read_pair_code : List ℕ → List ℕ → List ℕ → ℕ
read_pair_code base overlay buf = pair_given both_bytes (read_pair base overlay) buf

abbrev pub read_pair_held : List ℕ → List ℕ → List ℕ → List ℕ
read_pair_held base overlay buf = held_unless both_bytes (read_pair base overlay) buf

-- where the lines of a module stand, in texts of at most 61,440 bytes: 131,072 times where they begin, and twice where they end, and 1 in the overlay
unfoldable pub part_figure : Bool → ℕ → ℕ → ℕ
part_figure over from to = 131072 * (from % 65536) + 2 * (to % 65536) + cond over 1 0

abbrev pub places_of : Shown → ℕ
places_of s = part_figure s.over s.part.from s.part.to

abbrev pub shown_code : Result Shown PairRefusal → ℕ
shown_code s = pair_figure places_of s

abbrev pub module_lines_code : List ℕ → List ℕ → ℕ → ℕ
module_lines_code base overlay m = shown_code (lines_shown base overlay m)

abbrev pub write_pair_code : List ℕ → List ℕ → List ℕ → ℕ
write_pair_code base overlay buf = pair_figure itself (write_pair base overlay buf)

abbrev pub layout_pair_code : List ℕ → List ℕ → ℕ → ℕ → ℕ → ℕ → List ℕ → ℕ
layout_pair_code base overlay m i w c buf = pair_given layout_bytes (layout_pair base overlay m i w c) buf

abbrev pub layout_pair_held : List ℕ → List ℕ → ℕ → ℕ → ℕ → ℕ → List ℕ → List ℕ
layout_pair_held base overlay m i w c buf = held_unless layout_bytes (layout_pair base overlay m i w c) buf

abbrev pub module_time_pair_code : List ℕ → List ℕ → ℕ → ℕ → ℕ → ℕ
module_time_pair_code base overlay m w c = pair_figure cycles_of (module_time_pair base overlay m w c)

abbrev pub module_wires_pair_code : List ℕ → List ℕ → ℕ → ℕ → ℕ → ℕ
module_wires_pair_code base overlay m w c = pair_figure wires_of (module_time_pair base overlay m w c)

abbrev pub plan_pair_code : List ℕ → List ℕ → ℕ → ℕ → ℕ → List ℕ → ℕ
plan_pair_code base overlay W B c buf = pair_given plan_bytes (plan_pair base overlay W B c) buf

abbrev pub plan_pair_held : List ℕ → List ℕ → ℕ → ℕ → ℕ → List ℕ → List ℕ
plan_pair_held base overlay W B c buf = held_unless plan_bytes (plan_pair base overlay W B c) buf
