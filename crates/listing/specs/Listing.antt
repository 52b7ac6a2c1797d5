-- What the printing program prints for an input (document 01, "The printing program"; document 02, items 1 and 5).
use Rattle.std.specs.Prelude.{ℕ, suc, cond, List, [], ◌∷◌, ◌++◌, Result, Ok, Err}
use Rattle.units.specs.Refusals.{number_of, refused}
use Rattle.units.specs.declared.Fault.{Fault}
use Rattle.units.specs.declared.Fault.TheVariants.{BadPlan}
use Rattle.units.specs.declared.Refusal.{Refusal}
use Rattle.fields.specs.Bytes.{bytes}
use Rattle.buffer.specs.Puts.{put_front}
use Rattle.buffer.specs.WriterAnswers.{written}
use Rattle.fields.specs.WrittenLines.{decimal, written_lines}
use Rattle.soc.specs.Record.{name_of}
use Rattle.soc.specs.declared.record.Soc.{Soc}
use Rattle.text_reader.specs.Reading.{read_soc}
use Rattle.plan.specs.PlanAnswers.{plan_answer}
use Rattle.plan_record.specs.declared.record.Bus.{Bus}
use Rattle.plan_record.specs.declared.record.PlacedModule.{PlacedModule}
use Rattle.plan_record.specs.declared.record.BusPlan.{BusPlan}
use Rattle.plan_record.specs.Record.{buses_of, modules_of}
use Rattle.plan_record.specs.Good.{good_plan}
use Rattle.listing.specs.Asked.{Wanted, asked, text_behind}

-- the fields of a line: "`refused N line L`"
unfoldable pub refusal_fields : Refusal → List (List ℕ)
refusal_fields r = bytes "refused" ∷ decimal (number_of r.fault) ∷ bytes "line" ∷ decimal r.line ∷ []

-- "W, B, time"
unfoldable pub count_fields : BusPlan → List (List ℕ)
count_fields p = bytes "wires" ∷ decimal p.wires.0 ∷ bytes "limit" ∷ decimal p.limit ∷ bytes "time" ∷ decimal p.time.0 ∷ []

unfoldable pub soc_fields : Soc → BusPlan → List (List ℕ)
soc_fields s p = bytes "soc" ∷ name_of s ∷ count_fields p

-- "each bus", with number i
unfoldable pub bus_fields : ℕ → Bus → List (List ℕ)
bus_fields i b = bytes "bus" ∷ decimal i ∷ bytes "width" ∷ decimal b.width.0 ∷ bytes "busy" ∷ decimal b.busy.0 ∷ []

unfoldable pub bus_lines : ℕ → List Bus → List (List (List ℕ))
bus_lines i [] = []
bus_lines i (b ∷ bs) = bus_fields i b ∷ bus_lines (suc i) bs

-- "each planned module"; "the listing's module line ends in `start S`"
unfoldable pub module_fields : PlacedModule → List (List ℕ)
module_fields m =
    bytes "module"
    ∷ decimal m.number
    ∷ bytes "bus"
    ∷ decimal m.bus
    ∷ bytes "wires"
    ∷ decimal m.wires.0
    ∷ bytes "cycles"
    ∷ decimal m.cycles.0
    ∷ bytes "start"
    ∷ decimal m.start.0
    ∷ []

unfoldable pub module_lines : List PlacedModule → List (List (List ℕ))
module_lines [] = []
module_lines (m ∷ ms) = module_fields m ∷ module_lines ms

-- the lines of a plan, of which the first tells the SOC's name or not
unfoldable pub lines_behind : List (List ℕ) → BusPlan → List (List (List ℕ))
lines_behind first p = first ∷ bus_lines 1 (buses_of p) ++ module_lines (modules_of p)

abbrev pub plan_lines : Soc → BusPlan → List (List (List ℕ))
plan_lines s p = lines_behind (soc_fields s p) p

-- "A refusal prints `refused N line L`.": that of the planner, that of the text, that of the first line, "before all else"
unfoldable pub plan_printed : Soc → Result BusPlan Refusal → List (List (List ℕ))
plan_printed s (Ok p) = plan_lines s p
plan_printed s (Err r) = refusal_fields r ∷ []

unfoldable pub text_printed : Wanted → Result Soc Refusal → List (List (List ℕ))
text_printed k (Ok s) = plan_printed s (plan_answer s k.wires k.limit k.capture)
text_printed k (Err r) = refusal_fields r ∷ []

unfoldable pub printed : Result Wanted Fault → List ℕ → List (List (List ℕ))
printed (Ok k) text = text_printed k (read_soc text)
printed (Err f) text = refusal_fields (refused f 0) ∷ []

-- the bytes that are printed for an input
unfoldable pub listed : List ℕ → List ℕ
listed input = written_lines (printed (asked input) (text_behind input))

-- a buffer of this length is always enough
abbrev pub listing_max : ℕ
listing_max = 6144

unfoldable pub listing_answer : List ℕ → List ℕ → Result ℕ Refusal
listing_answer input buf = written (listed input) buf

unfoldable pub listing_leaves : List ℕ → List ℕ → List ℕ
listing_leaves input buf = put_front (listed input) buf

-- a plan record as it is shown: its lines without the name, which it does not hold. "plan record .. not good" is 12
unfoldable pub shown : BusPlan → List ℕ
shown p = written_lines (lines_behind (count_fields p) p)

unfoldable pub show_answer : BusPlan → List ℕ → Result ℕ Refusal
show_answer p buf = cond (good_plan p) (written (shown p) buf) (Err (refused BadPlan 0))

unfoldable pub show_leaves : BusPlan → List ℕ → List ℕ
show_leaves p buf = cond (good_plan p) (put_front (shown p) buf) buf
