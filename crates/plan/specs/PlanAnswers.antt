-- What the first planner answers (document 01, "The plan" and "Refusal numbers"; document 02, item 5): "Plan: 14, 7, 8, 9, 10.", where "c
-- outside 1 to 4 is 16, after 8 for plans". "Every time, plan and bound reads with c", the capture cycles.
use Rattle.std.specs.Prelude.{ℕ, cond, ◌&&◌, length, get_or, leb, Result, Ok, Err}
use Rattle.units.specs.Refusals.{refused}
use Rattle.units.specs.declared.Fault.TheVariants.{Width, Buses, NonePlanned, ManyPlanned, BadSoc, Capture}
use Rattle.units.specs.declared.Refusal.{Refusal}
use Rattle.soc.specs.Record.{no_module}
use Rattle.soc.specs.Rules.{good_soc}
use Rattle.soc.specs.Planned.{planned_of}
use Rattle.soc.specs.declared.record.Module.{Module}
use Rattle.soc.specs.declared.record.Soc.{Soc}
use Rattle.wrapper_fit.specs.Maxima.{width_max, capture_max}
use Rattle.wrapper_times.specs.Times.{module_best}
use Rattle.plan_rules.specs.Plans.{Plan}
use Rattle.plan_rules.specs.Listed.{best_plan}
use Rattle.plan_record.specs.Record.{plan_record}
use Rattle.plan_record.specs.declared.record.BusPlan.{BusPlan}

-- "B outside 1 to 3" is 8
abbrev pub limit_max : ℕ
limit_max = 3

-- "more than 12 planned" is 10
abbrev pub planned_max : ℕ
planned_max = 12

-- the planned module i, counted from 0 in ascending number
abbrev pub planned_module : Soc → ℕ → Module
planned_module s i = get_or s.modules (get_or (planned_of s) i 0) no_module

-- its time and its wires on a bus of width w, as the wrapper layer has them
unfoldable pub time_in : ℕ → Soc → ℕ → ℕ → ℕ
time_in c s i w = (module_best c (planned_module s i) w).cycles

unfoldable pub wires_in : ℕ → Soc → ℕ → ℕ → ℕ
wires_in c s i w = (module_best c (planned_module s i) w).wires

-- "The answer is the first plan of least time."
unfoldable pub best_for : ℕ → Soc → ℕ → ℕ → Plan
best_for c s W B = best_plan (time_in c s) W B (length (planned_of s))

-- its record: the numbers of the planned modules, their times and their wires
abbrev pub record_of : ℕ → Soc → ℕ → ℕ → Plan → BusPlan
record_of c s W B p = plan_record (planned_of s) (time_in c s) (wires_in c s) W B p

unfoldable pub plan_answer : Soc → ℕ → ℕ → ℕ → Result BusPlan Refusal
plan_answer s W B c =
    cond (good_soc s)
    (cond (leb 1 W && leb W width_max)
    (cond (leb 1 B && leb B limit_max)
    (cond (leb 1 c && leb c capture_max)
    (cond (leb 1 (length (planned_of s)))
    (cond (leb (length (planned_of s)) planned_max)
    (Ok (record_of c s W B (best_for c s W B)))
    (Err (refused ManyPlanned 0)))
    (Err (refused NonePlanned 0)))
    (Err (refused Capture 0)))
    (Err (refused Buses 0)))
    (Err (refused Width 0)))
    (Err (refused BadSoc 0))
