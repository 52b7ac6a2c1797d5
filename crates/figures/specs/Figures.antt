-- Document 01's starred figures ("Figures to hold against"), each beside the definition that it is a figure of, with one capture cycle, and
-- the starts of the same plans. And some of the wrapper's with more capture cycles (document 02, item 5).
use Rattle.std.specs.Prelude.{ℕ, true, List, [], ◌∷◌, ◌++◌, get_or, Result, Ok, Err}
use Rattle.units.specs.declared.Refusal.{Refusal}
use Rattle.wrapper_scans.specs.TestTimes.{scan_in, scan_out}
use Rattle.wrapper_times.specs.Times.{figure, module_best}
use Rattle.soc.specs.declared.record.Soc.{Soc}
use Rattle.plan_record.specs.Record.{no_plan, modules_of, places_of}
use Rattle.plan_record.specs.Starts.{module_of}
use Rattle.plan_record.specs.declared.record.BusPlan.{BusPlan}
use Rattle.plan.specs.PlanAnswers.{plan_answer}
use Rattle.figures.specs.Cores.{core_a, one_chain, terminals, nothing}

-- a figure as the definitions have it, and as document 01 states it
pub record Figure : Type 0 where
  pub computed : ℕ
  pub stated : ℕ

infix 30 ◌is◌
abbrev pub ◌is◌ : ℕ → ℕ → Figure
c is s = record { computed = c; stated = s }

abbrev pub wrapper_figures : List Figure
wrapper_figures =
    (figure 1 core_a 1 is 920)
    ∷ (figure 1 core_a 2 is 470)
    ∷ (figure 1 core_a 3 is 317)
    ∷ (figure 1 core_a 4 is 240)
    ∷ (figure 1 core_a 5 is 208)
    ∷ (scan_in core_a true 4 is 20)
    ∷ (scan_out core_a true 4 is 21)
    ∷ ((module_best 1 one_chain 1).cycles is 65)
    ∷ ((module_best 1 one_chain 1).wires is 1)
    ∷ ((module_best 1 one_chain 2).cycles is 65)
    ∷ ((module_best 1 one_chain 2).wires is 1)
    ∷ (figure 1 terminals 1 is 18)
    ∷ (figure 1 terminals 2 is 13)
    ∷ (figure 1 terminals 3 is 9)
    ∷ (figure 1 terminals 4 is 9)
    ∷ ((module_best 1 terminals 4).wires is 3)
    ∷ ((module_best 1 nothing 1).cycles is 7)
    ∷ []

-- with c = 2 and 4: Core A at width 4, where max(si, so) is 21 and min(si, so) is 20, takes (c + 21) × 10 + 20, and no terminals and no
-- chains c × 7
abbrev pub capture_figures : List Figure
capture_figures = (figure 2 core_a 4 is 250) ∷ (figure 4 core_a 4 is 270) ∷ ((module_best 4 nothing 1).cycles is 28) ∷ []

-- what the planner answers for W wires and limit B; where it refuses, a plan whose time is 0
abbrev pub plan_in : Result BusPlan Refusal → BusPlan
plan_in (Ok p) = p
plan_in (Err r) = no_plan

abbrev pub planned : Soc → ℕ → ℕ → BusPlan
planned s W B = plan_in (plan_answer s W B 1)

-- "Text t1 above: W 4, B 1: 74*; W 1, B 3: 83*; W 4, B 3: 65 with two buses*. Two copies of its module 1, W 2, B 2: 65, modules on buses 1 and 2*.":
-- of a record and one with the copies
abbrev pub plan_figures : Soc → Soc → List Figure
plan_figures s c =
    ((planned s 4 1).time.0 is 74)
    ∷ ((planned s 1 3).time.0 is 83)
    ∷ ((planned s 4 3).time.0 is 65)
    ∷ ((planned s 4 3).bus_count is 2)
    ∷ ((planned c 2 2).time.0 is 65)
    ∷ (get_or (places_of (modules_of (planned c 2 2))) 0 0 is 1)
    ∷ (get_or (places_of (modules_of (planned c 2 2))) 1 0 is 2)
    ∷ []

-- the starts in these plans (document 02, item 1): on one bus module 2 of t1 begins where module 1 ends, on two buses both begin at once
abbrev pub start_figures : Soc → Soc → List Figure
start_figures s c =
    ((module_of (planned s 4 1) 0).start.0 is 0)
    ∷ ((module_of (planned s 4 1) 1).start.0 is 65)
    ∷ ((module_of (planned s 1 3) 1).start.0 is 65)
    ∷ ((module_of (planned s 4 3) 1).start.0 is 0)
    ∷ ((module_of (planned c 2 2) 1).start.0 is 0)
    ∷ []

-- all of them
abbrev pub figures : Soc → Soc → List Figure
figures s c = wrapper_figures ++ capture_figures ++ plan_figures s c ++ start_figures s c

-- the computed figures of a table, and the stated ones
unfoldable pub computed_of : List Figure → List ℕ
computed_of [] = []
computed_of (f ∷ fs) = f.computed ∷ computed_of fs

unfoldable pub stated_of : List Figure → List ℕ
stated_of [] = []
stated_of (f ∷ fs) = f.stated ∷ stated_of fs
