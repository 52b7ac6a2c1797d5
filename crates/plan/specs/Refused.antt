-- What the first planner refuses of a good SOC (document 01, "Plan: 14, 7, 8, 9, 10."; document 02, item 5, "16, after 8 for plans").
use Rattle.std.specs.Prelude.{ℕ, cond, ◌&&◌, leb, Result, Ok, Err}
use Rattle.units.specs.declared.Fault.{Fault}
use Rattle.units.specs.declared.Fault.TheVariants.{Width, Buses, NonePlanned, ManyPlanned, Capture}
use Rattle.wrapper_fit.specs.Maxima.{width_max, capture_max}
use Rattle.plan.specs.PlanAnswers.{limit_max, planned_max}

-- whether W wires, limit B, c capture cycles and n planned modules are within their limits; else the first fault of 7, 8, 16, 9, 10
unfoldable pub limits_kept : ℕ → ℕ → ℕ → ℕ → Result Unit Fault
limits_kept W B c n =
    cond (leb 1 W && leb W width_max)
    (cond (leb 1 B && leb B limit_max)
    (cond (leb 1 c && leb c capture_max)
    (cond (leb 1 n) (cond (leb n planned_max) (Ok tt) (Err ManyPlanned)) (Err NonePlanned))
    (Err Capture))
    (Err Buses))
    (Err Width)
