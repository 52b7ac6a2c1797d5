-- Planned modules (document 01, "The plan"): "Planned modules are those with at least one test with TamUse 1."
use Rattle.std.specs.Prelude.{ℕ, suc, Bool, cond, List, [], ◌∷◌, length}
use Rattle.soc.specs.Limits.{modules_max}
use Rattle.units.specs.Places.{any_of, padded}
use Rattle.soc.specs.Record.{modules_of, tests_of}
use Rattle.soc.specs.declared.record.Test.{Test}
use Rattle.soc.specs.declared.record.Module.{Module}
use Rattle.soc.specs.declared.record.Soc.{Soc}
use Rattle.soc.specs.declared.planned.Planned.{Planned}

abbrev pub on_tam : Test → Bool
on_tam t = t.tam_use

unfoldable pub is_planned : Module → Bool
is_planned d = any_of on_tam (tests_of d)

-- the numbers of the planned modules, ascending, where the first of the list has number m
unfoldable pub planned_from : ℕ → List Module → List ℕ
planned_from m [] = []
planned_from m (d ∷ ds) = cond (is_planned d) (m ∷ planned_from (suc m) ds) (planned_from (suc m) ds)

abbrev pub planned_of : Soc → List ℕ
planned_of s = planned_from 0 (modules_of s)

-- the same as an answer has it
abbrev pub planned_is : List ℕ → Planned
planned_is ns = record { count = length ns; numbers = padded modules_max 0 ns }
