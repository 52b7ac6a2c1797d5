-- What is answered for a module and a width (document 01, "The wrapper rule"; document 02, item 5).
use Rattle.std.specs.Prelude.{ℕ, zero, suc, List, [], ◌∷◌, map, Result, Ok}
use Rattle.units.specs.declared.Refusal.{Refusal}
use Rattle.units.specs.declared.Wires.{Wires}
use Rattle.units.specs.declared.Cycles.{Cycles}
use Rattle.units.specs.Places.{padded}
use Rattle.soc.specs.declared.record.Module.{Module}
use Rattle.soc.specs.declared.record.Soc.{Soc}
use Rattle.wrapper_fit.specs.Maxima.{width_max}
use Rattle.wrapper_fit.specs.Counts.{wires, cycles}
use Rattle.wrapper_scans.specs.Asked.{asked_module, refused_here}
use Rattle.wrapper_times.specs.Times.{Best, module_best}
use Rattle.wrapper_times.specs.declared.asked.ModuleTime.{ModuleTime}
use Rattle.wrapper_times.specs.declared.times.Times.{Times}

abbrev pub module_time_of : Best → ModuleTime
module_time_of b = record { cycles = cycles b.cycles; wires = wires b.wires }

unfoldable pub module_time_answer : Soc → ℕ → ℕ → ℕ → Result ModuleTime Refusal
module_time_answer s m w c = asked_module s m w c refused_here λ d. Ok (module_time_of (module_best c d w))

-- a module's times and wires at the widths 1 to w, where i of them are to come from width u on
unfoldable pub bests_from : ℕ → Module → ℕ → ℕ → List Best
bests_from c d zero u = []
bests_from c d (suc i) u = module_best c d u ∷ bests_from c d i (suc u)

abbrev pub cycles_in : Best → Cycles
cycles_in b = cycles b.cycles

abbrev pub wires_in : Best → Wires
wires_in b = wires b.wires

unfoldable pub times_of : ℕ → Module → ℕ → Times
times_of c d w =
    record {
      cycles = padded width_max (cycles 0) (map cycles_in (bests_from c d w 1));
      wires = padded width_max (wires 0) (map wires_in (bests_from c d w 1));
    }

unfoldable pub module_times_answer : Soc → ℕ → ℕ → ℕ → Result Times Refusal
module_times_answer s m w c = asked_module s m w c refused_here λ d. Ok (times_of c d w)
