-- `wrapper_times::times::times_of` meets its contract. The loop's invariant: `best` and `at` are the least figure up to width `u` and the
-- smallest such width, and the arrays hold those of the widths 1 to `u`. Assumes nothing.
use Prim.Native.Nat.{ℕ}
use mathlib.Core.Path.{◌≡◌}
use mathlib.Core.List.{List, map}
use Rattle.units.specs.declared.Wires.{Wires}
use Rattle.units.specs.declared.Cycles.{Cycles}
use Rattle.units.specs.Places.{padded}
use Rattle.soc.specs.declared.record.Module.{Module}
use Rattle.wrapper_fit.specs.Maxima.{width_max}
use Rattle.wrapper_fit.specs.Counts.{wires, cycles}
use Rattle.wrapper_times.specs.Times.{module_best}
use Rattle.wrapper_times.specs.TimeAnswers.{bests_from, cycles_in, wires_in}
use Rattle.wrapper_times.proofs.times.times_of.Given as goal

-- the best at width u, and the arrays of the widths 1 to u
pub record Held (c : ℕ) (d : Module) (u best at : ℕ) (cs : List Cycles) (ws : List Wires) : Type 0 where
  pub least : best ≡ (module_best c d u).cycles
  pub width : at ≡ (module_best c d u).wires
  pub times : cs ≡ padded width_max (cycles 0) (map cycles_in (bests_from c d u 1))
  pub places : ws ≡ padded width_max (wires 0) (map wires_in (bests_from c d u 1))

abbrev pub invariant-loop-u : goal.invariant-loop-u
invariant-loop-u l = Held l.capture l.d l.u l.best l.at l.cycles l.wires
