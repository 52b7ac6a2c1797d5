-- `soc::planned::planned_modules` meets its contract. The loop's invariant: the numbers found are those of the planned modules among the
-- first i. Assumes nothing.
use Rattle.std.proofs.Common.{◌≡◌, ◌≤◌, ℕ, List, length, take}
use Rattle.soc.specs.Limits.{modules_max}
use Rattle.units.specs.Places.{padded}
use Rattle.soc.specs.Planned.{planned_from}
use Rattle.soc.specs.declared.record.Module.{Module}
use Rattle.soc.proofs.planned.planned_modules.Given as goal

abbrev pub found : List Module → ℕ → List ℕ
found ms i = planned_from 0 (take i ms)

-- xs holds the k numbers of ns at its front
abbrev pub Holds : List ℕ → ℕ → List ℕ → Type 0
Holds xs k ns = (k ≡ length ns) × (xs ≡ padded modules_max 0 ns)

abbrev pub invariant-loop-i : goal.invariant-loop-i
invariant-loop-i l = (l.count ≤ l.i) × Holds l.numbers l.count (found l.fn.s.modules l.i)
