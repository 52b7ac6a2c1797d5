-- The times of a module (document 01, "The wrapper rule"; document 02, item 5). "Every time, plan and bound reads with c", the capture
-- cycles.
use Rattle.std.specs.Prelude.{ℕ, zero, suc, ◌+◌, cond, List, [], ◌∷◌, ltb}
use Rattle.soc.specs.Record.{tests_of}
use Rattle.soc.specs.declared.record.Test.{Test}
use Rattle.soc.specs.declared.record.Module.{Module}
use Rattle.wrapper_scans.specs.TestTimes.{test_time}

-- "A module's figure at width u is the sum over its tests with TamUse 1."
unfoldable pub sum_times : ℕ → Module → ℕ → List Test → ℕ
sum_times c d k [] = 0
sum_times c d k (t ∷ ts) = cond t.tam_use (test_time c d k t + sum_times c d k ts) (sum_times c d k ts)

unfoldable pub figure : ℕ → Module → ℕ → ℕ
figure c d k = sum_times c d k (tests_of d)

-- "Its time on a bus of width w is the least figure over u = 1 to w, and its wires the smallest such u."
pub record Best : Type 0 where
  pub cycles : ℕ
  pub wires : ℕ

unfoldable pub best_to : (ℕ → ℕ) → ℕ → Best
best_to f zero = record { cycles = f 1; wires = 1 }
best_to f (suc zero) = record { cycles = f 1; wires = 1 }
best_to f (suc (suc w)) =
    cond (ltb (f (suc (suc w))) (best_to f (suc w)).cycles)
    (record { cycles = f (suc (suc w)); wires = suc (suc w) })
    (best_to f (suc w))

unfoldable pub module_best : ℕ → Module → ℕ → Best
module_best c d w = best_to (figure c d) w
