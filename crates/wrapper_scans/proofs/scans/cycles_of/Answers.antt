-- `wrapper_scans::scans::cycles_of` meets its contract: no product wraps. Assumes nothing.
use native.Mathlib.Omega.{arith}
use native.Mathlib.Nat.{add-mul}
use Prim.Native.Nat.{ℕ, ◌+◌, ◌*◌, max, min}
use mathlib.Core.Path.{◌≡◌}
use Rattle.wrapper_scans.specs.TestTimes.{test_cycles}
use Rattle.wrapper_scans.proofs.scans.cycles_of.Goals as goal

-- the capture cycles of all patterns stand apart
apart : (c p si so a b l s : ℕ) → a ≡ c → b ≡ p → l ≡ max si so → s ≡ min si so → a * b + l * b + s ≡ test_cycles c si so p
unfolding test_cycles
apart c p si so a b l s e f g h = rw (e, f, g, h) (omega (arith, add-mul c (max si so) p))

pub returns : goal.returns
returns c = apart _ _ _ _ _ _ _ _ c.from-each.ensures c.from-p.ensures c.max-longer.ensures c.min-shorter.ensures
