-- Laws of the time of a test: what it takes at most, and that the scan lengths of a module are those of the rule. Assumes nothing.
use Prim.Native.Nat.{ℕ, ◌+◌, ◌*◌, ◌≤◌, max}
use mathlib.Core.Path.{◌≡◌, ap}
use mathlib.Core.Bool.{Bool}
use native.Mathlib.Omega.{arith}
use native.Mathlib.Nat.{add-mul, mul-le-mul}
use Rattle.soc.specs.Limits.{patterns_max}
use Rattle.soc.specs.declared.record.Test.{Test}
use Rattle.soc.specs.declared.record.Module.{Module}
use Rattle.wrapper_fit.specs.Maxima.{test_time_max, capture_max}
use Rattle.wrapper_scans.specs.TestTimes.{scan_in, scan_out, test_cycles, test_time}
use Rattle.wrapper_scans.specs.Scans.{scan_of, scan_with, Kept}
use Rattle.wrapper_scans.proofs.BidirLaws.{scan_in-counted, scan_out-counted}
use Rattle.wrapper_scans.proofs.KeptLaws.{held-lengths, short-scan}

-- a test of at most 16,777,215 patterns with at most 4 capture cycles each, where no scan is longer than 278,526
product_most : (c s p : ℕ) → c ≤ capture_max → s ≤ 278526 → p ≤ 16777215 → (c + s) * p ≤ 4672957693950
product_most c s p l h m = mul-le-mul {n₁ = c + s} {n₂ = 278530} {m₂ = 16777215} (omega arith) m

pub parts_most : (c s p : ℕ) → c ≤ capture_max → s ≤ 278526 → p ≤ 16777215 → c * p + s * p ≤ 4672957693950
parts_most c s p l h m = rw (← add-mul c s p) (product_most c s p l h m)

pub cycles-most : (c si so p : ℕ) → c ≤ capture_max → si ≤ 278526 → so ≤ 278526 → p ≤ 16777215 → test_cycles c si so p ≤ test_time_max
unfolding test_cycles
cycles-most c si so p l h k m = omega (arith, product_most c (max si so) p l (omega arith) m)

-- the scan lengths of a module's chains are those of the rule
pub scan-is : (d : Module) (scan : Bool) (w : ℕ)
    → scan_with d scan w ≡ record { si = scan_in d scan w; so = scan_out d scan w }
unfolding scan_of
scan-is d scan w = rw (held-lengths d scan w, scan_in-counted d scan w, scan_out-counted d scan w)

-- a test's cycles by the scan lengths of its chains
pub scan-time : (c : ℕ) (d : Module) (w : ℕ) (t : Test)
    → test_cycles c (scan_with d t.scan_use w).si (scan_with d t.scan_use w).so t.patterns ≡ test_time c d w t
unfolding test_time
scan-time c d w t = ap (λ s. test_cycles c s.si s.so t.patterns) (scan-is d t.scan_use w)

-- the longest that a test can take
pub test-most : (c : ℕ) (d : Module) (w : ℕ) (t : Test) → c ≤ capture_max → Kept d → t.patterns ≤ patterns_max
    → test_time c d w t ≤ test_time_max
test-most c d w t l k h =
    let s = short-scan d t.scan_use w k in
    rw (← scan-time c d w t)
    (cycles-most c (scan_with d t.scan_use w).si (scan_with d t.scan_use w).so t.patterns l s.si s.so h)
