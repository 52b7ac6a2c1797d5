-- How a module's figure is computed: scan lengths with chains and without, each at most once for a width.
use Rattle.std.specs.Prelude.{ℕ, ◌+◌, Bool, true, false, cond, ◌&&◌, List, [], ◌∷◌, Option, Some, None}
use Rattle.std.specs.Bool.{beq}
use Rattle.units.specs.Places.{any_of}
use Rattle.soc.specs.Record.{tests_of}
use Rattle.soc.specs.declared.record.Test.{Test}
use Rattle.soc.specs.declared.record.Module.{Module}
use Rattle.wrapper_scans.specs.Chains.{used_chains}
use Rattle.wrapper_scans.specs.TestTimes.{test_cycles}
use Rattle.wrapper_scans.specs.Held.{chain_lengths}
use Rattle.wrapper_scans.specs.declared.chains.ChainLengths.{ChainLengths}
use Rattle.wrapper_scans.specs.declared.scans.Scan.{Scan}
use Rattle.wrapper_scans.specs.Scans.{scan_of}
use Rattle.wrapper_times.specs.declared.times.Plain.{Plain}

-- a test with TamUse 1 and this ScanUse
abbrev pub planned_with : Bool → Test → Bool
planned_with scan t = t.tam_use && beq t.scan_use scan

abbrev pub no_scan : Scan
no_scan = record { si = 0; so = 0 }

-- the chains' lengths, where a test with TamUse 1 has this ScanUse
abbrev pub needed : Module → Bool → Option ChainLengths
needed d scan = cond (any_of (planned_with scan) (tests_of d)) (Some (chain_lengths (used_chains d scan))) None

unfoldable pub scan_if : Module → Option ChainLengths → ℕ → Scan
scan_if d (Some c) k = scan_of d c k
scan_if d None k = no_scan

-- with them, where a test with TamUse 1 needs it
abbrev pub scan_needed : Module → Bool → ℕ → Scan
scan_needed d scan k = scan_if d (needed d scan) k

-- a test's cycles where the scan lengths are known; 0 with TamUse 0
unfoldable pub planned_cycles : ℕ → Scan → Scan → Test → ℕ
planned_cycles c a b t =
    cond t.tam_use
    (cond t.scan_use (test_cycles c a.si a.so t.patterns) (test_cycles c b.si b.so t.patterns))
    0

unfoldable pub sum_scans : ℕ → Scan → Scan → List Test → ℕ
sum_scans c a b [] = 0
sum_scans c a b (t ∷ ts) = planned_cycles c a b t + sum_scans c a b ts

abbrev pub plain_of : Module → Plain
plain_of d = record { with = needed d true; without = needed d false }
