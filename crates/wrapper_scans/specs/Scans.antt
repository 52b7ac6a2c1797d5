-- How scan lengths are computed, and what keeps the sums in range.
use Rattle.std.specs.Prelude.{ℕ, ◌+◌, ◌≤◌, Bool, get_or, replicate}
use Rattle.soc.specs.Limits.{terminals_max, chains_max, length_max, tests_max, patterns_max}
use Rattle.soc.specs.Record.{flip_flops, no_test}
use Rattle.soc.specs.declared.record.Module.{Module}
use Rattle.wrapper_fit.specs.Fit.{longest_after}
use Rattle.wrapper_fit.specs.Elements.{with_chains}
use Rattle.wrapper_scans.specs.Chains.{used_chains}
use Rattle.wrapper_scans.specs.Held.{chain_lengths, front_lengths}
use Rattle.wrapper_scans.specs.declared.chains.ChainLengths.{ChainLengths}
use Rattle.wrapper_scans.specs.declared.scans.Scan.{Scan}

-- how many cells count in scan-in, and how many in scan-out: where only the longest is wanted, they are placed at once (`cells_twice`)
abbrev pub cells_in : Module → ℕ
cells_in d = d.inputs + d.bidirs

abbrev pub cells_out : Module → ℕ
cells_out d = d.outputs + d.bidirs

-- the scan lengths of a module at width k, with chains of these lengths
unfoldable pub scan_of : Module → ChainLengths → ℕ → Scan
scan_of d c k =
    record {
      si = longest_after (cells_in d) (with_chains (front_lengths c) (replicate k 0));
      so = longest_after (cells_out d) (with_chains (front_lengths c) (replicate k 0));
    }

-- with the chains that a test uses
abbrev pub scan_with : Module → Bool → ℕ → Scan
scan_with d scan k = scan_of d (chain_lengths (used_chains d scan)) k

-- 64 chains of 4,096 flip-flops and two times 8,191 cells
pub record Short (s : Scan) : Type 0 where
  pub si : s.si ≤ 278526
  pub so : s.so ≤ 278526

-- a module's figures within the limits of the text
pub record Kept (d : Module) : Type 0 where
  pub chains : d.chain_count ≤ chains_max
  pub lengths : (i : ℕ) → (get_or d.chains i (flip_flops 0)).0 ≤ length_max
  pub tests : d.test_count ≤ tests_max
  pub patterns : (i : ℕ) → (get_or d.tests i no_test).patterns ≤ patterns_max
  pub inputs : d.inputs ≤ terminals_max
  pub outputs : d.outputs ≤ terminals_max
  pub bidirs : d.bidirs ≤ terminals_max
