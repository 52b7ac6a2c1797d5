-- The scan lengths of a module and the time of a test (document 01, "The wrapper rule"; document 02, items 2 and 5). "Every time, plan and
-- bound reads with c", the capture cycles.
use Rattle.std.specs.Prelude.{ℕ, ◌+◌, ◌*◌, min, max, Bool, List}
use Rattle.soc.specs.declared.record.Test.{Test}
use Rattle.soc.specs.declared.record.Module.{Module}
use Rattle.wrapper_fit.specs.Fit.{with_cells, longest_after}
use Rattle.wrapper_scans.specs.Chains.{Threaded, threaded}

-- "bidirectional cells are placed by the wrapper rule right after the internal chains, as elements of length 1, and count in both scan-in
-- and scan-out of that chain"
abbrev pub with_bidirs : Module → Threaded → List ℕ
with_bidirs d t = with_cells d.bidirs t.lengths

-- "longest scan-in si and longest scan-out so": "input cells and output cells then start from these lengths"
unfoldable pub scan_in : Module → Bool → ℕ → ℕ
scan_in d scan k = longest_after d.inputs (with_bidirs d (threaded d scan k))

unfoldable pub scan_out : Module → Bool → ℕ → ℕ
scan_out d scan k = longest_after d.outputs (with_bidirs d (threaded d scan k))

-- "The time of a test becomes (c + max(si, so)) × p + min(si, so), with c from 1 to 4"
unfoldable pub test_cycles : ℕ → ℕ → ℕ → ℕ → ℕ
test_cycles c si so p = (c + max si so) * p + min si so

unfoldable pub test_time : ℕ → Module → ℕ → Test → ℕ
test_time c d k t = test_cycles c (scan_in d t.scan_use k) (scan_out d t.scan_use k) t.patterns
