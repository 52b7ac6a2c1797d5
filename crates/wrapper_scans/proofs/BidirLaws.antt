-- Laws of bidirectional cells (document 02, item 2): cells placed first and others after them are placed like all of them at once, so each
-- test's time at each width is what it was where a bidirectional terminal counted as one input cell and one output cell. Assumes nothing.
use Prim.Native.Nat.{ℕ, zero, suc, ◌+◌}
use mathlib.Core.Path.{◌≡◌, ap}
use mathlib.Core.Bool.{Bool}
use mathlib.Core.List.{List}
use native.Mathlib.Omega.{arith}
use Rattle.soc.specs.declared.record.Test.{Test}
use Rattle.soc.specs.declared.record.Module.{Module}
use Rattle.wrapper_fit.specs.Fit.{longest, placed, with_cells, longest_after}
use Rattle.wrapper_scans.specs.Chains.{threaded}
use Rattle.wrapper_scans.specs.TestTimes.{scan_in, scan_out, test_cycles, test_time}

-- b cells and then n are n + b cells
pub cells_twice : (b n : ℕ) (l : List ℕ) → with_cells n (with_cells b l) ≡ with_cells (n + b) l
unfolding with_cells
cells_twice zero n l = let e : n + 0 ≡ n = omega arith in rw e
cells_twice (suc b) n l = let e : n + suc b ≡ suc (n + b) = omega arith in rw e (cells_twice b n (placed 1 l))

longest-twice : (b n : ℕ) (l : List ℕ) → longest_after n (with_cells b l) ≡ longest_after (n + b) l
unfolding longest_after
longest-twice b n l = ap longest (cells_twice b n l)

-- the scan lengths, where the bidirectional cells are counted among the input cells and among the output cells
module _ (d : Module) (scan : Bool) (k : ℕ) where
  pub scan_in-counted : scan_in d scan k ≡ longest_after (d.inputs + d.bidirs) (threaded d scan k).lengths
  unfolding scan_in
  scan_in-counted = longest-twice d.bidirs d.inputs (threaded d scan k).lengths

  pub scan_out-counted : scan_out d scan k ≡ longest_after (d.outputs + d.bidirs) (threaded d scan k).lengths
  unfolding scan_out
  scan_out-counted = longest-twice d.bidirs d.outputs (threaded d scan k).lengths

-- no time changes: of every module, test and width
pub test-time-counted : (c : ℕ) (d : Module) (k : ℕ) (t : Test) →
    let l = (threaded d t.scan_use k).lengths in
    test_time c d k t ≡ test_cycles c (longest_after (d.inputs + d.bidirs) l) (longest_after (d.outputs + d.bidirs) l) t.patterns
unfolding test_time
test-time-counted c d k t = rw (scan_in-counted d t.scan_use k, scan_out-counted d t.scan_use k)
