-- `wrapper_layout::laid::layout_of` meets its contract: what is held of the threaded chains, and of the lengths with cells, is what the
-- layout shows, these lengths are short, and the scan lengths are those of the rule. Assumes nothing.
use native.Mathlib.Omega.{arith}
use Prim.Native.Nat.{ℕ, ◌≤◌}
use mathlib.Core.Path.{◌≡◌, sym, ap, ◌∙◌}
use mathlib.Core.List.{List, map}
use lib.ListN.{length, take}
use Rattle.units.specs.Places.{padded}
use Rattle.soc.specs.Record.{flip_flops}
use Rattle.units.proofs.PlaceLaws.{padded-take}
use Rattle.wrapper_fit.specs.Fit.{longest, with_cells}
use Rattle.wrapper_fit.specs.Maxima.{width_max}
use Rattle.wrapper_fit.proofs.FitLaws.{cells_length, longest_cells}
use Rattle.wrapper_scans.specs.Chains.{Threaded, thread, empty, threaded}
use Rattle.wrapper_scans.specs.TestTimes.{with_bidirs, test_cycles}
use Rattle.wrapper_scans.specs.Held.{front, Measured}
use Rattle.wrapper_scans.specs.Scans.{scan_of, scan_with}
use Rattle.wrapper_scans.proofs.KeptLaws.{kept_threadable, kept_measured, threaded-short, short-scan}
use Rattle.wrapper_scans.proofs.TestTimeLaws.{scan-is, scan-time}
use Rattle.wrapper_layout.specs.LayoutAnswers.{layout_of}
use Rattle.wrapper_layout.specs.Held.{threading_of}
use Rattle.wrapper_layout.proofs.LaidLaws.{held-threaded, threaded-length, cells_held, gained-held, map-padded, padded-longest}
use Rattle.wrapper_layout.proofs.laid.layout_of.Goals as goal
use Rattle.wrapper_layout.proofs.laid.layout_of.Goals.{After-scan_at-scan, After-thread_chains-threads, After-with_cells-scan_in, After-with_cells-scan_out, After-with_cells-with_bidirs}

-- the module's chains in the wrapper
abbrev chains : After-thread_chains-threads → Threaded
chains c = threaded c.args.d c.args.t.scan_use c.args.k

held : (c : After-thread_chains-threads) → c.thread_chains-threads.result ≡ threading_of (chains c)
held c = c.thread_chains-threads.ensures
    ∙ ap (λ o. threading_of (thread (front o) (empty c.args.k))) c.order_of.ensures
    ∙ ap threading_of (held-threaded c.args.d c.args.t.scan_use c.args.k)

lengths : (c : After-thread_chains-threads) → c.thread_chains-threads.result.lengths ≡ padded width_max 0 (chains c).lengths
lengths c = ap (λ t. t.lengths) (held c)

long : (c : After-thread_chains-threads) → length (chains c).lengths ≡ c.args.k
long c = threaded-length c.args.d c.args.t.scan_use c.args.k

short : (c : After-thread_chains-threads) → longest (chains c).lengths ≤ 262144
short c = threaded-short c.args.d c.args.t.scan_use c.args.k c.requires.0

-- the longest of the first k places, where k lengths are held
front-longest : (k : ℕ) (a l : List ℕ) → a ≡ padded width_max 0 l → length l ≡ k → longest (take k a) ≡ longest l
front-longest k a l e h = ap (λ x. longest (take k x)) e ∙ ap longest (rw h at (padded-take width_max 0 l))

-- the lengths with the bidirectional cells
abbrev threads : After-with_cells-with_bidirs → After-thread_chains-threads
threads c = (goal.at.After-with_cells-with_bidirs c).After-thread_chains-threads

abbrev shared : After-with_cells-with_bidirs → List ℕ
shared c = with_bidirs c.args.d (chains (threads c))

with-bidirs : (c : After-with_cells-with_bidirs) → c.with_cells-with_bidirs.result ≡ padded width_max 0 (shared c)
with-bidirs c = let t = threads c in
    c.with_cells-with_bidirs.ensures ∙ cells_held c.args.d.bidirs c.args.k _ (chains t).lengths (lengths t) (long t)

shared_long : (c : After-with_cells-with_bidirs) → length (shared c) ≡ c.args.k
shared_long c = let t = threads c in cells_length c.args.d.bidirs (chains t).lengths ∙ long t

shared-short : (c : After-with_cells-with_bidirs) → longest (take c.args.k c.with_cells-with_bidirs.result) ≤ 270335
shared-short c = let t = threads c in
    rw (front-longest c.args.k c.with_cells-with_bidirs.result (shared c) (with-bidirs c) (shared_long c))
    (omega (arith, longest_cells c.args.d.bidirs (chains t).lengths, short t, c.requires.0.bidirs))

-- and with the input cells too, and with the output cells
scan-in : (c : After-with_cells-scan_in) →
    c.with_cells-scan_in.result ≡ padded width_max 0 (with_cells c.args.d.inputs (shared (goal.at.After-with_cells-scan_in c).After-with_cells-with_bidirs))
scan-in c = c.with_cells-scan_in.ensures ∙ cells_held c.args.d.inputs c.args.k _ (shared (goal.at.After-with_cells-scan_in c).After-with_cells-with_bidirs) (with-bidirs (goal.at.After-with_cells-scan_in c).After-with_cells-with_bidirs) (shared_long (goal.at.After-with_cells-scan_in c).After-with_cells-with_bidirs)

scan-out : (c : After-with_cells-scan_out) →
    c.with_cells-scan_out.result ≡ padded width_max 0 (with_cells c.args.d.outputs (shared (goal.at.After-with_cells-scan_out c).After-with_cells-with_bidirs))
scan-out c = c.with_cells-scan_out.ensures ∙ cells_held c.args.d.outputs c.args.k _ (shared (goal.at.After-with_cells-scan_out c).After-with_cells-with_bidirs) (with-bidirs (goal.at.After-with_cells-scan_out c).After-with_cells-with_bidirs) (shared_long (goal.at.After-with_cells-scan_out c).After-with_cells-with_bidirs)

pub thread_chains-threads-requires : goal.thread_chains-threads-requires
thread_chains-threads-requires c = (c.requires.2, c.requires.3, rw c.order_of.ensures (kept_threadable c.args.d c.args.t.scan_use c.requires.0))

pub with_cells-with_bidirs-requires : goal.with_cells-with_bidirs-requires
with_cells-with_bidirs-requires c = omega (arith, c.requires, c.requires.0.bidirs, front-longest c.args.k _ (chains (goal.at.with_cells-with_bidirs-requires c).After-thread_chains-threads).lengths (lengths (goal.at.with_cells-with_bidirs-requires c).After-thread_chains-threads) (long (goal.at.with_cells-with_bidirs-requires c).After-thread_chains-threads), short (goal.at.with_cells-with_bidirs-requires c).After-thread_chains-threads)

pub with_cells-scan_in-requires : goal.with_cells-scan_in-requires
with_cells-scan_in-requires c = omega (arith, c.requires, c.requires.0.inputs, shared-short (goal.at.with_cells-scan_in-requires c).After-with_cells-with_bidirs)

pub with_cells-scan_out-requires : goal.with_cells-scan_out-requires
with_cells-scan_out-requires c = omega (arith, c.requires, c.requires.0.outputs, shared-short (goal.at.with_cells-scan_out-requires c).After-with_cells-with_bidirs)

-- the scan lengths are those of the rule
scanned : (c : After-scan_at-scan) →
    c.scan_at-scan.result ≡ scan_with c.args.d c.args.t.scan_use c.args.k
scanned c = c.scan_at-scan.ensures ∙ ap (λ o. scan_of c.args.d o c.args.k) c.lengths_of.ensures

pub scan_at-scan-requires : goal.scan_at-scan-requires
scan_at-scan-requires c = let k : Measured c.lengths_of.result =
    rw c.lengths_of.ensures (kept_measured c.args.d c.args.t.scan_use c.requires.0)
    in
    (omega (arith, c.requires.2), omega (arith, c.requires.3), k)

pub cycles_of-cycles-requires : goal.cycles_of-cycles-requires
cycles_of-cycles-requires c = (rw (scanned c) (short-scan c.args.d c.args.t.scan_use c.args.k c.requires.0), c.requires.1, omega (arith, c.requires.4))

pub flip_flops_of-requires : goal.flip_flops_of-requires
flip_flops_of-requires c = let t = threads (goal.at.flip_flops_of-requires c).After-with_cells-with_bidirs in
    λ i. rw (lengths t) (omega (arith, padded-longest width_max (chains t).lengths i, short t))

pub returns : goal.returns
unfolding layout_of
returns c = let t = threads (goal.at.returns c).After-with_cells-with_bidirs in
    let d = c.args.d in
    let n = cells_length d.bidirs (chains t).lengths in
    let e1 = ap (λ c. c.places) (held t) in
    let e2 = c.flip_flops_of.ensures ∙ ap (map flip_flops) (lengths t) ∙ map-padded flip_flops width_max 0 (chains t).lengths in
    let e3 = c.gained_by.ensures
    ∙ gained-held _ _ _ _ (with-bidirs (goal.at.returns c).After-with_cells-with_bidirs) (scan-in (goal.at.returns c).After-with_cells-scan_in) (sym (cells_length d.inputs (shared (goal.at.returns c).After-with_cells-with_bidirs))) in
    let e4 = c.gained_by-2.ensures
    ∙ gained-held _ _ _ _ (with-bidirs (goal.at.returns c).After-with_cells-with_bidirs) (scan-out (goal.at.returns c).After-with_cells-scan_out) (sym (cells_length d.outputs (shared (goal.at.returns c).After-with_cells-with_bidirs))) in
    let e5 = c.gained_by-3.ensures ∙ gained-held _ _ _ _ (lengths t) (with-bidirs (goal.at.returns c).After-with_cells-with_bidirs) (sym n) in
    let e6 = scanned (goal.at.returns c).After-scan_at-scan ∙ scan-is d c.args.t.scan_use c.args.k in
    let e7 = c.cycles_of-cycles.ensures
    ∙ ap (λ a. test_cycles c.args.capture a.si a.so c.args.t.patterns) (scanned (goal.at.returns c).After-scan_at-scan)
    ∙ scan-time c.args.capture d c.args.k c.args.t in
    rw (e1, e2, e3, e4, e5, ap (λ a. a.si) e6, ap (λ a. a.so) e6, e7)
