-- What document 01 demands of a layout and of a module's time ("The wrapper rule"), and document 02 of bidirectional cells (item 2) and of
-- a layout's si, so and cycles (item 8), of the answers themselves where nothing is refused.
-- Assumes nothing.
use Prim.Native.Nat.{ℕ, suc, ◌-◌, ◌≤◌, ◌<◌}
use mathlib.Core.Path.{◌≡◌, refl}
use mathlib.Core.Bool.{Bool, true, false, cond, ◌&&◌}
use native.Mathlib.Omega.{arith}
use borrow.Author.Tests.{leb-true, ltb-true}
use lib.Dec.{leb, ltb}
use lib.ListN.{length, get_or}
use Rattle.std.specs.Prelude.{Result, Ok, Err, MatchResult}
use Rattle.units.specs.Places.{padded}
use Rattle.units.specs.Refusals.{number_of}
use Rattle.units.specs.declared.Fault.TheVariants.{Width, NotThere, BadSoc, Capture}
use Rattle.units.specs.declared.Refusal.{Refusal}
use Rattle.units.proofs.TestLaws.{clash, and_both}
use Rattle.soc.specs.Limits.{chains_max}
use Rattle.soc.specs.Record.{chains_of, flip_flops}
use Rattle.soc.specs.Rules.{good_soc}
use Rattle.soc.specs.Sized.{Sized}
use Rattle.soc.specs.declared.record.Soc.{Soc}
use Rattle.wrapper_fit.specs.Fit.{longest, total, with_cells}
use Rattle.wrapper_fit.specs.Maxima.{test_time_max, module_time_max, width_max, capture_max}
use Rattle.wrapper_scans.specs.Chains.{threaded}
use Rattle.wrapper_scans.specs.TestTimes.{with_bidirs, test_cycles, test_time}
use Rattle.wrapper_scans.specs.Asked.{module_at, asked_module, refused_here}
use Rattle.wrapper_scans.proofs.KeptLaws.{good-kept, good-count}
use Rattle.wrapper_scans.proofs.TestTimeLaws.{test-most}
use Rattle.wrapper_times.specs.Times.{figure, module_best}
use Rattle.wrapper_times.specs.TimeAnswers.{module_time_of, module_time_answer}
use Rattle.wrapper_times.specs.declared.asked.ModuleTime.{ModuleTime}
use Rattle.wrapper_times.proofs.BestLaws.{time-at, time-wires, time-least, time-first}
use Rattle.wrapper_times.proofs.PromisedTimes.{time-most}
use Rattle.wrapper_layout.specs.LayoutAnswers.{asked_test, layout_of, layout_answer}
use Rattle.wrapper_layout.specs.Laid.{test_at, lengths_in, scan_ins, scan_outs}
use Rattle.wrapper_layout.specs.declared.laid.WrapperLayout.{WrapperLayout}
use Rattle.wrapper_layout.proofs.LayoutLaws.{in_one_chain, in_no_chain, unused, layout_flip_flops, input_cells_sum, output_cells_sum}
use Rattle.wrapper_layout.proofs.LayoutLaws.{bidir_cells_sum, layout_scan_ins, layout_scan_outs, scan_in-is, scan_out-is}

-- what was asked for is there
pub record Asked (s : Soc) (m w c : ℕ) : Type 0 where
  pub good : good_soc s ≡ true
  pub low : 1 ≤ w
  pub high : w ≤ width_max
  pub first : 1 ≤ c
  pub last : c ≤ capture_max
  pub there : m < s.module_count

asked_is : (s : Soc) (m w c : ℕ) → good_soc s ≡ true → (leb 1 w && leb w width_max) ≡ true → (leb 1 c && leb c capture_max) ≡ true
    → ltb m s.module_count ≡ true → Asked s m w c
asked_is s m w c a b e f =
    let v = and_both (leb 1 w) (leb w width_max) b in
    let o = and_both (leb 1 c) (leb c capture_max) e in
    record {
      good = a;
      low = leb-true 1 w v.0;
      high = leb-true w width_max v.1;
      first = leb-true 1 c o.0;
      last = leb-true c capture_max o.1;
      there = ltb-true m s.module_count f;
    }

-- what is answered, by the tests in their order
abbrev answered : {A : Type 0} → Result A Refusal → Bool → Bool → Bool → Bool → Bool → Result A Refusal
answered f x y v z t =
    cond x
    (cond y (cond v (cond z (cond t f (refused_here NotThere)) (refused_here NotThere)) (refused_here Capture)) (refused_here Width))
    (refused_here BadSoc)

-- the layout that is answered
module _ (s : Soc) (m i w c : ℕ) where
  pub record LaidOut (a : WrapperLayout) : Type 0 where
    pub asked : Asked s m w c
    pub is : a ≡ layout_of c (module_at s m) w (test_at (module_at s m) i)

  pub laid_out : (a : WrapperLayout) → layout_answer s m i w c ≡ Ok a → LaidOut a
  unfolding layout_answer asked_module asked_test
  laid_out a h =
      go (good_soc s) (leb 1 w && leb w width_max) (leb 1 c && leb c capture_max) (ltb m s.module_count)
      (leb 1 i && leb i (module_at s m).test_count)
      refl refl refl refl h
    where
      found : WrapperLayout
      found = layout_of c (module_at s m) w (test_at (module_at s m) i)

      go : (x y v z t : Bool) → good_soc s ≡ x → (leb 1 w && leb w width_max) ≡ y → (leb 1 c && leb c capture_max) ≡ v
          → ltb m s.module_count ≡ z
          → answered (Ok found) x y v z t ≡ Ok a → LaidOut a
      go true true true true true p q r f h = let k : a ≡ found = cc in record { asked = asked_is s m w c p q r f; is = k }
      go true true true true false p q r f h = clash cc
      go true true true false t p q r f h = clash cc
      go true true false z t p q r f h = clash cc
      go true false v z t p q r f h = clash cc
      go false y v z t p q r f h = clash cc

module _ (s : Soc) (m i w c : ℕ) {l : WrapperLayout} (h : layout_answer s m i w c ≡ Ok l) where
  told : LaidOut s m i w c l
  told = laid_out s m i w c l h

  -- each input, output and bidirectional cell lies in exactly one wrapper chain: the counts over all chains are inputs, outputs and bidirs
  pub answer_input_cells : total l.input_cells ≡ (module_at s m).inputs
  answer_input_cells = rw told.is (input_cells_sum c (module_at s m) w (test_at (module_at s m) i) told.asked.low)

  pub answer_output_cells : total l.output_cells ≡ (module_at s m).outputs
  answer_output_cells = rw told.is (output_cells_sum c (module_at s m) w (test_at (module_at s m) i) told.asked.low)

  pub answer_bidir_cells : total l.bidir_cells ≡ (module_at s m).bidirs
  answer_bidir_cells = rw told.is (bidir_cells_sum c (module_at s m) w (test_at (module_at s m) i) told.asked.low)

  -- the scan-in of each wrapper chain is its flip-flops, bidirectional cells and input cells, its scan-out likewise with output cells
  pub answer-scan-ins :
      let d = module_at s m in
      scan_ins l ≡ padded width_max 0 (with_cells d.inputs (with_bidirs d (threaded d (test_at d i).scan_use w)))
  answer-scan-ins = rw told.is (layout_scan_ins c (module_at s m) w (test_at (module_at s m) i))

  pub answer-scan-outs :
      let d = module_at s m in
      scan_outs l ≡ padded width_max 0 (with_cells d.outputs (with_bidirs d (threaded d (test_at d i).scan_use w)))
  answer-scan-outs = rw told.is (layout_scan_outs c (module_at s m) w (test_at (module_at s m) i))

  -- "longest scan-in si and longest scan-out so": the longest of these
  pub layout_scans : (l.si ≡ longest (scan_ins l)) × (l.so ≡ longest (scan_outs l))
  unfolding layout_of
  layout_scans =
      let d = module_at s m in
      rw told.is (scan_in-is c d w (test_at d i), scan_out-is c d w (test_at d i))

  -- "(c + max(si, so)) × p + min(si, so)": the cycles are what the formula gives for that si, that so and the test's patterns
  pub layout_cycles : l.cycles.0 ≡ test_cycles c l.si l.so (test_at (module_at s m) i).patterns
  unfolding layout_of test_time
  layout_cycles = rw told.is

  -- entries past the chains, and those of internal chains that the test does not use, are 0
  pub answer_unused : (test_at (module_at s m) i).scan_use ≡ false → (j : ℕ) → get_or l.chain_of j 0 ≡ 0
  unfolding layout_of
  answer_unused u j = rw (told.is, u) (unused (module_at s m) w j)

  module _ (used : (test_at (module_at s m) i).scan_use ≡ true) where
    pub answer-past : (j : ℕ) → (module_at s m).chain_count ≤ j → get_or l.chain_of j 0 ≡ 0
    unfolding layout_of
    answer-past j k = rw (told.is, used) (in_no_chain (module_at s m) w j k)

  module _ (sized : Sized s) where
    chains-sized : length (module_at s m).chains ≡ chains_max
    chains-sized = (sized.each m (omega (arith, told.asked.there, good-count s told.asked.good))).chains

    -- "Every internal chain that the test uses lies in exactly one wrapper chain from 1 to k"
    pub answer_used : (test_at (module_at s m) i).scan_use ≡ true → (j : ℕ) → j < (module_at s m).chain_count
        → (1 ≤ get_or l.chain_of j 0) × (get_or l.chain_of j 0 ≤ w)
    unfolding layout_of
    answer_used u j k =
        rw (told.is, u)
        (in_one_chain (module_at s m) chains-sized (good-kept s m told.asked.good told.asked.there).chains w told.asked.low j k)

    -- "flip-flops of a wrapper chain are the sum of its internal chains"
    pub answer_flip_flops : (j : ℕ)
        → get_or l.flip_flops j (flip_flops 0)
        ≡ flip_flops (lengths_in (suc j) l.chain_of (chains_of (module_at s m)))
    answer_flip_flops j =
        rw told.is (layout_flip_flops c (module_at s m) chains-sized w (test_at (module_at s m) i) told.asked.low j)

-- the time that is answered
module _ (s : Soc) (m w c : ℕ) where
  pub record Timed (a : ModuleTime) : Type 0 where
    pub asked : Asked s m w c
    pub is : a ≡ module_time_of (module_best c (module_at s m) w)

  pub timed : (a : ModuleTime) → module_time_answer s m w c ≡ Ok a → Timed a
  unfolding module_time_answer asked_module
  timed a h = go (good_soc s) (leb 1 w && leb w width_max) (leb 1 c && leb c capture_max) (ltb m s.module_count) refl refl refl refl h
    where
      found : ModuleTime
      found = module_time_of (module_best c (module_at s m) w)

      go : (x y v z : Bool) → good_soc s ≡ x → (leb 1 w && leb w width_max) ≡ y → (leb 1 c && leb c capture_max) ≡ v
          → ltb m s.module_count ≡ z
          → answered (Ok found) x y v z true ≡ Ok a → Timed a
      go true true true true p q r f h = let k : a ≡ found = cc in record { asked = asked_is s m w c p q r f; is = k }
      go true true true false p q r f h = clash cc
      go true true false z p q r f h = clash cc
      go true false v z p q r f h = clash cc
      go false y v z p q r f h = clash cc

-- "Its time on a bus of width w is the least figure over u = 1 to w, and its wires the smallest such u."
module _ (s : Soc) (m w c : ℕ) {a : ModuleTime} (h : module_time_answer s m w c ≡ Ok a) where
  at_width : Timed s m w c a
  at_width = timed s m w c a h

  pub answer-figure : figure c (module_at s m) a.wires.0 ≡ a.cycles.0
  answer-figure = rw at_width.is (time-at c (module_at s m) w at_width.asked.low)

  pub answer-wires : (1 ≤ a.wires.0) × (a.wires.0 ≤ w)
  answer-wires = rw at_width.is (time-wires c (module_at s m) w at_width.asked.low)

  pub answer-least : (u : ℕ) → 1 ≤ u → u ≤ w → a.cycles.0 ≤ figure c (module_at s m) u
  answer-least u k l = rw at_width.is (time-least c (module_at s m) w at_width.asked.low u k l)

  pub answer-smallest : (u : ℕ) → 1 ≤ u → u < a.wires.0 → a.cycles.0 < figure c (module_at s m) u
  answer-smallest u k l = rw at_width.is (time-first c (module_at s m) w at_width.asked.low u k (rw at_width.is at l))

-- a refusal has a number of at most 16 and no line, and a time keeps its maximum
abbrev pub Told : {A : Type 0} → (A → Type 0) → Result A Refusal → Type 0
Told P a = MatchResult a P (λ r. (number_of r.fault ≤ 16) × (r.line ≡ 0))

module _ (s : Soc) (m i w c : ℕ) where
  pub layout_told : Told (λ l. l.cycles.0 ≤ test_time_max) (layout_answer s m i w c)
  unfolding layout_answer asked_module asked_test layout_of
  layout_told =
      go (good_soc s) (leb 1 w && leb w width_max) (leb 1 c && leb c capture_max) (ltb m s.module_count)
      (leb 1 i && leb i (module_at s m).test_count) refl refl refl
    where
      go : (x y v z t : Bool) → good_soc s ≡ x → (leb 1 c && leb c capture_max) ≡ v → ltb m s.module_count ≡ z
          → Told (λ l. l.cycles.0 ≤ test_time_max) (answered (Ok (layout_of c (module_at s m) w (test_at (module_at s m) i))) x y v z t)
      go true true true true true a e b =
          let k = good-kept s m a (ltb-true m s.module_count b) in
          let l = leb-true c capture_max (and_both (leb 1 c) (leb c capture_max) e).1 in
          test-most c (module_at s m) w (test_at (module_at s m) i) l k (k.patterns (i - 1))
      go true true true true false a e b = (omega arith, refl)
      go true true true false t a e b = (omega arith, refl)
      go true true false z t a e b = (omega arith, refl)
      go true false v z t a e b = (omega arith, refl)
      go false y v z t a e b = (omega arith, refl)

module _ (s : Soc) (m w c : ℕ) where
  pub module_time_told : Told (λ a. (a.cycles.0 ≤ module_time_max) × (a.wires.0 ≤ width_max)) (module_time_answer s m w c)
  unfolding module_time_answer asked_module
  module_time_told =
      go (good_soc s) (leb 1 w && leb w width_max) (leb 1 c && leb c capture_max) (ltb m s.module_count) refl refl refl refl
    where
      go : (x y v z : Bool) → good_soc s ≡ x → (leb 1 w && leb w width_max) ≡ y → (leb 1 c && leb c capture_max) ≡ v
          → ltb m s.module_count ≡ z
          → Told (λ a. (a.cycles.0 ≤ module_time_max) × (a.wires.0 ≤ width_max))
          (answered (Ok (module_time_of (module_best c (module_at s m) w))) x y v z true)
      go true true true true a b e f =
          let l = leb-true 1 w (and_both (leb 1 w) (leb w width_max) b).0 in
          let n = leb-true w width_max (and_both (leb 1 w) (leb w width_max) b).1 in
          let o = and_both (leb 1 c) (leb c capture_max) e in
          let k = time-most c (leb-true 1 c o.0) (leb-true c capture_max o.1) s m a (ltb-true m s.module_count f) w l in
          (k, omega (arith, (time-wires c (module_at s m) w l).1))
      go true true true false a b e f = (omega arith, refl)
      go true true false z a b e f = (omega arith, refl)
      go true false v z a b e f = (omega arith, refl)
      go false y v z a b e f = (omega arith, refl)
