-- Laws of capture cycles (document 02, item 5): with one capture cycle every time and every refusal is document 01's; one more adds a
-- cycle for each pattern and leaves the layout as it is; no time falls as they become more. Assumes nothing.
use Prim.Native.Nat.{ℕ, ◌+◌, ◌*◌, ◌≤◌, min, max}
use mathlib.Core.Path.{◌≡◌, refl, ◌∙◌}
use mathlib.Core.Bool.{Bool, true, false, cond, ◌&&◌}
use mathlib.Core.List.{List, [], ◌∷◌}
use native.Mathlib.Omega.{arith}
use native.Mathlib.Nat.{add-mul, one-mul, mul-le-mul_right}
use lib.Dec.{leb, ltb}
use Rattle.std.specs.Prelude.{Ok}
use Rattle.units.specs.declared.Fault.{Fault}
use Rattle.units.specs.declared.Fault.TheVariants.{Width, NotThere, BadSoc}
use Rattle.soc.specs.Record.{tests_of}
use Rattle.soc.specs.Rules.{good_soc}
use Rattle.soc.specs.declared.record.Test.{Test}
use Rattle.soc.specs.declared.record.Module.{Module}
use Rattle.soc.specs.declared.record.Soc.{Soc}
use Rattle.wrapper_fit.specs.Maxima.{width_max}
use Rattle.wrapper_scans.specs.TestTimes.{scan_in, scan_out, test_cycles, test_time}
use Rattle.wrapper_scans.specs.Asked.{module_at, asked_module}
use Rattle.wrapper_times.specs.Times.{sum_times, figure, module_best}
use Rattle.wrapper_times.specs.TimeAnswers.{module_time_answer}
use Rattle.wrapper_times.specs.declared.asked.ModuleTime.{ModuleTime}
use Rattle.wrapper_times.proofs.BestLaws.{time-at, time-wires, time-least}
use Rattle.wrapper_layout.specs.LayoutAnswers.{layout_of, layout_answer}
use Rattle.wrapper_layout.specs.Laid.{test_at}
use Rattle.wrapper_layout.specs.declared.laid.WrapperLayout.{WrapperLayout}
use Rattle.wrapper.proofs.WrapperAnswerLaws.{laid_out, timed}

-- with one capture cycle, "a test of p patterns takes (1 + max(si, so)) × p + min(si, so) cycles"
pub one-capture : (si so p : ℕ) → test_cycles 1 si so p ≡ (1 + max si so) * p + min si so
unfolding test_cycles
one-capture si so p = refl

-- and "Layout and time: 14, 7, 13."
pub one-capture-asked : {A : Type 0} (s : Soc) (m w : ℕ) (f : Fault → A) (g : Module → A) →
    let there = cond (ltb m s.module_count) (g (module_at s m)) (f NotThere) in
    asked_module s m w 1 f g ≡ cond (good_soc s) (cond (leb 1 w && leb w width_max) there (f Width)) (f BadSoc)
unfolding asked_module
one-capture-asked s m w f g = refl

-- one capture cycle more adds a cycle for each pattern
cycles-more : (c si so p : ℕ) → test_cycles (c + 1) si so p ≡ test_cycles c si so p + p
unfolding test_cycles
cycles-more c si so p =
    let e : c + 1 + max si so ≡ c + max si so + 1 = omega arith in
    let f : (c + 1 + max si so) * p ≡ (c + max si so) * p + p = rw e (add-mul (c + max si so) 1 p ∙ rw (one-mul p)) in
    omega arith

pub test-time-more : (c : ℕ) (d : Module) (k : ℕ) (t : Test) → test_time (c + 1) d k t ≡ test_time c d k t + t.patterns
unfolding test_time
test-time-more c d k t = cycles-more c (scan_in d t.scan_use k) (scan_out d t.scan_use k) t.patterns

-- no time falls as the capture cycles become more: of a test,
cycles_rise : (c e si so p : ℕ) → c ≤ e → test_cycles c si so p ≤ test_cycles e si so p
unfolding test_cycles
cycles_rise c e si so p h =
    let l : (c + max si so) * p ≤ (e + max si so) * p = mul-le-mul_right p (omega arith) in
    omega arith

module _ {c e : ℕ} (h : c ≤ e) (d : Module) where
  pub test-time_rises : (k : ℕ) (t : Test) → test_time c d k t ≤ test_time e d k t
  unfolding test_time
  test-time_rises k t = cycles_rise c e (scan_in d t.scan_use k) (scan_out d t.scan_use k) t.patterns h

  sum_rises : (k : ℕ) (ts : List Test) → sum_times c d k ts ≤ sum_times e d k ts
  unfolding sum_times
  sum_rises k [] = omega arith
  sum_rises k (t ∷ ts) = go t.tam_use (test-time_rises k t) (sum_rises k ts)
    where
      go : (b : Bool) → test_time c d k t ≤ test_time e d k t → sum_times c d k ts ≤ sum_times e d k ts
          → cond b (test_time c d k t + sum_times c d k ts) (sum_times c d k ts)
          ≤ cond b (test_time e d k t + sum_times e d k ts) (sum_times e d k ts)
      go true l m = omega arith
      go false l m = m

  -- of a module at one width,
  pub figure_rises : (k : ℕ) → figure c d k ≤ figure e d k
  unfolding figure
  figure_rises k = sum_rises k (tests_of d)

  -- and of a module on a bus of width w
  pub time_rises : (w : ℕ) → 1 ≤ w → (module_best c d w).cycles ≤ (module_best e d w).cycles
  time_rises w l =
      let u = (module_best e d w).wires in
      let b = time-wires e d w l in
      rw (← time-at e d w l) (omega (arith, time-least c d w l u b.0 b.1, figure_rises u))

-- of the answers that are not refused: all but the cycles is the same at each number of capture cycles,
pub answer_layout_same : (s : Soc) (m i w c e : ℕ) (a b : WrapperLayout) → layout_answer s m i w c ≡ Ok a → layout_answer s m i w e ≡ Ok b
    → b
    ≡ record {
      flip_flops = a.flip_flops;
      input_cells = a.input_cells;
      output_cells = a.output_cells;
      bidir_cells = a.bidir_cells;
      chain_of = a.chain_of;
      si = a.si;
      so = a.so;
      cycles = b.cycles;
    }
unfolding layout_of
answer_layout_same s m i w c e a b h k = rw ((laid_out s m i w c a h).is, (laid_out s m i w e b k).is)

-- a test with that layout takes its patterns more with one capture cycle more,
pub answer-capture-more : (s : Soc) (m i w c : ℕ) (a b : WrapperLayout) → layout_answer s m i w c ≡ Ok a
    → layout_answer s m i w (c + 1) ≡ Ok b → b.cycles.0 ≡ a.cycles.0 + (test_at (module_at s m) i).patterns
unfolding layout_of
answer-capture-more s m i w c a b h k =
    rw ((laid_out s m i w c a h).is, (laid_out s m i w (c + 1) b k).is) (test-time-more c (module_at s m) w (test_at (module_at s m) i))

-- and no time falls
module _ (s : Soc) (m : ℕ) {c e : ℕ} (l : c ≤ e) where
  pub answer-test_rises : (i w : ℕ) (a b : WrapperLayout) → layout_answer s m i w c ≡ Ok a → layout_answer s m i w e ≡ Ok b
      → a.cycles.0 ≤ b.cycles.0
  unfolding layout_of
  answer-test_rises i w a b h k =
      rw ((laid_out s m i w c a h).is, (laid_out s m i w e b k).is) (test-time_rises l (module_at s m) w (test_at (module_at s m) i))

  pub answer-time_rises : (w : ℕ) (a b : ModuleTime) → module_time_answer s m w c ≡ Ok a → module_time_answer s m w e ≡ Ok b
      → a.cycles.0 ≤ b.cycles.0
  answer-time_rises w a b h k =
      let t = timed s m w c a h in
      rw (t.is, (timed s m w e b k).is) (time_rises l (module_at s m) w t.asked.low)
