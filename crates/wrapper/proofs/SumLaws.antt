-- What a client adds up from layouts is what the planner used (document 02, item 8): a module's figure at a width is the sum of the cycles
-- of the layouts that are answered for its tests with TamUse 1 at that width, and so its time is that sum at its wires. Assumes nothing.
use Prim.Native.Nat.{ℕ, suc, ◌+◌, ◌-◌, ◌≤◌, ◌<◌}
use mathlib.Core.Path.{◌≡◌, refl, sym, ap, ◌∙◌}
use mathlib.Core.Bool.{true}
use mathlib.Core.List.{List, [], ◌∷◌}
use native.Mathlib.Omega.{arith}
use borrow.Author.Tests.{le-leb, lt-ltb}
use lib.ListN.{length, get_or, length-take}
use lib.Seq.{get_or-take}
use Rattle.std.specs.Prelude.{Ok}
use Rattle.soc.specs.Record.{no_test, tests_of}
use Rattle.soc.specs.Rules.{good_soc}
use Rattle.soc.specs.declared.record.Test.{Test}
use Rattle.soc.specs.declared.record.Soc.{Soc}
use Rattle.wrapper_fit.specs.Maxima.{width_max, capture_max}
use Rattle.wrapper_scans.specs.TestTimes.{test_time}
use Rattle.wrapper_scans.specs.Asked.{module_at, asked_module}
use Rattle.wrapper_times.specs.Times.{sum_times, figure}
use Rattle.wrapper_times.specs.TimeAnswers.{module_time_answer}
use Rattle.wrapper_times.specs.declared.asked.ModuleTime.{ModuleTime}
use Rattle.wrapper_layout.specs.LayoutAnswers.{asked_test, layout_of, layout_answer}
use Rattle.wrapper_layout.specs.Laid.{test_at, answered_cycles, layouts_from, layouts_cycles}
use Rattle.wrapper.proofs.WrapperAnswerLaws.{Asked, timed, answer-figure, answer-wires}

-- at width u, where nothing is refused
module _ (s : Soc) (m u c : ℕ) (good : good_soc s ≡ true) (low : 1 ≤ u) (high : u ≤ width_max) (first : 1 ≤ c) (last : c ≤ capture_max)
    (there : m < s.module_count) where
  -- each test of the module has a layout
  pub layout_is : (i : ℕ) → 1 ≤ i → i ≤ (module_at s m).test_count
      → layout_answer s m i u c ≡ Ok (layout_of c (module_at s m) u (test_at (module_at s m) i))
  unfolding layout_answer asked_module asked_test
  layout_is i h k =
      rw (
        good,
        le-leb 1 u low,
        le-leb u width_max high,
        le-leb 1 c first,
        le-leb c capture_max last,
        lt-ltb m s.module_count there,
        le-leb 1 i h,
        le-leb i (module_at s m).test_count k,
      )

  -- the tests from number i on
  from-sum : (i : ℕ) (ts : List Test)
      → ((j : ℕ) → j < length ts → answered_cycles (layout_answer s m (i + j) u c) ≡ test_time c (module_at s m) u (get_or ts j no_test))
      → layouts_from s m u c i ts ≡ sum_times c (module_at s m) u ts
  unfolding layouts_from sum_times
  from-sum i [] h = refl
  from-sum i (t ∷ ts) h =
      let e : i + 0 ≡ i = omega arith in
      let here : answered_cycles (layout_answer s m i u c) ≡ test_time c (module_at s m) u t = rw e at (h 0 (omega arith)) in
      let rest = from-sum (suc i) ts λ j k. let f : suc i + j ≡ i + suc j = omega arith in rw f (h (suc j) (omega arith)) in
      rw (here, rest)

  timed_test : (j : ℕ) → j < length (tests_of (module_at s m))
      → answered_cycles (layout_answer s m (1 + j) u c) ≡ test_time c (module_at s m) u (get_or (tests_of (module_at s m)) j no_test)
  unfolding layout_of
  timed_test j h =
      let d = module_at s m in
      let n : j < d.test_count = omega (arith, length-take d.test_count d.tests) in
      let e : 1 + j - 1 ≡ j = omega arith in
      ap answered_cycles (layout_is (1 + j) (omega arith) (omega arith))
      ∙ rw (e, get_or-take d.test_count d.tests j no_test n)

  -- "A module's figure at width u is the sum over its tests with TamUse 1": of what is answered for each
  pub layouts_figure : layouts_cycles s m u c ≡ figure c (module_at s m) u
  unfolding layouts_cycles figure
  layouts_figure = from-sum 1 (tests_of (module_at s m)) timed_test

-- of a module's time that is answered, whose wires name the width
module _ (s : Soc) (m w c : ℕ) {a : ModuleTime} (h : module_time_answer s m w c ≡ Ok a) where
  asked : Asked s m w c
  asked = (timed s m w c a h).asked

  narrow : a.wires.0 ≤ width_max
  narrow = omega (arith, asked.high, (answer-wires s m w c h).1)

  pub module_sum : a.cycles.0 ≡ layouts_cycles s m a.wires.0 c
  module_sum =
      sym (layouts_figure s m a.wires.0 c asked.good (answer-wires s m w c h).0 narrow asked.first asked.last asked.there
      ∙ answer-figure s m w c h)

  -- and each of its tests has a layout there
  pub wires-laid : (i : ℕ) → 1 ≤ i → i ≤ (module_at s m).test_count
      → layout_answer s m i a.wires.0 c ≡ Ok (layout_of c (module_at s m) a.wires.0 (test_at (module_at s m) i))
  wires-laid i k l =
      layout_is s m a.wires.0 c asked.good (answer-wires s m w c h).0 narrow asked.first asked.last asked.there i k l
