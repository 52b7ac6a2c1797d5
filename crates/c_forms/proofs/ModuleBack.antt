-- Laws of a module read back where its bytes stand: its tests, the lengths of its chains, and then all of it. Assumes nothing.
use Prim.Native.Nat.{ℕ, ◌+◌, ◌*◌}
use mathlib.Core.Path.{◌≡◌, refl}
use mathlib.Core.Bool.{true}
use mathlib.Core.List.{List, ◌++◌, append_assoc}
use native.Mathlib.Omega.{arith}
use Rattle.units.specs.declared.FlipFlops.{FlipFlops}
use Rattle.little_endian.specs.Rows.{each, rows}
use Rattle.little_endian.proofs.StandLaws.{Stands, stands_first, stands_behind, number_stands, rows_stand, all_stand}
use Rattle.soc.specs.Limits.{chains_max, tests_max}
use Rattle.soc.specs.Record.{flip_flops, no_test}
use Rattle.soc.specs.Sized.{SizedModule}
use Rattle.soc.specs.declared.record.Test.{Test}
use Rattle.soc.specs.declared.record.Module.{Module}
use Rattle.c_forms.specs.Words.{word_length, words}
use Rattle.c_forms.specs.SocForm.{test_length, chains_from, position_from, tests_from, test_words, test_bytes, test_at}
use Rattle.c_forms.specs.SocForm.{length_bytes, length_at, shape_words, position_words, module_bytes, module_at, flags_at, module_flags}
use Rattle.c_forms.specs.Fit.{FitTest, FitLength, FitModule}
use Rattle.c_forms.proofs.WordLaws.{words_stand, words-behind}
use Rattle.c_forms.proofs.LengthLaws.{test-length, chain_length_lem, chains-length}
use Rattle.c_forms.proofs.SignedLaws.{word_below, flag_back, flag_small, flag-fits, signed_back}

module _ {b : List ℕ} (t : Test) (at : ℕ) (f : FitTest t) (s : Stands (test_bytes t) b at) where
  test_back : test_at b at ≡ t
  unfolding test_bytes
  test_back =
      let v = test_words t in
      rw (
        words_stand v 0 (omega arith) (flag-fits t.scan_use) s,
        words_stand v 1 (omega arith) (flag-fits t.tam_use) s,
        words_stand v 2 (omega arith) f.patterns s,
        words_stand v 3 (omega arith) (word_below t.power f.power) s,
        flag_back t.scan_use,
        flag_back t.tam_use,
        signed_back t.power f.power,
      )

  test_flags : flags_at b at ≡ true
  unfolding test_bytes
  test_flags =
      let v = test_words t in
      rw (
        words_stand v 0 (omega arith) (flag-fits t.scan_use) s,
        words_stand v 1 (omega arith) (flag-fits t.tam_use) s,
        flag_small t.scan_use,
        flag_small t.tam_use,
      )

length_back : {b : List ℕ} (x : FlipFlops) (at : ℕ) → FitLength x → Stands (length_bytes x) b at → length_at b at ≡ x
unfolding length_bytes
length_back x at f s = let e : at + word_length * 0 ≡ at = omega arith in rw (e, number_stands word_length x.0 f s)

-- the parts of a module, each at its place
record ModuleStands (d : Module) (b : List ℕ) (at : ℕ) : Type 0 where
  shape : Stands (words (shape_words d)) b at
  chains : Stands (each length_bytes d.chains) b (at + chains_from)
  position : Stands (words (position_words d)) b (at + position_from)
  tests : Stands (each test_bytes d.tests) b (at + tests_from)

module _ {b : List ℕ} (d : Module) (at : ℕ) (z : SizedModule d) (f : FitModule d) where
  module_stands : Stands (module_bytes d) b at → ModuleStands d b at
  unfolding module_bytes
  module_stands a =
      let s = simp append_assoc at a in
      let l = each length_bytes d.chains in
      let p = words (position_words d) in
      let t = each test_bytes d.tests in
      let c = words-behind (shape_words d) (l ++ (p ++ t)) (at + chains_from) refl s in
      let q = stands_behind l (p ++ t) (word_length * chains_max) (at + position_from) (chains-length d z) (omega arith) c in
      record {
        shape = stands_first (words (shape_words d)) (l ++ (p ++ t)) s;
        chains = stands_first l (p ++ t) c;
        position = stands_first p t q;
        tests = words-behind (position_words d) t (at + tests_from) (omega arith) q;
      }

  chains_back : Stands (each length_bytes d.chains) b (at + chains_from)
      → rows (length_at b) word_length chains_max (at + chains_from) ≡ d.chains
  chains_back s =
      rw z.chains at
      (rows_stand length_bytes word_length FitLength (λ x h. chain_length_lem x) b (flip_flops 0) (length_at b) length_back d.chains
      (at + chains_from) f.chains s)

  tests_back : Stands (each test_bytes d.tests) b (at + tests_from) → rows (test_at b) test_length tests_max (at + tests_from) ≡ d.tests
  tests_back s =
      rw z.tests at
      (rows_stand test_bytes test_length FitTest (λ x h. test-length x) b no_test (test_at b) test_back d.tests (at + tests_from)
      f.tests s)

  pub module_back : Stands (module_bytes d) b at → module_at b at ≡ d
  module_back s =
      let m = module_stands s in
      let v = shape_words d in
      let u = position_words d in
      rw (
        words_stand v 0 (omega arith) f.level m.shape,
        words_stand v 1 (omega arith) f.inputs m.shape,
        words_stand v 2 (omega arith) f.outputs m.shape,
        words_stand v 3 (omega arith) f.bidirs m.shape,
        words_stand v 4 (omega arith) f.chain_count m.shape,
        chains_back m.chains,
        words_stand u 0 (omega arith) (word_below d.x f.x) m.position,
        words_stand u 1 (omega arith) (word_below d.y f.y) m.position,
        signed_back d.x f.x,
        signed_back d.y f.y,
        words_stand u 2 (omega arith) f.test_count m.position,
        tests_back m.tests,
      )

  pub module_flags_lem : Stands (module_bytes d) b at → module_flags b at ≡ true
  unfolding module_flags
  module_flags_lem s =
      rw z.tests at
      (all_stand test_bytes test_length FitTest (λ x h. test-length x) b no_test (flags_at b) test_flags d.tests (at + tests_from)
      f.tests (module_stands s).tests)
