-- A SOC record as bytes: 16,688 of them. The name and each module, chain and test has its place, spare ones included.
use Rattle.std.specs.Prelude.{ℕ, ◌+◌, ◌*◌, Bool, cond, ◌&&◌, List, [], ◌∷◌, ◌++◌, length, take, drop, leb, eqb}
use Rattle.units.specs.declared.FlipFlops.{FlipFlops}
use Rattle.units.specs.Places.{all_of}
use Rattle.little_endian.specs.Rows.{each, rows}
use Rattle.fields.specs.Names.{name_max}
use Rattle.soc.specs.Limits.{modules_max, chains_max, tests_max}
use Rattle.soc.specs.Record.{flip_flops, no_soc}
use Rattle.soc.specs.declared.record.Test.{Test}
use Rattle.soc.specs.declared.record.Module.{Module}
use Rattle.soc.specs.declared.record.Soc.{Soc}
use Rattle.c_forms.specs.Words.{word_length, word, words, word_at, signed_word, signed_in, flag_word, flag_in}

-- how many bytes a test has: 16
abbrev pub test_length : ℕ
test_length = word_length * 4

-- in a module, where its chains begin, its position and its tests, and how many bytes it has: 20, 276, 288 and 416
abbrev pub chains_from : ℕ
chains_from = word_length * 5

abbrev pub position_from : ℕ
position_from = chains_from + word_length * chains_max

abbrev pub tests_from : ℕ
tests_from = position_from + word_length * 3

abbrev pub module_length : ℕ
module_length = tests_from + test_length * tests_max

-- in a record, where its options begin and its modules, and how many bytes it has: 36, 48 and 16,688
abbrev pub options_from : ℕ
options_from = word_length + name_max

abbrev pub modules_from : ℕ
modules_from = options_from + word_length * 3

abbrev pub soc_length : ℕ
soc_length = modules_from + module_length * modules_max

-- ScanUse, TamUse, patterns, Power
abbrev pub test_words : Test → List ℕ
test_words t = flag_word t.scan_use ∷ flag_word t.tam_use ∷ t.patterns ∷ signed_word t.power ∷ []

unfoldable pub test_bytes : Test → List ℕ
test_bytes t = words (test_words t)

abbrev pub test_at : List ℕ → ℕ → Test
test_at b at =
    record {
      scan_use = flag_in (word_at b at 0);
      tam_use = flag_in (word_at b at 1);
      patterns = word_at b at 2;
      power = signed_in (word_at b at 3);
    }

unfoldable pub length_bytes : FlipFlops → List ℕ
length_bytes f = word f.0

abbrev pub length_at : List ℕ → ℕ → FlipFlops
length_at b at = flip_flops (word_at b at 0)

-- level, terminals, number of chains; their lengths; X, Y, number of tests; the tests
abbrev pub shape_words : Module → List ℕ
shape_words d = d.level ∷ d.inputs ∷ d.outputs ∷ d.bidirs ∷ d.chain_count ∷ []

abbrev pub position_words : Module → List ℕ
position_words d = signed_word d.x ∷ signed_word d.y ∷ d.test_count ∷ []

unfoldable pub module_bytes : Module → List ℕ
module_bytes d = words (shape_words d) ++ each length_bytes d.chains ++ words (position_words d) ++ each test_bytes d.tests

abbrev pub module_at : List ℕ → ℕ → Module
module_at b at =
    record {
      level = word_at b at 0;
      inputs = word_at b at 1;
      outputs = word_at b at 2;
      bidirs = word_at b at 3;
      chain_count = word_at b at 4;
      chains = rows (length_at b) word_length chains_max (at + chains_from);
      x = signed_in (word_at b (at + position_from) 0);
      y = signed_in (word_at b (at + position_from) 1);
      test_count = word_at b (at + position_from) 2;
      tests = rows (test_at b) test_length tests_max (at + tests_from);
    }

-- length of the name, the name; Power, XY, number of modules; the modules
abbrev pub option_words : Soc → List ℕ
option_words s = flag_word s.power ∷ flag_word s.xy ∷ s.module_count ∷ []

unfoldable pub head_bytes : Soc → List ℕ
head_bytes s = word s.name_len ++ s.name ++ words (option_words s)

unfoldable pub soc_bytes : Soc → List ℕ
soc_bytes s = head_bytes s ++ each module_bytes s.modules

unfoldable pub soc_at : List ℕ → Soc
soc_at b =
    record {
      name_len = word_at b 0 0;
      name = take name_max (drop word_length b);
      power = flag_in (word_at b options_from 0);
      xy = flag_in (word_at b options_from 1);
      module_count = word_at b options_from 2;
      modules = rows (module_at b) module_length modules_max modules_from;
    }

-- each flag is 0 or 1: the first two words of a test, and of the options
abbrev pub flags_at : List ℕ → ℕ → Bool
flags_at b at = leb (word_at b at 0) 1 && leb (word_at b at 1) 1

unfoldable pub module_flags : List ℕ → ℕ → Bool
module_flags b at = all_of (flags_at b) (rows (λ p. p) test_length tests_max (at + tests_from))

unfoldable pub soc_flags : List ℕ → Bool
soc_flags b = flags_at b options_from && all_of (module_flags b) (rows (λ p. p) module_length modules_max modules_from)

-- bytes of another length, or with another flag, are no record, and the record that says nothing stands for them: it is not good (14)
unfoldable pub soc_in : List ℕ → Soc
soc_in b = cond (eqb (length b) soc_length && soc_flags b) (soc_at b) no_soc
