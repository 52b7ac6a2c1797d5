-- Laws of how long the written form of a good record is: with every figure within its limits it has at most 61,440 bytes. Assumes nothing.
use Prim.Native.Nat.{ℕ, suc, ◌+◌, ◌*◌, ◌^◌, ◌≤◌, ◌<◌}
use mathlib.Core.Path.{◌≡◌, refl}
use mathlib.Core.Bool.{Bool, true, false, cond, ◌&&◌, ◌||◌, false≢true}
use mathlib.Core.List.{List, [], ◌∷◌, ◌++◌, map}
use native.Mathlib.Omega.{arith}
use borrow.Author.Tests.{leb-true}
use lib.Dec.{leb}
use lib.IntN.{ℤ, pos, negsuc}
use lib.ListN.{length, take, length-append, length-take}
use Rattle.units.specs.declared.FlipFlops.{FlipFlops}
use Rattle.units.proofs.TestLaws.{and_both}
use Rattle.fields.proofs.SizeLaws.{size, decimal_size, joined_size, name_size}
use Rattle.soc.specs.Limits.{text_max, length_max, position_max, power_max}
use Rattle.units.specs.Places.{all_of}
use Rattle.soc.specs.Record.{name_of, modules_of, chains_of, tests_of}
use Rattle.soc.specs.Rules.{is_not_given, up_to, good_length, good_power, good_position, good_test, good_module, good_modules, good_soc}
use Rattle.soc.specs.declared.record.Test.{Test}
use Rattle.soc.specs.declared.record.Module.{Module}
use Rattle.soc.specs.declared.record.Soc.{Soc}
use Rattle.text_lines.specs.LineFields.{given_field, length_field, name_fields, total_fields, options_fields, level_fields, position_fields, tests_fields, power_fields, test_fields}
use Rattle.fields.specs.WrittenLines.{written_lines}
use Rattle.text_writer.specs.WrittenSoc.{test_lines, position_lines, module_lines_of, module_lines_from, soc_lines, written_soc}
use Rattle.text_writer.proofs.FigureLaws.{flag-length}
use Rattle.soc.proofs.GoodSocLaws.{TestFigures, test-figures, ModuleFigures, module_figures, SocFigures, soc-figures}

-- each line with two bytes for its end
unfoldable pub lines_size : List (List (List ℕ)) → ℕ
lines_size [] = 0
lines_size (l ∷ ls) = size l + 1 + lines_size ls

pub lines_size_append : (xs ys : List (List (List ℕ))) → lines_size (xs ++ ys) ≡ lines_size xs + lines_size ys
unfolding lines_size
lines_size_append [] ys = omega arith
lines_size_append (l ∷ xs) ys = omega (arith, lines_size_append xs ys)

pub written_size : (ls : List (List (List ℕ))) → length (written_lines ls) ≤ lines_size ls
unfolding lines_size written_lines
written_size [] = omega arith
written_size (l ∷ ls) = rw length-append (omega (arith, joined_size l, written_size ls))

-- a figure that may be not given
up_to_size : (k high : ℕ) (z : ℤ) → high < 10 ^ suc k → up_to high z ≡ true → length (given_field z) ≤ suc k
unfolding given_field
up_to_size k high (pos n) h e = decimal_size k n (omega (arith, leb-true n high e))
up_to_size k high (negsuc n) h e = absurd (false≢true e)

not_given_size : (z : ℤ) → is_not_given z ≡ true → length (given_field z) ≤ 2
unfolding given_field
not_given_size (pos n) e = absurd (false≢true e)
not_given_size (negsuc n) e = omega arith

power_size : (power : Bool) (w : ℤ) → good_power power w ≡ true → length (given_field w) ≤ 8
unfolding good_power
power_size power w h = go (is_not_given w) power refl h
  where
    go : (t p : Bool) → is_not_given w ≡ t → (t || p && up_to power_max w) ≡ true → length (given_field w) ≤ 8
    go true p e h = omega (arith, not_given_size w e)
    go false p e h = up_to_size 7 power_max w (omega arith) (and_both p (up_to power_max w) h).1

position_size : (xy : Bool) (x y : ℤ) → good_position xy x y ≡ true → (length (given_field x) ≤ 7) × (length (given_field y) ≤ 7)
unfolding good_position
position_size xy x y h = go (is_not_given x && is_not_given y) refl h
  where
    go : (t : Bool) → (is_not_given x && is_not_given y) ≡ t → (t || xy && (up_to position_max x && up_to position_max y)) ≡ true → (length (given_field x) ≤ 7) × (length (given_field y) ≤ 7)
    go true e h =
        let n = and_both (is_not_given x) (is_not_given y) e in
        (omega (arith, not_given_size x n.0), omega (arith, not_given_size y n.1))
    go false e h =
        let u = and_both (up_to position_max x) (up_to position_max y) (and_both xy (up_to position_max x && up_to position_max y) h).1 in
        (up_to_size 6 position_max x (omega arith) u.0, up_to_size 6 position_max y (omega arith) u.1)

lengths_size : (fs : List FlipFlops) → all_of good_length fs ≡ true → size (map length_field fs) ≤ 5 * length fs
unfolding size length_field all_of
lengths_size [] h = omega arith
lengths_size (f ∷ fs) h =
    let a = and_both (good_length f) (all_of good_length fs) h in
    let n = leb-true f.0 length_max (and_both (leb 1 f.0) (leb f.0 length_max) a.0).1 in
    omega (arith, decimal_size 3 f.0 (omega arith), lengths_size fs a.1)

front_length : {A : Type 0} (n : ℕ) (xs : List A) → length (take n xs) ≤ n
front_length n xs = rw length-take (omega arith)

-- the lines of a module
level_size : (power xy : Bool) (m : ℕ) (d : Module) → m < 100 → ModuleFigures power xy m d → size (level_fields m d) ≤ 392
unfolding level_fields size
level_size power xy m d h f =
    omega (
      arith,
      decimal_size 1 m (omega arith),
      decimal_size 1 d.level (omega arith),
      decimal_size 3 d.inputs (omega arith),
      decimal_size 3 d.outputs (omega arith),
      decimal_size 3 d.bidirs (omega arith),
      decimal_size 1 d.chain_count (omega arith),
      lengths_size (chains_of d) f.lengths,
      front_length d.chain_count d.chains,
    )

position-lines_size : (power xy : Bool) (m : ℕ) (d : Module) → m < 100 → ModuleFigures power xy m d → lines_size (position_lines xy m d) ≤ 31
unfolding position_lines position_fields lines_size size
position-lines_size power true m d h f =
    let p = position_size true d.x d.y f.position in
    omega (arith, decimal_size 1 m (omega arith))
position-lines_size power false m d h f = omega arith

tests_size : (power xy : Bool) (m : ℕ) (d : Module) → m < 100 → ModuleFigures power xy m d → size (tests_fields m d) ≤ 23
unfolding tests_fields size
tests_size power xy m d h f = omega (arith, decimal_size 1 m (omega arith), decimal_size 0 d.test_count (omega arith))

power-fields_size : (power : Bool) (t : Test) → TestFigures power t → size (cond power (power_fields t) []) ≤ 15
unfolding power_fields size
power-fields_size true t f = omega (arith, power_size true t.power f.power_kept)
power-fields_size false t f = omega arith

test_size : (power : Bool) (m i : ℕ) (t : Test) → m < 100 → i < 100 → TestFigures power t → size (test_fields m i t (cond power (power_fields t) [])) ≤ 71
unfolding test_fields size
test_size power m i t h k f =
    omega (
      arith,
      decimal_size 1 m (omega arith),
      decimal_size 1 i (omega arith),
      flag-length t.scan_use,
      flag-length t.tam_use,
      decimal_size 7 t.patterns (omega arith),
      power-fields_size power t f,
    )

test-lines_size : (power : Bool) (m i : ℕ) (ts : List Test) → m < 100 → i + length ts < 100 → all_of (good_test m power) ts ≡ true → lines_size (test_lines power m i ts) ≤ 72 * length ts
unfolding test_lines lines_size all_of
test-lines_size power m i [] h k e = omega arith
test-lines_size power m i (t ∷ ts) h k e =
    let a = and_both (good_test m power t) (all_of (good_test m power) ts) e in
    omega (arith, test_size power m i t h (omega arith) (test-figures m power t a.0), test-lines_size power m (suc i) ts h (omega arith) a.1)

pub module_size : (power xy : Bool) (m : ℕ) (d : Module) → m < 100 → ModuleFigures power xy m d → lines_size (module_lines_of power xy m d) ≤ 1024
unfolding module_lines_of lines_size
module_size power xy m d h f =
    let n = front_length d.test_count d.tests in
    rw lines_size_append (omega (
      arith,
      level_size power xy m d h f,
      position-lines_size power xy m d h f,
      tests_size power xy m d h f,
      test-lines_size power m 1 (tests_of d) h (omega arith) f.tests,
    ))

modules_size : (power xy : Bool) (m last : ℕ) (ds : List Module) → m + length ds < 100 → good_modules power xy m last ds ≡ true → lines_size (module_lines_from power xy m ds) ≤ 1024 * length ds
unfolding module_lines_from lines_size good_modules
modules_size power xy m last [] h e = omega arith
modules_size power xy m last (d ∷ ds) h e =
    let a = and_both (good_module power xy m last d) (good_modules power xy (suc m) d.level ds) e in
    rw lines_size_append (omega (
      arith,
      module_size power xy m d (omega arith) (module_figures power xy m last d a.0),
      modules_size power xy (suc m) d.level ds (omega arith) a.1,
    ))

head_size : (s : Soc) → SocFigures s → lines_size (name_fields s ∷ total_fields s ∷ options_fields s ∷ []) ≤ 100
unfolding name_fields total_fields options_fields lines_size size
head_size s f =
    omega (
      arith,
      name_size (name_of s) f.name,
      decimal_size 1 s.module_count (omega arith),
      flag-length s.power,
      flag-length s.xy,
    )

pub written-short : (s : Soc) → good_soc s ≡ true → length (written_soc s) ≤ text_max
unfolding written_soc soc_lines lines_size
written-short s h =
    let f = soc-figures s h in
    let n = front_length s.module_count s.modules in
    omega (
      arith,
      written_size (soc_lines s),
      head_size s f,
      modules_size s.power s.xy 0 0 (modules_of s) (omega arith) f.modules,
    )
