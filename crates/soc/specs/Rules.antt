-- When a SOC record keeps the limits and rules of the text, under an option 0 has its figures not given, and has 0 in every spare place:
-- what refusal 14 asks of a handed record (document 01, "The SOC text" and "Refusal numbers"; document 02, item 6).
use Rattle.std.specs.Prelude.{ℕ, suc, ◌+◌, Bool, true, false, cond, not, ◌&&◌, ◌||◌, List, [], ◌∷◌, drop, leb, eqb, ℤ, pos, negsuc}
use Rattle.units.specs.declared.FlipFlops.{FlipFlops}
use Rattle.fields.specs.Names.{is_name, name_max}
use Rattle.soc.specs.Limits.{modules_max, level_max, terminals_max, chains_max, length_max, tests_max, patterns_max, position_max, power_max}
use Rattle.units.specs.Places.{all_of, filled}
use Rattle.soc.specs.Record.{name_of, modules_of}
use Rattle.soc.specs.declared.record.Test.{Test}
use Rattle.soc.specs.declared.record.Module.{Module}
use Rattle.soc.specs.declared.record.Soc.{Soc}

-- 0
abbrev pub none : ℕ → Bool
none n = eqb n 0

abbrev pub none_z : ℤ → Bool
none_z (pos n) = eqb n 0
none_z (negsuc n) = false

-- "-1, which means not given"
abbrev pub is_not_given : ℤ → Bool
is_not_given (pos n) = false
is_not_given (negsuc n) = eqb n 0

-- 0 to high
abbrev pub up_to : ℕ → ℤ → Bool
up_to high (pos n) = leb n high
up_to high (negsuc n) = false

-- "lengths 1 to 4,096"
abbrev pub good_length : FlipFlops → Bool
good_length f = leb 1 f.0 && leb f.0 length_max

abbrev pub spare_length : FlipFlops → Bool
spare_length f = none f.0

-- "Only X, Y and Power may be -1"; "under an option 0 its figures must be not given"
unfoldable pub good_power : Bool → ℤ → Bool
good_power option w = is_not_given w || option && up_to power_max w

-- "X and Y are both -1 or neither"
unfoldable pub good_position : Bool → ℤ → ℤ → Bool
good_position option x y = is_not_given x && is_not_given y || option && (up_to position_max x && up_to position_max y)

-- "By document 003 the top module's terminals are the SOC's pins and need no access mechanism.": no test of module 0 has TamUse 1
unfoldable pub pins_rule : ℕ → Bool → Bool
pins_rule m tam = not (eqb m 0 && tam)

-- a test of module m: "p 1 to 16,777,215"
unfoldable pub good_test : ℕ → Bool → Test → Bool
good_test m power t = pins_rule m t.tam_use && (leb 1 t.patterns && (leb t.patterns patterns_max && good_power power t.power))

unfoldable pub spare_test : Test → Bool
spare_test t = not t.scan_use && (not t.tam_use && (none t.patterns && none_z t.power))

-- "Module 0 has level 0; another has a level from 1 to the previous module's level plus 1."
unfoldable pub level_rule : ℕ → ℕ → ℕ → Bool
level_rule m last v = cond (eqb m 0) (eqb v 0) (leb 1 v && leb v (last + 1))

unfoldable pub good_terminals : Module → Bool
good_terminals d = leb d.inputs terminals_max && (leb d.outputs terminals_max && leb d.bidirs terminals_max)

unfoldable pub good_chains : Module → Bool
good_chains d = leb d.chain_count chains_max && filled d.chain_count good_length spare_length d.chains

unfoldable pub good_tests : ℕ → Bool → Module → Bool
good_tests m power d = leb d.test_count tests_max && filled d.test_count (good_test m power) spare_test d.tests

-- module m, where the previous one has level last
unfoldable pub good_module : Bool → Bool → ℕ → ℕ → Module → Bool
good_module power xy m last d =
    leb d.level level_max
    && (level_rule m last d.level && (good_terminals d && (good_chains d && (good_position xy d.x d.y && good_tests m power d))))

-- the modules from number m on
unfoldable pub good_modules : Bool → Bool → ℕ → ℕ → List Module → Bool
good_modules power xy m last [] = true
good_modules power xy m last (d ∷ ds) = good_module power xy m last d && good_modules power xy (suc m) d.level ds

unfoldable pub spare_module : Module → Bool
spare_module d =
    none d.level
    && (none d.inputs
    && (none d.outputs
    && (none d.bidirs
    && (none d.chain_count
    && (all_of spare_length d.chains
    && (none_z d.x && (none_z d.y && (none d.test_count && all_of spare_test d.tests))))))))

-- "1 to 32 letters, digits, `_` or `-`", and spare places 0
unfoldable pub good_name : Soc → Bool
good_name s = leb s.name_len name_max && (is_name (name_of s) && all_of none (drop s.name_len s.name))

unfoldable pub good_soc : Soc → Bool
good_soc s =
    good_name s
    && (leb 1 s.module_count
    && (leb s.module_count modules_max
    && (good_modules s.power s.xy 0 0 (modules_of s) && all_of spare_module (drop s.module_count s.modules))))
