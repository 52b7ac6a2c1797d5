-- Laws of a good SOC record: what its figures keep to, part by part. Assumes nothing.
use Prim.Native.Nat.{ℕ, zero, suc, ◌≤◌}
use mathlib.Core.Path.{◌≡◌}
use mathlib.Core.Bool.{Bool, true, ◌&&◌}
use mathlib.Core.List.{List, [], ◌∷◌}
use native.Mathlib.Omega.{arith}
use borrow.Author.Tests.{leb-true}
use lib.Dec.{leb}
use lib.ListN.{get_or, drop}
use Rattle.units.specs.Places.{all_of}
use Rattle.units.proofs.TestLaws.{and_both}
use Rattle.fields.specs.Names.{is_name, name_max}
use Rattle.soc.specs.Limits.{modules_max, level_max, terminals_max, chains_max, tests_max, patterns_max}
use Rattle.soc.specs.Record.{no_module, name_of, modules_of, chains_of, tests_of}
use Rattle.soc.specs.Rules.{none, good_length, spare_length, good_power, good_position, pins_rule, good_test, spare_test, level_rule, good_terminals, good_chains, good_tests, good_module, good_modules, spare_module, good_name, good_soc}
use Rattle.soc.specs.declared.record.Test.{Test}
use Rattle.soc.specs.declared.record.Module.{Module}
use Rattle.soc.specs.declared.record.Soc.{Soc}

pub record TestFigures (power : Bool) (t : Test) : Type 0 where
  pub patterns : t.patterns ≤ patterns_max
  pub power_kept : good_power power t.power ≡ true

pub test-figures : (m : ℕ) (power : Bool) (t : Test) → good_test m power t ≡ true → TestFigures power t
unfolding good_test
test-figures m power t h =
    let r = (and_both (pins_rule m t.tam_use) _ h).1 in
    let a = (and_both (leb 1 t.patterns) (leb t.patterns patterns_max && good_power power t.power) r).1 in
    let b = and_both (leb t.patterns patterns_max) (good_power power t.power) a in
    record { patterns = leb-true _ _ b.0; power_kept = b.1 }

pub record ModuleFigures (power xy : Bool) (m : ℕ) (d : Module) : Type 0 where
  pub level : d.level ≤ level_max
  pub inputs : d.inputs ≤ terminals_max
  pub outputs : d.outputs ≤ terminals_max
  pub bidirs : d.bidirs ≤ terminals_max
  pub chain_count : d.chain_count ≤ chains_max
  pub lengths : all_of good_length (chains_of d) ≡ true
  pub position : good_position xy d.x d.y ≡ true
  pub test_count : d.test_count ≤ tests_max
  pub tests : all_of (good_test m power) (tests_of d) ≡ true

pub module_figures : (power xy : Bool) (m last : ℕ) (d : Module) → good_module power xy m last d ≡ true → ModuleFigures power xy m d
unfolding good_module good_terminals good_chains good_tests
module_figures power xy m last d h =
    let a = and_both (leb d.level level_max) (level_rule m last d.level && (good_terminals d && (good_chains d && (good_position xy d.x d.y && good_tests m power d)))) h in
    let b = (and_both (level_rule m last d.level) (good_terminals d && (good_chains d && (good_position xy d.x d.y && good_tests m power d))) a.1).1 in
    let e = and_both (good_terminals d) (good_chains d && (good_position xy d.x d.y && good_tests m power d)) b in
    let f = and_both (good_chains d) (good_position xy d.x d.y && good_tests m power d) e.1 in
    let g = and_both (good_position xy d.x d.y) (good_tests m power d) f.1 in
    let i = and_both (leb d.inputs terminals_max) (leb d.outputs terminals_max && leb d.bidirs terminals_max) e.0 in
    let o = and_both (leb d.outputs terminals_max) (leb d.bidirs terminals_max) i.1 in
    let k = and_both (leb d.chain_count chains_max) (all_of good_length (chains_of d) && all_of spare_length (drop d.chain_count d.chains)) f.0 in
    let n = and_both (leb d.test_count tests_max) (all_of (good_test m power) (tests_of d) && all_of spare_test (drop d.test_count d.tests)) g.1 in
    record {
      level = leb-true _ _ a.0;
      inputs = leb-true _ _ i.0;
      outputs = leb-true _ _ o.0;
      bidirs = leb-true _ _ o.1;
      chain_count = leb-true _ _ k.0;
      lengths = (and_both (all_of good_length (chains_of d)) (all_of spare_length (drop d.chain_count d.chains)) k.1).0;
      position = g.0;
      test_count = leb-true _ _ n.0;
      tests = (and_both (all_of (good_test m power) (tests_of d)) (all_of spare_test (drop d.test_count d.tests)) n.1).0;
    }

pub record SocFigures (s : Soc) : Type 0 where
  pub name_len : s.name_len ≤ name_max
  pub name : is_name (name_of s) ≡ true
  pub module_count : s.module_count ≤ modules_max
  pub modules : good_modules s.power s.xy 0 0 (modules_of s) ≡ true

pub soc-figures : (s : Soc) → good_soc s ≡ true → SocFigures s
unfolding good_soc good_name
soc-figures s h =
    let spare = all_of spare_module (drop s.module_count s.modules) in
    let good = good_modules s.power s.xy 0 0 (modules_of s) in
    let a = and_both (good_name s) (leb 1 s.module_count && (leb s.module_count modules_max && (good && spare))) h in
    let b = (and_both (leb 1 s.module_count) (leb s.module_count modules_max && (good && spare)) a.1).1 in
    let e = and_both (leb s.module_count modules_max) (good && spare) b in
    let n = and_both (leb s.name_len name_max) (is_name (name_of s) && all_of none (drop s.name_len s.name)) a.0 in
    record {
      name_len = leb-true _ _ n.0;
      name = (and_both (is_name (name_of s)) (all_of none (drop s.name_len s.name)) n.1).0;
      module_count = leb-true _ _ e.0;
      modules = (and_both good spare e.1).0;
    }

-- each module of good modules keeps the limits of its counts
pub modules-counts : (power xy : Bool) (m last : ℕ) (ds : List Module) → good_modules power xy m last ds ≡ true → (i : ℕ)
    → ((get_or ds i no_module).chain_count ≤ chains_max) × ((get_or ds i no_module).test_count ≤ tests_max)
unfolding good_modules
modules-counts power xy m last [] h i = (omega arith, omega arith)
modules-counts power xy m last (d ∷ ds) h zero =
    let f = module_figures power xy m last d (and_both (good_module power xy m last d) (good_modules power xy (suc m) d.level ds) h).0 in
    (f.chain_count, f.test_count)
modules-counts power xy m last (d ∷ ds) h (suc i) = modules-counts power xy (suc m) d.level ds (and_both (good_module power xy m last d) (good_modules power xy (suc m) d.level ds) h).1 i
