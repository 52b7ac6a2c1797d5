-- Laws of good SOC records: every figure, in use or spare, keeps its limit and so fits its word. Assumes nothing.
use Prim.Native.Nat.{ℕ, zero, suc, ◌<◌}
use mathlib.Core.Path.{◌≡◌, refl}
use mathlib.Core.Bool.{Bool, true, false, not, ◌&&◌, ◌||◌, false≢true}
use mathlib.Core.List.{List, [], ◌∷◌}
use native.Mathlib.Omega.{arith}
use borrow.Author.Tests.{leb-true, eqb-true}
use lib.Dec.{leb}
use lib.IntN.{ℤ, pos, negsuc}
use lib.ListN.{length, get_or, take, drop}
use lib.Seq.{get_or-take}
use mir.Syntax.{w32}
use mir.Val.{SFits}
use Rattle.units.specs.Places.{all_of, filled}
use Rattle.units.specs.declared.FlipFlops.{FlipFlops}
use Rattle.units.proofs.PlaceLaws.{front-has}
use Rattle.units.proofs.TestLaws.{and_both}
use Rattle.soc.specs.Limits.{modules_max, level_max, chains_max, length_max, tests_max, position_max, power_max}
use Rattle.soc.specs.Record.{flip_flops, no_test, no_module, modules_of}
use Rattle.soc.specs.Rules.{none, none_z, is_not_given, up_to, good_length, spare_length, good_power, good_position, good_test, spare_test}
use Rattle.soc.specs.Rules.{level_rule, good_terminals, good_chains, good_tests, good_module, good_modules, spare_module, good_name, good_soc}
use Rattle.soc.specs.declared.record.Test.{Test}
use Rattle.soc.specs.declared.record.Module.{Module}
use Rattle.soc.specs.declared.record.Soc.{Soc}
use Rattle.soc.proofs.GoodSocLaws.{test-figures, module_figures, soc-figures}
use Rattle.c_forms.specs.Fit.{Fits4, FitTest, FitLength, FitModule, FitSoc}

-- what each test on an element gives, all of them have
all-each : {A : Type 0} (p : A → Bool) (P : A → Type 0) → ((x : A) → p x ≡ true → P x) → (z : A) (xs : List A)
    → all_of p xs ≡ true → (i : ℕ) → i < length xs → P (get_or xs i z)
unfolding all_of
all-each p P g z [] e i h = absurd (omega arith)
all-each p P g z (x ∷ xs) e zero h = g x (and_both (p x) (all_of p xs) e).0
all-each p P g z (x ∷ xs) e (suc i) h = all-each p P g z xs (and_both (p x) (all_of p xs) e).1 i (omega arith)

-- the first n elements have it, and each spare one
pub front-each : {A : Type 0} (q : A → Bool) (P : A → Type 0) → ((x : A) → q x ≡ true → P x) → (z : A) (n : ℕ) (xs : List A)
    → ((i : ℕ) → i < n → i < length xs → P (get_or xs i z)) → all_of q (drop n xs) ≡ true → (i : ℕ) → i < length xs → P (get_or xs i z)
front-each q P g z n [] f e i h = absurd (omega arith)
front-each q P g z zero (x ∷ xs) f e i h = all-each q P g z (x ∷ xs) e i h
front-each q P g z (suc n) (x ∷ xs) f e zero h = f 0 (omega arith) (omega arith)
front-each q P g z (suc n) (x ∷ xs) f e (suc i) h =
    front-each q P g z n xs (λ j k l. f (suc j) (omega arith) (omega arith)) e i (omega arith)

filled-each : {A : Type 0} (p q : A → Bool) (P : A → Type 0) → ((x : A) → p x ≡ true → P x) → ((x : A) → q x ≡ true → P x)
    → (z : A) (n : ℕ) (xs : List A)
    → filled n p q xs ≡ true → (i : ℕ) → i < length xs → P (get_or xs i z)
filled-each p q P f g z n xs e =
    let a = and_both (all_of p (take n xs)) (all_of q (drop n xs)) e in
    front-each q P g z n xs (λ i h l. rw get_or-take at (all-each p P f z (take n xs) a.0 i (front-has n xs i h l))) a.1

-- a figure that is 0
none-small : (n : ℕ) → none n ≡ true → Fits4 n
none-small n e = omega (arith, eqb-true n 0 e)

-- X, Y and Power: not given, or from 0 up to a limit
or_either : {P : Type 0} (a b : Bool) → (a ≡ true → P) → (b ≡ true → P) → (a || b) ≡ true → P
or_either true b f g e = f refl
or_either false b f g e = g e

none-fits : (z : ℤ) → none_z z ≡ true → SFits w32 z
none-fits (pos n) e = record { sfits = omega (arith, eqb-true n 0 e) }
none-fits (negsuc n) e = absurd (false≢true e)

not_given-fits : (z : ℤ) → is_not_given z ≡ true → SFits w32 z
not_given-fits (pos n) e = absurd (false≢true e)
not_given-fits (negsuc n) e = record { sfits = omega (arith, eqb-true n 0 e) }

up_to_fits : (high : ℕ) (z : ℤ) → high < 2147483648 → up_to high z ≡ true → SFits w32 z
up_to_fits high (pos n) h e = record { sfits = omega (arith, leb-true n high e) }
up_to_fits high (negsuc n) h e = absurd (false≢true e)

power-fits : (option : Bool) (z : ℤ) → good_power option z ≡ true → SFits w32 z
unfolding good_power
power-fits option z e =
    or_either (is_not_given z) (option && up_to power_max z) (not_given-fits z)
    (λ g. up_to_fits power_max z (omega arith) (and_both option (up_to power_max z) g).1) e

position-fits : (option : Bool) (x y : ℤ) → good_position option x y ≡ true → SFits w32 x × SFits w32 y
unfolding good_position
position-fits option x y e =
    let u = up_to position_max x && up_to position_max y in
    or_either (is_not_given x && is_not_given y) (option && u)
    (λ g. let a = and_both (is_not_given x) (is_not_given y) g in (not_given-fits x a.0, not_given-fits y a.1))
    (λ g. let a = and_both (up_to position_max x) (up_to position_max y) (and_both option u g).1 in
    (up_to_fits position_max x (omega arith) a.0, up_to_fits position_max y (omega arith) a.1))
    e

-- a test, in use or spare
good-test : (m : ℕ) (power : Bool) (t : Test) → good_test m power t ≡ true → FitTest t
good-test m power t e =
    let f = test-figures m power t e in
    record { patterns = omega (arith, f.patterns); power = power-fits power t.power f.power_kept }

spare-test : (t : Test) → spare_test t ≡ true → FitTest t
unfolding spare_test
spare-test t e =
    let a = and_both (not t.scan_use) _ e in
    let b = and_both (not t.tam_use) _ a.1 in
    let c = and_both _ _ b.1 in
    record { patterns = none-small t.patterns c.0; power = none-fits t.power c.1 }

-- the length of a chain, in use or spare
good_length_lem : (f : FlipFlops) → good_length f ≡ true → FitLength f
good_length_lem f e = omega (arith, leb-true f.0 length_max (and_both (leb 1 f.0) (leb f.0 length_max) e).1)

spare-length : (f : FlipFlops) → spare_length f ≡ true → FitLength f
spare-length f e = none-small f.0 e

-- the places of a good module: its chains and its tests, and the spare ones
good-places : (power xy : Bool) (m last : ℕ) (d : Module) → good_module power xy m last d ≡ true
    → (filled d.chain_count good_length spare_length d.chains ≡ true)
    × (filled d.test_count (good_test m power) spare_test d.tests ≡ true)
unfolding good_module good_chains good_tests
good-places power xy m last d e =
    let a = and_both (leb d.level level_max) _ e in
    let b = and_both (level_rule m last d.level) _ a.1 in
    let c = and_both (good_terminals d) _ b.1 in
    let f = and_both (good_chains d) _ c.1 in
    let g = and_both (good_position xy d.x d.y) (good_tests m power d) f.1 in
    ((and_both (leb d.chain_count chains_max) _ f.0).1, (and_both (leb d.test_count tests_max) _ g.1).1)

-- a module, in use or spare
good_module_lem : (power xy : Bool) (m last : ℕ) (d : Module) → good_module power xy m last d ≡ true → FitModule d
good_module_lem power xy m last d e =
    let f = module_figures power xy m last d e in
    let k = good-places power xy m last d e in
    let p = position-fits xy d.x d.y f.position in
    record {
      level = omega (arith, f.level);
      inputs = omega (arith, f.inputs);
      outputs = omega (arith, f.outputs);
      bidirs = omega (arith, f.bidirs);
      chain_count = omega (arith, f.chain_count);
      chains = filled-each good_length spare_length FitLength good_length_lem spare-length (flip_flops 0) d.chain_count d.chains k.0;
      x = p.0;
      y = p.1;
      test_count = omega (arith, f.test_count);
      tests = filled-each (good_test m power) spare_test FitTest (good-test m power) spare-test no_test d.test_count d.tests k.1;
    }

spare_module_lem : (d : Module) → spare_module d ≡ true → FitModule d
unfolding spare_module
spare_module_lem d e =
    let a = and_both _ _ e in
    let b = and_both _ _ a.1 in
    let c = and_both _ _ b.1 in
    let f = and_both _ _ c.1 in
    let g = and_both _ _ f.1 in
    let h = and_both _ _ g.1 in
    let k = and_both _ _ h.1 in
    let l = and_both _ _ k.1 in
    let m = and_both _ _ l.1 in
    record {
      level = none-small d.level a.0;
      inputs = none-small d.inputs b.0;
      outputs = none-small d.outputs c.0;
      bidirs = none-small d.bidirs f.0;
      chain_count = none-small d.chain_count g.0;
      chains = all-each spare_length FitLength spare-length (flip_flops 0) d.chains h.0;
      x = none-fits d.x k.0;
      y = none-fits d.y l.0;
      test_count = none-small d.test_count m.0;
      tests = all-each spare_test FitTest spare-test no_test d.tests m.1;
    }

good-modules : (power xy : Bool) (m last n : ℕ) (ds : List Module) → good_modules power xy m last (take n ds) ≡ true
    → all_of spare_module (drop n ds) ≡ true
    → (i : ℕ) → i < length ds → FitModule (get_or ds i no_module)
unfolding good_modules
good-modules power xy m last n [] e f i h = absurd (omega arith)
good-modules power xy m last zero (d ∷ ds) e f i h = all-each spare_module FitModule spare_module_lem no_module (d ∷ ds) f i h
good-modules power xy m last (suc n) (d ∷ ds) e f zero h = good_module_lem power xy m last d (and_both _ _ e).0
good-modules power xy m last (suc n) (d ∷ ds) e f (suc i) h =
    good-modules power xy (suc m) d.level n ds (and_both (good_module power xy m last d) _ e).1 f i (omega arith)

spare-modules : (s : Soc) → good_soc s ≡ true → all_of spare_module (drop s.module_count s.modules) ≡ true
unfolding good_soc
spare-modules s e =
    let a = and_both (good_name s) _ e in
    let b = and_both (leb 1 s.module_count) _ a.1 in
    let c = and_both (leb s.module_count modules_max) _ b.1 in
    (and_both (good_modules s.power s.xy 0 0 (modules_of s)) _ c.1).1

pub good-fits : (s : Soc) → good_soc s ≡ true → FitSoc s
good-fits s e =
    let f = soc-figures s e in
    record {
      name_len = omega (arith, f.name_len);
      module_count = omega (arith, f.module_count);
      modules = good-modules s.power s.xy 0 0 s.module_count s.modules f.modules (spare-modules s e);
    }
