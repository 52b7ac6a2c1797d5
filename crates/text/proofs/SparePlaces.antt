-- Laws of the spare places of a good record, as a reader and a writer meet them (document 01, refusal 14: "a spare place in it is not
-- 0"): the places that no line speaks of hold 0, a spare module or test is the record with 0 throughout, and what stands in the places
-- in use, with spare ones behind it, is the whole array. Assumes nothing.
use Prim.Native.Nat.{ℕ, suc, ◌+◌, ◌-◌, ◌≤◌, ◌<◌}
use mathlib.Core.Path.{◌≡◌, refl, sym, ap, ◌∙◌}
use mathlib.Core.Bool.{Bool, true, ◌&&◌, false≢true}
use mathlib.Core.List.{List, [], ◌∷◌}
use native.Mathlib.Omega.{arith}
use borrow.Author.Tests.{eqb-true, leb-true, not-true}
use lib.Dec.{leb}
use lib.IntN.{ℤ, pos, negsuc}
use lib.ListN.{length, get_or, take, drop, replicate, length-take, length-drop, take-append-drop}
use lib.Seq.{get_or-take, get_or-drop}
use Rattle.fields.specs.Names.{name_max, is_name}
use Rattle.units.proofs.TestLaws.{and_both}
use Rattle.soc.specs.Limits.{modules_max, level_max, chains_max, tests_max}
use Rattle.units.specs.Places.{all_of, filled, padded}
use Rattle.soc.specs.Record.{name_of, modules_of, chains_of, tests_of, flip_flops, no_test, no_module}
use Rattle.soc.specs.Rules.{none, none_z, good_length, spare_length, good_test, spare_test, level_rule, good_terminals, good_chains, good_position, good_tests, good_module, good_modules, spare_module, good_name, good_soc}
use Rattle.soc.proofs.GoodSocLaws.{ModuleFigures, module_figures, SocFigures, soc-figures}
use Rattle.soc.specs.Sized.{SizedModule, Sized}
use Rattle.soc.specs.declared.record.Test.{Test}
use Rattle.soc.specs.declared.record.Module.{Module}
use Rattle.soc.specs.declared.record.Soc.{Soc}
use Rattle.units.proofs.PlaceLaws.{padded-none}
use Rattle.text.specs.Describes.{spare_in, Spare}
use Rattle.text.proofs.LineBack.{padded_back, spare-length}

-- what a good module keeps besides the limits of its figures
pub record GoodModule (power xy : Bool) (m last : ℕ) (d : Module) : Type 0 where
  pub level : leb d.level level_max ≡ true
  pub rule : level_rule m last d.level ≡ true
  pub terminals : good_terminals d ≡ true
  pub chains : good_chains d ≡ true
  pub spare : all_of spare_test (drop d.test_count d.tests) ≡ true
  pub figures : ModuleFigures power xy m d

pub good_module_lem : (power xy : Bool) (m last : ℕ) (d : Module) → good_module power xy m last d ≡ true → GoodModule power xy m last d
unfolding good_module good_tests
good_module_lem power xy m last d h =
    let a = and_both _ _ h in
    let b = and_both _ _ a.1 in
    let c = and_both _ _ b.1 in
    let e = and_both _ _ c.1 in
    let f = and_both (good_position xy d.x d.y) _ e.1 in
    let g = and_both (leb d.test_count tests_max) _ f.1 in
    let k = and_both (all_of (good_test m power) (tests_of d)) _ g.1 in
    record { level = a.0; rule = b.0; terminals = c.0; chains = e.0; spare = k.1; figures = module_figures power xy m last d h }

-- what a good record keeps besides the limits of its figures
pub record GoodSoc (s : Soc) : Type 0 where
  pub name : good_name s ≡ true
  pub some : 1 ≤ s.module_count
  pub spare : all_of spare_module (drop s.module_count s.modules) ≡ true
  pub figures : SocFigures s

pub good-soc : (s : Soc) → good_soc s ≡ true → GoodSoc s
unfolding good_soc
good-soc s h =
    let a = and_both _ _ h in
    let b = and_both _ _ a.1 in
    let c = and_both (leb s.module_count modules_max) _ b.1 in
    let e = and_both (good_modules s.power s.xy 0 0 (modules_of s)) _ c.1 in
    record { name = a.0; some = leb-true 1 s.module_count b.0; spare = e.1; figures = soc-figures s h }

-- the places that no line speaks of hold 0
pub good-spare_in : (power xy : Bool) (m last : ℕ) (d : Module) → good_module power xy m last d ≡ true → spare_in d ≡ true
unfolding spare_in good_chains
good-spare_in power xy m last d h =
    let g = good_module_lem power xy m last d h in
    let a = and_both (leb d.chain_count chains_max) (filled d.chain_count good_length spare_length d.chains) g.chains in
    let b = and_both (all_of good_length (chains_of d)) (all_of spare_length (drop d.chain_count d.chains)) a.1 in
    simp (b.1, g.spare)

good-spare-each : (power xy : Bool) (m last : ℕ) (ds : List Module) → good_modules power xy m last ds ≡ true → all_of spare_in ds ≡ true
unfolding all_of good_modules
good-spare-each power xy m last [] h = refl
good-spare-each power xy m last (d ∷ ds) h =
    let q = and_both (good_module power xy m last d) (good_modules power xy (suc m) d.level ds) h in
    simp (good-spare_in power xy m last d q.0, good-spare-each power xy (suc m) d.level ds q.1)

pub good-spare : (s : Soc) → good_soc s ≡ true → Spare s
unfolding good_name
good-spare s h =
    let g = good-soc s h in
    let a = and_both (leb s.name_len name_max) (is_name (name_of s) && all_of none (drop s.name_len s.name)) g.name in
    let b = and_both (is_name (name_of s)) (all_of none (drop s.name_len s.name)) a.1 in
    record {
      room = g.figures.name_len;
      name = b.1;
      modules = g.spare;
      within = good-spare-each s.power s.xy 0 0 (modules_of s) g.figures.modules;
    }

none_z_lem : (z : ℤ) → none_z z ≡ true → z ≡ pos 0
none_z_lem (pos n) h = ap pos (eqb-true n 0 h)
none_z_lem (negsuc n) h = absurd (false≢true h)

pub spare-test : (t : Test) → spare_test t ≡ true → t ≡ no_test
unfolding spare_test
spare-test t h =
    let a = and_both _ _ h in
    let b = and_both _ _ a.1 in
    let c = and_both _ _ b.1 in
    let p = not-true t.scan_use a.0 in
    let q = not-true t.tam_use b.0 in
    let r = eqb-true t.patterns 0 c.0 in
    let w = none_z_lem t.power c.1 in
    λ i. record { scan_use = p i; tam_use = q i; patterns = r i; power = w i }

-- places of which none is in use
all-spare : {A : Type 0} (p : A → Bool) (z : A) → ((x : A) → p x ≡ true → x ≡ z) → (n : ℕ) (l : List A) → length l ≡ n → all_of p l ≡ true → l ≡ replicate n z
all-spare p z s n l e h = sym (padded_back p z s n 0 l e (omega arith) h) ∙ padded-none n z

pub spare_module_lem : (d : Module) → SizedModule d → spare_module d ≡ true → d ≡ no_module
unfolding spare_module
spare_module_lem d z h =
    let a = and_both _ _ h in
    let b = and_both _ _ a.1 in
    let c = and_both _ _ b.1 in
    let e = and_both _ _ c.1 in
    let f = and_both _ _ e.1 in
    let g = and_both _ _ f.1 in
    let k = and_both _ _ g.1 in
    let l = and_both _ _ k.1 in
    let m = and_both _ _ l.1 in
    let level = eqb-true d.level 0 a.0 in
    let inputs = eqb-true d.inputs 0 b.0 in
    let outputs = eqb-true d.outputs 0 c.0 in
    let bidirs = eqb-true d.bidirs 0 e.0 in
    let chain_count = eqb-true d.chain_count 0 f.0 in
    let chains = all-spare spare_length (flip_flops 0) spare-length chains_max d.chains z.chains g.0 in
    let x = none_z_lem d.x k.0 in
    let y = none_z_lem d.y l.0 in
    let test_count = eqb-true d.test_count 0 m.0 in
    let tests = all-spare spare_test no_test spare-test tests_max d.tests z.tests m.1 in
    λ i. record {
      level = level i;
      inputs = inputs i;
      outputs = outputs i;
      bidirs = bidirs i;
      chain_count = chain_count i;
      chains = chains i;
      x = x i;
      y = y i;
      test_count = test_count i;
      tests = tests i;
    }

-- every module among these has its arrays whole
pub record AllSized (ds : List Module) : Type 0 where
  pub each : (i : ℕ) → i < length ds → SizedModule (get_or ds i no_module)

pub sized-first : (d : Module) (ds : List Module) → AllSized (d ∷ ds) → SizedModule d
sized-first d ds z = z.each 0 (omega arith)

pub sized-rest : (d : Module) (ds : List Module) → AllSized (d ∷ ds) → AllSized ds
sized-rest d ds z = record { each = λ i h. z.each (suc i) (omega arith) }

pub sized-modules : (s : Soc) → Sized s → AllSized s.modules
sized-modules s z = record { each = λ i h. z.each i (omega (arith, z.modules)) }

pub sized-front : (n : ℕ) (ds : List Module) → AllSized ds → AllSized (take n ds)
sized-front n ds z = record { each = λ i h. let k = simp length-take at h in rw (get_or-take n ds i no_module (omega arith)) (z.each i (omega arith)) }

pub sized_back : (n : ℕ) (ds : List Module) → AllSized ds → AllSized (drop n ds)
sized_back n ds z = record { each = λ i h. let k = simp length-drop at h in rw (get_or-drop n ds i no_module) (z.each (n + i) (omega arith)) }

-- spare modules are the record with 0 throughout
pub spare-modules : (ds : List Module) → AllSized ds → all_of spare_module ds ≡ true → ds ≡ replicate (length ds) no_module
unfolding all_of
spare-modules [] z h = refl
spare-modules (d ∷ ds) z h =
    let q = and_both (spare_module d) (all_of spare_module ds) h in
    let a : d ≡ no_module = spare_module_lem d (sized-first d ds z) q.0 in
    let b : ds ≡ replicate (length ds) no_module = spare-modules ds (sized-rest d ds z) q.1 in
    cc

-- what stands in the places in use, with spare modules behind it, is the whole array
pub modules-padded : (s : Soc) → Sized s → GoodSoc s → padded modules_max no_module (modules_of s) ≡ s.modules
unfolding padded
modules-padded s z g =
    let ds = drop s.module_count s.modules in
    let e = z.modules in
    let k = g.figures.module_count in
    let m : modules_max - length (modules_of s) ≡ length ds = simp (length-take, length-drop) (omega arith) in
    let r = spare-modules ds (sized_back s.module_count s.modules (sized-modules s z)) g.spare in
    rw (m, ← r) (take-append-drop s.module_count s.modules)

pub tests-padded : {power xy : Bool} {m last : ℕ} (d : Module) → SizedModule d → GoodModule power xy m last d → padded tests_max no_test (tests_of d) ≡ d.tests
tests-padded d z g = padded_back spare_test no_test spare-test tests_max d.test_count d.tests z.tests g.figures.test_count g.spare
