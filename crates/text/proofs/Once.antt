-- Laws of texts that describe a record: each describes one at most, good or not. Equal lines have equal figures, and the places that no line
-- speaks of hold 0. One law for each form of a figure, then one for each kind of line, one for each part of a text, and one for the whole.
-- Assumes nothing.
use Prim.Native.Nat.{ℕ, ◌-◌, min}
use mathlib.Core.Path.{◌≡◌, refl, sym, ap, ap₂, ◌∙◌}
use mathlib.Core.Bool.{Bool, true, false, false≢true}
use mathlib.Core.List.{List, [], ◌∷◌, ◌++◌, map, append_assoc}
use mathlib.Core.Logic.{inl, inr}
use mathlib.Core.Option.{some}
use native.Mathlib.Omega.{arith}
use borrow.Author.Tests.{eqb-true}
use lib.IntN.{ℤ, pos}
use lib.Seq.{length-take-le}
use lib.ListN.{length, get_or, take, drop, replicate, length-take, length-drop, take-append-drop}
use Rattle.units.specs.declared.FlipFlops.{FlipFlops}
use Rattle.fields.specs.Bytes.{bytes}
use Rattle.fields.specs.Numbers.{decimal_of}
use Rattle.fields.specs.WrittenLines.{decimal}
use Rattle.units.proofs.TestLaws.{clash, and_both}
use Rattle.fields.proofs.WrittenLaws.{all_digits, decimal_back, decimal_plain}
use Rattle.units.specs.Places.{all_of}
use Rattle.soc.specs.Record.{name_of, modules_of, chains_of, tests_of, flip_flops, no_test, no_module}
use Rattle.soc.specs.Rules.{spare_length, spare_test, spare_module}
use Rattle.soc.specs.Rules as rules
use Rattle.soc.specs.Sized.{SizedModule, Sized}
use Rattle.soc.specs.declared.record.Test.{Test}
use Rattle.soc.specs.declared.record.Module.{Module}
use Rattle.soc.specs.declared.record.Soc.{Soc}
use Rattle.text_lines.specs.LineFields.{flag_field, given_field, length_field, name_fields, total_fields, options_fields, level_fields, position_fields, tests_fields, power_fields, test_fields}
use Rattle.text.specs.Describes.{Sayable, PowerPart, TestLine, TestLines, PositionPart, ModuleLines, ModulesLines, spare_in, Spare, Describes, field_lines}
use Rattle.text.proofs.LineBack.{all-spare, spare-length}
use Rattle.text.proofs.SparePlaces.{spare-test, spare-modules, AllSized, sized-first, sized-rest, sized-modules, sized-front, sized_back}

-- the forms of figures

pub decimal_once : (a b : ℕ) → decimal a ≡ decimal b → a ≡ b
decimal_once a b e =
    let p : some a ≡ some b = sym (decimal_back a) ∙ ap decimal_of e ∙ decimal_back b in
    cc

pub flag_once : (a b : Bool) → flag_field a ≡ flag_field b → a ≡ b
unfolding flag_field
flag_once false false e = refl
flag_once false true e = let z : ◌≡◌ {A = ℕ} 48 49 = cc in absurd (omega arith)
flag_once true false e = let z : ◌≡◌ {A = ℕ} 49 48 = cc in absurd (omega arith)
flag_once true true e = refl

digits_not_minus : (n : ℕ) → decimal n ≡ bytes "-1" → ⊥
unfolding all_digits
digits_not_minus n e = false≢true (ap all_digits (sym e) ∙ decimal_plain n)

pub given_once : (x y : ℤ) → Sayable x → Sayable y → given_field x ≡ given_field y → x ≡ y
unfolding given_field
given_once x y (inl (m, p)) (inl (n, q)) e = p ∙ ap pos (decimal_once m n (ap given_field (sym p) ∙ e ∙ ap given_field q)) ∙ sym q
given_once x y (inl (m, p)) (inr q) e = absurd (digits_not_minus m (ap given_field (sym p) ∙ e ∙ ap given_field q))
given_once x y (inr p) (inl (n, q)) e = absurd (digits_not_minus n (ap given_field (sym q) ∙ sym e ∙ ap given_field p))
given_once x y (inr p) (inr q) e = p ∙ sym q

pub lengths_once : (a b : List FlipFlops) → map length_field a ≡ map length_field b → a ≡ b
unfolding length_field
lengths_once [] [] e = refl
lengths_once [] (y ∷ b) e = clash cc
lengths_once (x ∷ a) [] e = clash cc
lengths_once (x ∷ a) (y ∷ b) e =
    let p : decimal x.0 ≡ decimal y.0 = cc in
    let q : map length_field a ≡ map length_field b = cc in
    ap₂ ◌∷◌ (ap flip_flops (decimal_once x.0 y.0 p)) (lengths_once a b q)

-- field k of two equal lines
field_once : (k : ℕ) {a b : List (List ℕ)} → a ≡ b → get_or a k [] ≡ get_or b k []
field_once k e = ap (λ fs. get_or fs k []) e

-- arrays with the same places in use and none but z behind them
pub front_once : {A : Type 0} (z : A) (i : ℕ) (a b : List A) → length a ≡ length b → take i a ≡ take i b → drop i a ≡ replicate (length (drop i a)) z → drop i b ≡ replicate (length (drop i b)) z
    → a ≡ b
front_once z i a b n e p q =
    let l : length (drop i a) ≡ length (drop i b) = length-drop i a ∙ ap (λ k. k - i) n ∙ sym (length-drop i b) in
    let d : drop i a ≡ drop i b = p ∙ ap (λ k. replicate k z) l ∙ sym q in
    sym (take-append-drop i a) ∙ ap₂ ◌++◌ e d ∙ take-append-drop i b

taken_once : {A : Type 0} (i j : ℕ) (a b : List A) → i ≡ j → length a ≡ length b → length (take i a) ≡ length (take j b)
taken_once i j a b h n = length-take i a ∙ ap₂ min h n ∙ sym (length-take j b)

-- a test

power_once : (power : Bool) (t u : Test) (ps qs : List (List ℕ)) → PowerPart power t ps → PowerPart power u qs → ps ≡ qs → t.power ≡ u.power
unfolding power_fields
power_once power t u ps qs (inl (o, x, a)) (inl (p, y, b)) e = given_once t.power u.power x y (field_once 1 (sym a ∙ e ∙ b))
power_once power t u ps qs (inl (o, x, a)) (inr (y, b)) e = clash cc
power_once power t u ps qs (inr (x, a)) (inl (p, y, b)) e = clash cc
power_once power t u ps qs (inr (x, a)) (inr (y, b)) e = x ∙ sym y

pub test_once : (power : Bool) (m i : ℕ) (t u : Test) (fs gs : List (List ℕ)) → TestLine power m i t fs → TestLine power m i u gs → fs ≡ gs → t ≡ u
unfolding test_fields
test_once power m i t u fs gs (ps, p, a) (qs, q, b) e =
    let k : test_fields m i t ps ≡ test_fields m i u qs = sym a ∙ e ∙ b in
    let scan = flag_once t.scan_use u.scan_use (field_once 5 k) in
    let tam = flag_once t.tam_use u.tam_use (field_once 7 k) in
    let patterns = decimal_once t.patterns u.patterns (field_once 9 k) in
    let power = power_once power t u ps qs p q (ap (drop 10) k) in
    λ j. record { scan_use = scan j; tam_use = tam j; patterns = patterns j; power = power j }

-- as many tests from equal lines are equal, and so is what stands behind them
pub tests_once : {power : Bool} {m i : ℕ} {ts us : List Test} {fs gs : List (List (List ℕ))} → TestLines power m i ts fs → TestLines power m i us gs → length ts ≡ length us
    → (a b : List (List (List ℕ))) → fs ++ a ≡ gs ++ b → (ts ≡ us) × (a ≡ b)
tests_once TestLines.none TestLines.none n a b e = (refl, e)
tests_once TestLines.none (TestLines.more k q) n a b e = absurd (omega arith)
tests_once (TestLines.more l r) TestLines.none n a b e = absurd (omega arith)
tests_once {power = power} {m = m} (TestLines.more {i} {t} {ts} {fs = f} {ls = fs} l r) (TestLines.more {t = u} {ts = us} {fs = g} {ls = gs} k q) n a b e =
    let h : f ≡ g = cc in
    let c : fs ++ a ≡ gs ++ b = cc in
    let s = tests_once r q (omega arith) a b c in
    (ap₂ ◌∷◌ (test_once power m i t u f g l k h) s.0, s.1)

-- a module

-- its first line
record LevelOnce (d e : Module) : Type 0 where
  level : d.level ≡ e.level
  inputs : d.inputs ≡ e.inputs
  outputs : d.outputs ≡ e.outputs
  bidirs : d.bidirs ≡ e.bidirs
  count : d.chain_count ≡ e.chain_count
  chains : chains_of d ≡ chains_of e

level_once : (m : ℕ) (d e : Module) → level_fields m d ≡ level_fields m e → LevelOnce d e
unfolding level_fields
level_once m d e h = record {
  level = decimal_once d.level e.level (field_once 3 h);
  inputs = decimal_once d.inputs e.inputs (field_once 5 h);
  outputs = decimal_once d.outputs e.outputs (field_once 7 h);
  bidirs = decimal_once d.bidirs e.bidirs (field_once 9 h);
  count = decimal_once d.chain_count e.chain_count (field_once 11 h);
  chains = lengths_once (chains_of d) (chains_of e) (ap (drop 13) h);
}

-- "X" is not "TotalTests"
position_not_tests : (m : ℕ) (d e : Module) → position_fields m d ≡ tests_fields m e → ⊥
unfolding position_fields tests_fields
position_not_tests m d e h = let z : ◌≡◌ {A = ℕ} 88 84 = ap (λ f. get_or f 0 0) (field_once 2 h) in omega arith

count_once : (m : ℕ) (d e : Module) → tests_fields m d ≡ tests_fields m e → d.test_count ≡ e.test_count
unfolding tests_fields
count_once m d e h = decimal_once d.test_count e.test_count (field_once 3 h)

x_once : (m : ℕ) (d e : Module) → Sayable d.x → Sayable e.x → position_fields m d ≡ position_fields m e → d.x ≡ e.x
unfolding position_fields
x_once m d e p q h = given_once d.x e.x p q (field_once 3 h)

y_once : (m : ℕ) (d e : Module) → Sayable d.y → Sayable e.y → position_fields m d ≡ position_fields m e → d.y ≡ e.y
unfolding position_fields
y_once m d e p q h = given_once d.y e.y p q (field_once 5 h)

-- what stands from a module's second line on
record PositionOnce (d e : Module) (a b : List (List (List ℕ))) : Type 0 where
  x : d.x ≡ e.x
  y : d.y ≡ e.y
  count : d.test_count ≡ e.test_count
  behind : a ≡ b

position_once : (xy : Bool) (m : ℕ) (d e : Module) (ps qs : List (List (List ℕ))) → PositionPart xy m d ps → PositionPart xy m e qs
    → (a b : List (List (List ℕ))) → ps ++ tests_fields m d ∷ a ≡ qs ++ tests_fields m e ∷ b → PositionOnce d e a b
position_once xy m d e ps qs (inl (o, s, t, p)) (inl (o', u, v, q)) a b h =
    let k : position_fields m d ∷ tests_fields m d ∷ a ≡ position_fields m e ∷ tests_fields m e ∷ b = rw (p, q) at h in
    let f : position_fields m d ≡ position_fields m e = cc in
    let g : tests_fields m d ≡ tests_fields m e = cc in
    record { x = x_once m d e s u f; y = y_once m d e t v f; count = count_once m d e g; behind = cc }
position_once xy m d e ps qs (inl (o, s, t, p)) (inr (u, v, q)) a b h =
    let k : position_fields m d ∷ tests_fields m d ∷ a ≡ tests_fields m e ∷ b = rw (p, q) at h in
    absurd (position_not_tests m d e (cc))
position_once xy m d e ps qs (inr (s, t, p)) (inl (o, u, v, q)) a b h =
    let k : tests_fields m d ∷ a ≡ position_fields m e ∷ tests_fields m e ∷ b = rw (p, q) at h in
    absurd (position_not_tests m e d (cc))
position_once xy m d e ps qs (inr (s, t, p)) (inr (u, v, q)) a b h =
    let k : tests_fields m d ∷ a ≡ tests_fields m e ∷ b = rw (p, q) at h in
    let g : tests_fields m d ≡ tests_fields m e = cc in
    record { x = s ∙ sym u; y = t ∙ sym v; count = count_once m d e g; behind = cc }

-- the places behind a module's chains and tests
spare_in_lem : (d : Module) → spare_in d ≡ true → (all_of spare_length (drop d.chain_count d.chains) ≡ true) × (all_of spare_test (drop d.test_count d.tests) ≡ true)
unfolding spare_in
spare_in_lem d h = and_both (all_of spare_length (drop d.chain_count d.chains)) (all_of spare_test (drop d.test_count d.tests)) h

module _ (d e : Module) (y : SizedModule d) (z : SizedModule e) (p : spare_in d ≡ true) (q : spare_in e ≡ true) where
  chains_once : d.chain_count ≡ e.chain_count → chains_of d ≡ chains_of e → d.chains ≡ e.chains
  chains_once n h =
      let b = (spare_in_lem e q).0 in
      front_once (flip_flops 0) d.chain_count d.chains e.chains (y.chains ∙ sym z.chains) (h ∙ ap (λ k. take k e.chains) (sym n))
      (all-spare spare_length (flip_flops 0) spare-length (drop d.chain_count d.chains) (spare_in_lem d p).0)
      (all-spare spare_length (flip_flops 0) spare-length (drop d.chain_count e.chains) (ap (λ k. all_of spare_length (drop k e.chains)) n ∙ b))

  module_tests_once : d.test_count ≡ e.test_count → tests_of d ≡ tests_of e → d.tests ≡ e.tests
  module_tests_once n h =
      let b = (spare_in_lem e q).1 in
      front_once no_test d.test_count d.tests e.tests (y.tests ∙ sym z.tests) (h ∙ ap (λ k. take k e.tests) (sym n))
      (all-spare spare_test no_test spare-test (drop d.test_count d.tests) (spare_in_lem d p).1)
      (all-spare spare_test no_test spare-test (drop d.test_count e.tests) (ap (λ k. all_of spare_test (drop k e.tests)) n ∙ b))

  pub module_once : (power xy : Bool) (m : ℕ) (ls ks : List (List (List ℕ))) → ModuleLines power xy m d ls → ModuleLines power xy m e ks → (a b : List (List (List ℕ))) → ls ++ a ≡ ks ++ b
      → (d ≡ e) × (a ≡ b)
  module_once power xy m ls ks r s a b h =
      let k : level_fields m d ∷ (r.position ++ tests_fields m d ∷ r.tests) ++ a ≡ level_fields m e ∷ (s.position ++ tests_fields m e ∷ s.tests) ++ b = rw (r.lines_are, s.lines_are) at h in
      let f : level_fields m d ≡ level_fields m e = cc in
      let g : (r.position ++ tests_fields m d ∷ r.tests) ++ a ≡ (s.position ++ tests_fields m e ∷ s.tests) ++ b = cc in
      let l = level_once m d e f in
      let o =
      position_once xy m d e r.position s.position r.position_is s.position_is (r.tests ++ a) (s.tests ++ b)
      (sym (append_assoc r.position (tests_fields m d ∷ r.tests) a) ∙ g ∙ append_assoc s.position (tests_fields m e ∷ s.tests) b) in
      let n : length (tests_of d) ≡ length (tests_of e) = taken_once d.test_count e.test_count d.tests e.tests o.count (y.tests ∙ sym z.tests) in
      let t = tests_once r.tests_are s.tests_are n a b o.behind in
      let c = chains_once l.count l.chains in
      let u = module_tests_once o.count t.0 in (
        λ i. record {
          level = l.level i;
          inputs = l.inputs i;
          outputs = l.outputs i;
          bidirs = l.bidirs i;
          chain_count = l.count i;
          chains = c i;
          x = o.x i;
          y = o.y i;
          test_count = o.count i;
          tests = u i;
        },
        t.1,
      )

-- as many modules from the same lines are equal
pub modules_once : {power xy : Bool} {m : ℕ} {ds es : List Module} {ls ks : List (List (List ℕ))} → ModulesLines power xy m ds ls → ModulesLines power xy m es ks → length ds ≡ length es → AllSized ds → AllSized es → all_of spare_in ds ≡ true → all_of spare_in es ≡ true → ls ≡ ks
    → ds ≡ es
unfolding all_of
modules_once ModulesLines.none ModulesLines.none n y z p q h = refl
modules_once ModulesLines.none (ModulesLines.more k s) n y z p q h = absurd (omega arith)
modules_once (ModulesLines.more l r) ModulesLines.none n y z p q h = absurd (omega arith)
modules_once {power = power} {xy = xy} (ModulesLines.more {m} {d} {ds} {ls} {ms} l r) (ModulesLines.more {d = e} {ds = es} {ls = ks} {ms = ns} k s) n y z p q h =
    let a = and_both (spare_in d) (all_of spare_in ds) p in
    let b = and_both (spare_in e) (all_of spare_in es) q in
    let c = module_once d e (sized-first d ds y) (sized-first e es z) a.0 b.0 power xy m ls ks l k ms ns h in
    ap₂ ◌∷◌ c.0 (modules_once r s (omega arith) (sized-rest d ds y) (sized-rest e es z) a.1 b.1 c.1)

-- a record

total_once : (r s : Soc) → total_fields r ≡ total_fields s → r.module_count ≡ s.module_count
unfolding total_fields
total_once r s h = decimal_once r.module_count s.module_count (field_once 1 h)

pub options_once : (r s : Soc) → options_fields r ≡ options_fields s → (r.power ≡ s.power) × (r.xy ≡ s.xy)
unfolding options_fields
options_once r s h = (flag_once r.power s.power (field_once 2 h), flag_once r.xy s.xy (field_once 4 h))

module _ (r s : Soc) (y : Sized r) (z : Sized s) (p : Spare r) (q : Spare s) where
  pub name_once : name_fields r ≡ name_fields s → (r.name_len ≡ s.name_len) × (r.name ≡ s.name)
  unfolding name_fields
  name_once h =
      let k : name_of r ≡ name_of s = field_once 1 h in
      let a : length (name_of r) ≡ r.name_len = length-take-le r.name_len r.name (omega (arith, p.room, y.name)) in
      let b : length (name_of s) ≡ s.name_len = length-take-le s.name_len s.name (omega (arith, q.room, z.name)) in
      let n : r.name_len ≡ s.name_len = sym a ∙ ap length k ∙ b in (
        n,
        front_once {A = ℕ} 0 r.name_len r.name s.name (y.name ∙ sym z.name) (k ∙ ap (λ i. take i s.name) (sym n))
            (all-spare rules.none 0 (λ x. eqb-true x 0) (drop r.name_len r.name) p.name)
            (all-spare rules.none 0 (λ x. eqb-true x 0) (drop r.name_len s.name) (ap (λ i. all_of rules.none (drop i s.name)) n ∙ q.name)),
      )

  all-modules_once : r.module_count ≡ s.module_count → modules_of r ≡ modules_of s → r.modules ≡ s.modules
  all-modules_once n h =
      front_once no_module r.module_count r.modules s.modules (y.modules ∙ sym z.modules) (h ∙ ap (λ k. take k s.modules) (sym n))
      (spare-modules (drop r.module_count r.modules) (sized_back r.module_count r.modules (sized-modules r y)) p.modules)
      (spare-modules (drop r.module_count s.modules) (sized_back r.module_count s.modules (sized-modules s z)) (ap (λ k. all_of spare_module (drop k s.modules)) n ∙ q.modules))

pub lines_once : (ls : List (List (List ℕ))) (r s : Soc) → Sized r → Sized s → Describes r ls → Describes s ls → r ≡ s
lines_once ls r s y z p q =
    let e : name_fields r ∷ total_fields r ∷ options_fields r ∷ p.modules ≡ name_fields s ∷ total_fields s ∷ options_fields s ∷ q.modules = sym p.lines_are ∙ q.lines_are in
    let f : name_fields r ≡ name_fields s = cc in
    let g : total_fields r ≡ total_fields s = cc in
    let h : options_fields r ≡ options_fields s = cc in
    let k : p.modules ≡ q.modules = cc in
    let name = name_once r s y z p.spare q.spare f in
    let count = total_once r s g in
    let o = options_once r s h in
    let a : ModulesLines s.power s.xy 0 (modules_of r) p.modules = rw (o.0, o.1) at p.modules_are in
    let n : length (modules_of r) ≡ length (modules_of s) = taken_once r.module_count s.module_count r.modules s.modules count (y.modules ∙ sym z.modules) in
    let m = modules_once a q.modules_are n (sized-front r.module_count r.modules (sized-modules r y)) (sized-front s.module_count s.modules (sized-modules s z)) p.spare.within q.spare.within k in
    let modules = all-modules_once r s y z p.spare q.spare count m in
    λ i. record {
      name_len = name.0 i;
      name = name.1 i;
      power = o.0 i;
      xy = o.1 i;
      module_count = count i;
      modules = modules i;
    }

-- a text describes one record at most
pub described_once : (t : List ℕ) (r s : Soc) → Sized r → Sized s → Describes r (field_lines t) → Describes s (field_lines t) → r ≡ s
described_once t = lines_once (field_lines t)
