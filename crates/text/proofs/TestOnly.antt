-- Laws of a test's line that is read (document 01, "The SOC text": `Test` to `Power`): what a reading that gives figures says of the
-- fields and of the figures. Assumes nothing.
use Prim.Native.Nat.{ℕ, ◌≤◌}
use mathlib.Core.Path.{◌≡◌, refl, sym, ap, ◌∙◌}
use mathlib.Core.Bool.{Bool, true, false}
use mathlib.Core.List.{List, [], ◌∷◌}
use mathlib.Core.Logic.{◌⊎◌, inl, inr}
use native.Mathlib.Omega.{arith}
use borrow.Author.Tests.{le-leb}
use lib.IntN.{ℤ}
use Rattle.std.specs.Prelude.{Ok}
use Rattle.units.proofs.TestLaws.{clash}
use Rattle.fields.specs.Bytes.{bytes}
use Rattle.fields.specs.Readers.{got, FieldsGot}
use Rattle.fields.specs.WrittenLines.{decimal}
use Rattle.soc.specs.Limits.{patterns_max, power_max}
use Rattle.soc.specs.Record.{not_given}
use Rattle.soc.specs.Rules.{good_power, pins_rule, good_test}
use Rattle.soc.specs.declared.record.Test.{Test}
use Rattle.text_lines.specs.Parts.{whole, pins}
use Rattle.text_lines.specs.Kinds.{power_part, uses, test_due, patterns_part, test_line}
use Rattle.text_lines.specs.declared.test.Uses.{Uses}
use Rattle.text_lines.specs.LineFields.{flag_field, given_field, module_fields, power_fields, test_fields}
use Rattle.text.specs.Describes.{Sayable, PowerPart}
use Rattle.text.proofs.LineBack.{may_say}
use Rattle.text.proofs.PartOnly.{closed_only, after_only, keyed_only, key-due_only, key-flag_only, key-given_only}

-- the parts of a test line

test-due-part : (m i : ℕ) (fs : List (List ℕ)) (u : Unit {0}) (gs : List (List ℕ)) → test_due m i fs ≡ got u gs → fs ≡ module_fields m (bytes "Test" ∷ decimal i ∷ gs)
unfolding test_due
test-due-part m i fs u gs h =
    let a = after_only h in
    let d = key-due_only (bytes "Module") fs a.left m a.value a.first in
    let t = key-due_only (bytes "Test") a.left gs i u a.second in
    cc

pins-part : (t : Bool) (fs : List (List ℕ)) (u : Unit {0}) (gs : List (List ℕ)) → pins t fs ≡ got u gs → (t ≡ true) × (fs ≡ gs)
unfolding pins
pins-part true fs u gs h = (refl, cc)
pins-part false fs u gs h = clash cc

uses-part : (m : ℕ) (fs : List (List ℕ)) (u : Uses) (gs : List (List ℕ)) → uses m fs ≡ got u gs
    → (pins_rule m u.tam ≡ true) × (fs ≡ bytes "ScanUse" ∷ flag_field u.scan ∷ bytes "TamUse" ∷ flag_field u.tam ∷ gs)
unfolding uses
uses-part m fs u gs h =
    let a = after_only h in
    let b = after_only a.second in
    let r = after_only b.second in
    let p = pins-part (pins_rule m b.value) b.left r.value r.left r.first in
    let s = key-flag_only (bytes "ScanUse") fs a.left a.value a.first in
    let t = key-flag_only (bytes "TamUse") a.left b.left b.value b.first in
    let q : b.left ≡ r.left = p.1 in
    let e : u ≡ record { scan = a.value; tam = b.value } = cc in
    let x : u.scan ≡ a.value = ap (λ (r : Uses). r.scan) e in
    let y : u.tam ≡ b.value = ap (λ (r : Uses). r.tam) e in
    (ap (pins_rule m) y ∙ p.0, cc)

record PowerSays (power : Bool) (fs : List (List ℕ)) (w : ℤ) : Type 0 where
  good : good_power power w ≡ true
  fields : ((power ≡ true) × Sayable w × (fs ≡ bytes "Power" ∷ given_field w ∷ [])) ⊎ ((w ≡ not_given) × (fs ≡ []))

power_out_lem : (power : Bool) (fs : List (List ℕ)) (w : ℤ) → ◌≡◌ {A = FieldsGot ℤ} (got not_given fs) (got w []) → PowerSays power fs w
unfolding good_power
power_out_lem power fs w h =
    let e : w ≡ not_given = cc in
    record { good = ap (good_power power) e; fields = inr (e, cc) }

power-part : (power : Bool) (fs : List (List ℕ)) (w : ℤ) → power_part power fs ≡ got w [] → PowerSays power fs w
unfolding power_part good_power
power-part false fs w h = power_out_lem false fs w h
power-part true [] w h = power_out_lem true [] w h
power-part true (f ∷ fs) w h =
    let k = key-given_only (bytes "Power") (f ∷ fs) [] power_max w h in
    record { good = k.may; fields = inl (refl, may_say power_max w k.may, k.fields) }

record PatternsSay (m : ℕ) (power : Bool) (u : Uses) (fs : List (List ℕ)) (t : Test) : Type 0 where
  left : List (List ℕ)
  fields : fs ≡ bytes "Patterns" ∷ decimal t.patterns ∷ left
  scan : t.scan_use ≡ u.scan
  tam : t.tam_use ≡ u.tam
  good : good_test m power t ≡ true
  behind : PowerSays power left t.power

patterns-part : (m : ℕ) (power : Bool) (u : Uses) (fs : List (List ℕ)) (t : Test) → pins_rule m u.tam ≡ true
    → patterns_part power u fs ≡ got t [] → PatternsSay m power u fs t
unfolding patterns_part good_test
patterns-part m power u fs t r h =
    let a = after_only h in
    let b = after_only a.second in
    let k = keyed_only (bytes "Patterns") fs a.left 1 patterns_max a.value a.first in
    let s : b.left ≡ [] = cc in
    let w = power-part power a.left b.value (b.first ∙ ap (got b.value) s) in
    let e : record { scan_use = u.scan; tam_use = u.tam; patterns = a.value; power = b.value } ≡ t = cc in
    let n : a.value ≡ t.patterns = ap (λ (r : Test). r.patterns) e in
    let q : b.value ≡ t.power = ap (λ (r : Test). r.power) e in
    let v : PowerSays power a.left t.power = rw q at w in
    let y : t.tam_use ≡ u.tam = ap (λ (r : Test). r.tam_use) (sym e) in
    let g : pins_rule m t.tam_use ≡ true = ap (pins_rule m) y ∙ r in
    let l : 1 ≤ t.patterns = omega (arith, k.least) in
    let x : t.patterns ≤ patterns_max = omega (arith, k.most) in
    record {
      left = a.left;
      fields = cc;
      scan = ap (λ (r : Test). r.scan_use) (sym e);
      tam = y;
      good = simp (g, le-leb 1 t.patterns l, le-leb t.patterns patterns_max x, v.good);
      behind = v;
    }

-- a test line

pub record TestSays (m i : ℕ) (power : Bool) (fs : List (List ℕ)) (t : Test) : Type 0 where
  pub last : List (List ℕ)
  pub fields : fs ≡ test_fields m i t last
  pub good : good_test m power t ≡ true
  pub behind : PowerPart power t last

pub test_only : (m i : ℕ) (power : Bool) (fs : List (List ℕ)) (t : Test) → whole (test_line m i power) fs ≡ Ok t → TestSays m i power fs t
unfolding test_line test_fields power_fields
test_only m i power fs t h =
    let a = after_only (closed_only (test_line m i power fs) t h) in
    let b = after_only a.second in
    let d = test-due-part m i fs a.value a.left a.first in
    let u = uses-part m a.left b.value b.left b.first in
    let g : a.left ≡ bytes "ScanUse" ∷ flag_field b.value.scan ∷ bytes "TamUse" ∷ flag_field b.value.tam ∷ b.left = u.1 in
    let p = patterns-part m power b.value b.left t u.0 b.second in
    let x : t.scan_use ≡ b.value.scan = p.scan in
    let y : t.tam_use ≡ b.value.tam = p.tam in
    record { last = p.left; fields = cc; good = p.good; behind = p.behind.fields }
