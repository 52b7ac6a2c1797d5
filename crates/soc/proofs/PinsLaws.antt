-- Laws of module 0 (document 02, item 6): in a good record it is not planned, so at most 39 modules are. Assumes nothing.
use Prim.Native.Nat.{ℕ, zero, suc, ◌≤◌, ◌<◌, ◌-◌}
use native.Mathlib.Omega.{arith}
use mathlib.Core.Path.{◌≡◌, refl, sym}
use mathlib.Core.Bool.{Bool, true, false, cond}
use mathlib.Core.List.{List, [], ◌∷◌}
use lib.ListN.{length, get_or, drop, length-drop, length-take}
use Rattle.units.specs.Places.{all_of, any_of}
use Rattle.units.proofs.TestLaws.{and_both}
use Rattle.soc.specs.Limits.{modules_max}
use Rattle.soc.specs.Record.{modules_of, tests_of}
use Rattle.soc.specs.Rules.{pins_rule, good_test, good_module, good_modules, good_soc}
use Rattle.soc.specs.Planned.{on_tam, is_planned, planned_from, planned_of}
use Rattle.soc.specs.declared.record.Test.{Test}
use Rattle.soc.specs.declared.record.Module.{Module}
use Rattle.soc.specs.declared.record.Soc.{Soc}
use Rattle.soc.proofs.GoodSocLaws.{module_figures, soc-figures}

-- good tests of module 0 are not on the TAM
off_tam : (tam : Bool) → pins_rule 0 tam ≡ true → tam ≡ false
unfolding pins_rule
off_tam true h = sym h
off_tam false h = refl

none_on_tam : (power : Bool) (ts : List Test) → all_of (good_test 0 power) ts ≡ true → any_of on_tam ts ≡ false
unfolding all_of any_of good_test
none_on_tam power [] h = refl
none_on_tam power (t ∷ ts) h =
    let a = and_both (good_test 0 power t) (all_of (good_test 0 power) ts) h in
    simp (off_tam t.tam_use (and_both (pins_rule 0 t.tam_use) _ a.0).0, none_on_tam power ts a.1)

zero_not_planned : (power xy : Bool) (last : ℕ) (d : Module) → good_module power xy 0 last d ≡ true → is_planned d ≡ false
unfolding is_planned
zero_not_planned power xy last d h = none_on_tam power (tests_of d) (module_figures power xy 0 last d h).tests

-- the planned modules from number m on have a number from m on, and are no more than the modules
low_step : (m : ℕ) (b : Bool) (ns : List ℕ) → ((i : ℕ) → i < length ns → suc m ≤ get_or ns i 0) → (i : ℕ) → i < length (cond b (m ∷ ns) ns)
    → m ≤ get_or (cond b (m ∷ ns) ns) i 0
low_step m true ns r zero h = omega arith
low_step m true ns r (suc i) h = omega (arith, r i (omega arith))
low_step m false ns r i h = omega (arith, r i h)

few_step : (m n : ℕ) (b : Bool) (ns : List ℕ) → length ns ≤ n → length (cond b (m ∷ ns) ns) ≤ suc n
few_step m n true ns h = omega arith
few_step m n false ns h = omega arith

planned-low : (m : ℕ) (ds : List Module) (i : ℕ) → i < length (planned_from m ds) → m ≤ get_or (planned_from m ds) i 0
unfolding planned_from
planned-low m [] i h = absurd (omega arith)
planned-low m (d ∷ ds) i h = low_step m (is_planned d) (planned_from (suc m) ds) (planned-low (suc m) ds) i h

planned-few : (m : ℕ) (ds : List Module) → length (planned_from m ds) ≤ length ds
unfolding planned_from
planned-few m [] = omega arith
planned-few m (d ∷ ds) = few_step m (length ds) (is_planned d) (planned_from (suc m) ds) (planned-few (suc m) ds)

-- of a good record: the planned modules are those from number 1 on
planned-behind : (power xy : Bool) (ds : List Module) → good_modules power xy 0 0 ds ≡ true → planned_from 0 ds ≡ planned_from 1 (drop 1 ds)
unfolding planned_from good_modules
planned-behind power xy [] h = refl
planned-behind power xy (d ∷ ds) h =
    rw (zero_not_planned power xy 0 d (and_both (good_module power xy 0 0 d) (good_modules power xy 1 d.level ds) h).0)

module _ (s : Soc) (good : good_soc s ≡ true) where
  pub planned-from-one : planned_of s ≡ planned_from 1 (drop 1 (modules_of s))
  planned-from-one = planned-behind s.power s.xy (modules_of s) (soc-figures s good).modules

  -- "By document 003 the top module's terminals are the SOC's pins": module 0 is never planned
  pub planned-above-zero : (i : ℕ) → i < length (planned_of s) → 1 ≤ get_or (planned_of s) i 0
  planned-above-zero i h = rw planned-from-one (planned-low 1 (drop 1 (modules_of s)) i (rw planned-from-one at h))

  -- "as many planned modules as a text can have, now 39 at most"
  pub planned-most : length (planned_of s) ≤ modules_max - 1
  planned-most =
      rw planned-from-one (omega (
        arith,
        planned-few 1 (drop 1 (modules_of s)),
        length-drop 1 (modules_of s),
        length-take s.module_count s.modules,
        (soc-figures s good).module_count,
      ))
