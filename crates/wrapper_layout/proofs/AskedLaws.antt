-- Laws of the test that is asked for, as code holds it. Assumes nothing.
use Prim.Native.Nat.{ℕ, ◌-◌, ◌≤◌}
use mathlib.Core.Path.{◌≡◌, ap}
use mathlib.Core.Bool.{Bool, true, false, cond, ◌&&◌}
use lib.Dec.{leb}
use lib.ListN.{get_or}
use Rattle.std.specs.Prelude.{Ok, Err}
use Rattle.units.specs.declared.Fault.{Fault}
use Rattle.units.specs.declared.Fault.TheVariants.{NotThere}
use Rattle.units.proofs.TestLaws.{clash}
use Rattle.soc.specs.Record.{no_test}
use Rattle.soc.specs.declared.record.Test.{Test}
use Rattle.soc.specs.declared.record.Module.{Module}
use Rattle.wrapper_scans.specs.Scans.{Kept}
use Rattle.wrapper_layout.specs.LayoutAnswers.{asked_test}
use Rattle.wrapper_layout.specs.Held.{found_test}

-- the test that is asked for
module _ {A : Type 0} (d : Module) (i : ℕ) (f : Fault → A) (g : Test → A) where
  pub test-refused : (n : Fault) → found_test d i ≡ Err n → f n ≡ asked_test d i f g
  unfolding asked_test found_test
  test-refused n e = go (leb 1 i && leb i d.test_count) e
    where
      go : (x : Bool) → cond x (Ok (get_or d.tests (i - 1) no_test)) (Err NotThere) ≡ Err n
          → f n ≡ cond x (g (get_or d.tests (i - 1) no_test)) (f NotThere)
      go true e = clash cc
      go false e = let h : n ≡ NotThere = cc in ap f h

  pub test-found : (t : Test) → found_test d i ≡ Ok t → g t ≡ asked_test d i f g
  unfolding asked_test found_test
  test-found t e = go (leb 1 i && leb i d.test_count) e
    where
      go : (x : Bool) → cond x (Ok (get_or d.tests (i - 1) no_test)) (Err NotThere) ≡ Ok t
          → g t ≡ cond x (g (get_or d.tests (i - 1) no_test)) (f NotThere)
      go true e = let h : t ≡ get_or d.tests (i - 1) no_test = cc in ap g h
      go false e = clash cc

pub found-few : (d : Module) (i : ℕ) (t : Test) → Kept d → found_test d i ≡ Ok t → t.patterns ≤ 16777215
unfolding asked_test found_test
found-few d i t k e = go (leb 1 i && leb i d.test_count) e
  where
    go : (x : Bool) → cond x (Ok (get_or d.tests (i - 1) no_test)) (Err NotThere) ≡ Ok t → t.patterns ≤ 16777215
    go true e = let h : get_or d.tests (i - 1) no_test ≡ t = cc in rw (← h) (k.patterns (i - 1))
    go false e = clash cc
