-- Laws of the module that is asked for: as code holds it, and that one that is found is within the limits. Assumes nothing.
use Prim.Native.Nat.{ℕ, ◌≤◌, ◌<◌}
use mathlib.Core.Path.{◌≡◌, refl, ap}
use mathlib.Core.Bool.{Bool, true, false, cond, ◌&&◌}
use lib.Dec.{leb, ltb}
use borrow.Author.Tests.{leb-true, ltb-true}
use Rattle.std.specs.Prelude.{Ok, Err}
use Rattle.units.specs.declared.Fault.{Fault}
use Rattle.units.specs.declared.Fault.TheVariants.{Width, NotThere, BadSoc, Capture}
use Rattle.units.proofs.TestLaws.{clash, and_both}
use Rattle.soc.specs.Rules.{good_soc}
use Rattle.soc.specs.declared.record.Module.{Module}
use Rattle.soc.specs.declared.record.Soc.{Soc}
use Rattle.wrapper_fit.specs.Maxima.{width_max, capture_max}
use Rattle.wrapper_scans.specs.Asked.{module_at, asked_module}
use Rattle.wrapper_scans.specs.Held.{found_module}
use Rattle.wrapper_scans.specs.Scans.{Kept}
use Rattle.wrapper_scans.proofs.KeptLaws.{good-kept}

-- the module that is asked for, as code holds it
module _ {A : Type 0} (s : Soc) (m w c : ℕ) (f : Fault → A) (g : Module → A) where
  pub module_refused : (e : Fault) → found_module s m w c ≡ Err e → f e ≡ asked_module s m w c f g
  unfolding asked_module found_module
  module_refused e h = go (good_soc s) (leb 1 w && leb w width_max) (leb 1 c && leb c capture_max) (ltb m s.module_count) h
    where
      go : (x y v z : Bool)
          → cond x (cond y (cond v (cond z (Ok (module_at s m)) (Err NotThere)) (Err Capture)) (Err Width)) (Err BadSoc) ≡ Err e
          → f e ≡ cond x (cond y (cond v (cond z (g (module_at s m)) (f NotThere)) (f Capture)) (f Width)) (f BadSoc)
      go true true true true h = clash cc
      go true true true false h = let k : e ≡ NotThere = cc in ap f k
      go true true false z h = let k : e ≡ Capture = cc in ap f k
      go true false v z h = let k : e ≡ Width = cc in ap f k
      go false y v z h = let k : e ≡ BadSoc = cc in ap f k

  pub module_found : (d : Module) → found_module s m w c ≡ Ok d → g d ≡ asked_module s m w c f g
  unfolding asked_module found_module
  module_found d h = go (good_soc s) (leb 1 w && leb w width_max) (leb 1 c && leb c capture_max) (ltb m s.module_count) h
    where
      go : (x y v z : Bool)
          → cond x (cond y (cond v (cond z (Ok (module_at s m)) (Err NotThere)) (Err Capture)) (Err Width)) (Err BadSoc) ≡ Ok d
          → g d ≡ cond x (cond y (cond v (cond z (g (module_at s m)) (f NotThere)) (f Capture)) (f Width)) (f BadSoc)
      go true true true true h = let k : d ≡ module_at s m = cc in ap g k
      go true true true false h = clash cc
      go true true false z h = clash cc
      go true false v z h = clash cc
      go false y v z h = clash cc

-- a module that is found is within the limits, and so are the width and the capture cycles
pub record Found (d : Module) (w c : ℕ) : Type 0 where
  pub kept : Kept d
  pub some : 0 < w
  pub most : w ≤ 64
  pub capture : c ≤ capture_max

pub found-kept : (s : Soc) (m w c : ℕ) (d : Module) → found_module s m w c ≡ Ok d → Found d w c
unfolding found_module asked_module
found-kept s m w c d e =
    go (good_soc s) (leb 1 w && leb w width_max) (leb 1 c && leb c capture_max) (ltb m s.module_count) refl refl refl refl e
  where
    go : (x y v z : Bool) → good_soc s ≡ x → (leb 1 w && leb w width_max) ≡ y → (leb 1 c && leb c capture_max) ≡ v
        → ltb m s.module_count ≡ z
        → cond x (cond y (cond v (cond z (Ok (module_at s m)) (Err NotThere)) (Err Capture)) (Err Width)) (Err BadSoc) ≡ Ok d
        → Found d w c
    go true true true true p q o r h =
        let b = and_both (leb 1 w) (leb w width_max) q in
        let k : module_at s m ≡ d = cc in
        record {
          kept = rw (← k) (good-kept s m p (ltb-true m s.module_count r));
          some = leb-true 1 w b.0;
          most = leb-true w width_max b.1;
          capture = leb-true c capture_max (and_both (leb 1 c) (leb c capture_max) o).1;
        }
    go true true true false p q o r h = clash cc
    go true true false z p q o r h = clash cc
    go true false v z p q o r h = clash cc
    go false y v z p q o r h = clash cc
