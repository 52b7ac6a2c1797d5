-- Laws of an overlay's modules laid over a base's: what stays, that the modules are good, and what an overlay with all modules and one with
-- the base's own make of it. Assumes nothing.
use Prim.Native.Nat.{ℕ, zero, suc, ◌+◌, ◌≤◌, ◌<◌}
use native.Mathlib.Omega.{arith}
use mathlib.Core.Path.{◌≡◌, refl, ap, ap₂, ◌∙◌}
use mathlib.Core.Bool.{Bool, true, false, cond, ◌&&◌}
use mathlib.Core.List.{List, [], ◌∷◌, ◌++◌}
use borrow.Author.Tests.{ltb-true, eqb-true}
use lib.Dec.{leb, ltb, eqb}
use lib.ListN.{length, get_or, take, drop, replicate}
use Rattle.units.proofs.TestLaws.{clash, and_both, and_holds}
use Rattle.soc.specs.Record.{no_module}
use Rattle.soc.specs.Limits.{level_max}
use Rattle.soc.specs.Rules.{level_rule, good_terminals, good_chains, good_position, good_tests, good_module, good_modules}
use Rattle.soc.specs.declared.record.Module.{Module}
use Rattle.pair.specs.Pair.{place_fits, places_fit, laid}
use Rattle.late_changes.specs.Blocks.{GoodBut}

pub laid-length : (hs : List Bool) (os bs : List Module) → length (laid hs os bs) ≡ length bs
unfolding laid
laid-length [] os bs = refl
laid-length (h ∷ hs) [] bs = refl
laid-length (h ∷ hs) (o ∷ os) [] = refl
laid-length (h ∷ hs) (o ∷ os) (b ∷ bs) = ap suc (laid-length hs os bs)

-- a module that the overlay has is in the base, and has its level there
pub place-fits : (n m : ℕ) (o b : Module) → place_fits n m true o b ≡ true → (m < n) × (o.level ≡ b.level)
unfolding place_fits
place-fits n m o b e =
    let a = and_both (ltb m n) (eqb o.level b.level) e in
    (ltb-true m n a.0, eqb-true o.level b.level a.1)

-- a module of a SOC text keeps the level rule
pub rule_of : (power xy : Bool) (m last : ℕ) (d : Module) → good_module power xy m last d ≡ true → level_rule m last d.level ≡ true
unfolding good_module
rule_of power xy m last d g =
    let r = good_terminals d && (good_chains d && (good_position xy d.x d.y && good_tests m power d)) in
    (and_both (level_rule m last d.level) r (and_both (leb d.level level_max) (level_rule m last d.level && r) g).1).0

-- the combined modules keep the limits and rules, as the base's do
module _ (power xy : Bool) (n : ℕ) where
  one-good : (m last : ℕ) (h : Bool) (o b : Module) → good_module power xy m last b ≡ true → place_fits n m h o b ≡ true → (h ≡ true → GoodBut power xy m o)
      → (good_module power xy m last (cond h o b) ≡ true) × ((cond h o b).level ≡ b.level)
  one-good m last true o b g f k =
      let p = place-fits n m o b f in
      ((k refl).good last (ap (level_rule m last) p.1 ∙ rule_of power xy m last b g), p.1)
  one-good m last false o b g f k = (g, refl)

  pub laid-good : (k m last : ℕ) (hs : List Bool) (os bs : List Module) → good_modules power xy m last (take k bs) ≡ true → places_fit n m hs os bs ≡ true
      → ((i : ℕ) → get_or hs i false ≡ true → GoodBut power xy (m + i) (get_or os i no_module)) → good_modules power xy m last (take k (laid hs os bs)) ≡ true
  unfolding laid places_fit good_modules
  laid-good zero m last hs os bs g f e = refl
  laid-good (suc k) m last [] os bs g f e = g
  laid-good (suc k) m last (h ∷ hs) [] bs g f e = g
  laid-good (suc k) m last (h ∷ hs) (o ∷ os) [] g f e = g
  laid-good (suc k) m last (h ∷ hs) (o ∷ os) (b ∷ bs) g f e =
      let a = and_both (good_module power xy m last b) (good_modules power xy (suc m) b.level (take k bs)) g in
      let c = and_both (place_fits n m h o b) (places_fit n (suc m) hs os bs) f in
      let z : m + 0 ≡ m = omega arith in
      let u = one-good m last h o b a.0 c.0 (λ t. rw z at (e 0 t)) in
      let r = laid-good k (suc m) b.level hs os bs a.1 c.1 (λ i t. let w : m + suc i ≡ suc m + i = omega arith in rw w at (e (suc i) t)) in
      and_holds u.0 (ap (λ v. good_modules power xy (suc m) v (take k (laid hs os bs))) u.1 ∙ r)

-- behind the base's modules nothing changes
module _ (n : ℕ) where
  laid_beyond : (m : ℕ) (hs : List Bool) (os bs : List Module) → n ≤ m → places_fit n m hs os bs ≡ true → laid hs os bs ≡ bs
  unfolding laid places_fit
  laid_beyond m [] os bs h f = refl
  laid_beyond m (t ∷ hs) [] bs h f = refl
  laid_beyond m (t ∷ hs) (o ∷ os) [] h f = refl
  laid_beyond m (t ∷ hs) (o ∷ os) (b ∷ bs) h f =
      let c = and_both (place_fits n m t o b) (places_fit n (suc m) hs os bs) f in
      ap₂ (λ d ds. d ∷ ds) (go t c.0) (laid_beyond (suc m) hs os bs (omega arith) c.1)
    where
      go : (t : Bool) → place_fits n m t o b ≡ true → cond t o b ≡ b
      go true e = let p = place-fits n m o b e in absurd (omega arith)
      go false e = refl

  pub laid-behind : (k m : ℕ) (hs : List Bool) (os bs : List Module) → n ≤ m + k → places_fit n m hs os bs ≡ true → drop k (laid hs os bs) ≡ drop k bs
  unfolding laid places_fit
  laid-behind zero m hs os bs h f = laid_beyond m hs os bs (omega arith) f
  laid-behind (suc k) m [] os bs h f = refl
  laid-behind (suc k) m (t ∷ hs) [] bs h f = refl
  laid-behind (suc k) m (t ∷ hs) (o ∷ os) [] h f = refl
  laid-behind (suc k) m (t ∷ hs) (o ∷ os) (b ∷ bs) h f = laid-behind k (suc m) hs os bs (omega arith) (and_both (place_fits n m t o b) (places_fit n (suc m) hs os bs) f).1

-- "The lines of a module are the overlay's if it has that module, otherwise the base's"
pub laid-at : (m : ℕ) (hs : List Bool) (os bs : List Module) (z : Module) → m < length hs → m < length os → m < length bs → get_or (laid hs os bs) m z ≡ cond (get_or hs m false) (get_or os m z) (get_or bs m z)
unfolding laid
laid-at m [] os bs z h k l = absurd (omega arith)
laid-at m (t ∷ hs) [] bs z h k l = absurd (omega arith)
laid-at m (t ∷ hs) (o ∷ os) [] z h k l = absurd (omega arith)
laid-at zero (t ∷ hs) (o ∷ os) (b ∷ bs) z h k l = refl
laid-at (suc m) (t ∷ hs) (o ∷ os) (b ∷ bs) z h k l = laid-at m hs os bs z (omega arith) (omega arith) (omega arith)

-- an overlay that has the first n modules: of the base's nothing stays there
pub laid-all : (n : ℕ) (hs : List Bool) (os bs : List Module) → n ≤ length os → n ≤ length bs → take n hs ≡ replicate n true → laid hs os bs ≡ take n os ++ laid (drop n hs) (drop n os) (drop n bs)
unfolding laid
laid-all zero hs os bs k l e = refl
laid-all (suc n) [] os bs k l e = clash cc
laid-all (suc n) (h ∷ hs) [] bs k l e = absurd (omega arith)
laid-all (suc n) (h ∷ hs) (o ∷ os) [] k l e = absurd (omega arith)
laid-all (suc n) (h ∷ hs) (o ∷ os) (b ∷ bs) k l e =
    let t : h ≡ true = cc in
    let u : take n hs ≡ replicate n true = cc in
    ap₂ (λ d ds. d ∷ ds) (ap (λ x. cond x o b) t) (laid-all n hs os bs (omega arith) (omega arith) u)

-- an overlay that has the base's own modules changes nothing
pub laid_own : (hs : List Bool) (os bs : List Module) → ((m : ℕ) → get_or hs m false ≡ true → get_or os m no_module ≡ get_or bs m no_module) → laid hs os bs ≡ bs
unfolding laid
laid_own [] os bs e = refl
laid_own (h ∷ hs) [] bs e = refl
laid_own (h ∷ hs) (o ∷ os) [] e = refl
laid_own (h ∷ hs) (o ∷ os) (b ∷ bs) e = ap₂ (λ d ds. d ∷ ds) (go h (e 0)) (laid_own hs os bs (λ m t. e (suc m) t))
  where
    go : (t : Bool) → (t ≡ true → o ≡ b) → cond t o b ≡ b
    go true k = k refl
    go false k = refl
