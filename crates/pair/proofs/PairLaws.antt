-- Laws of the tests of a pair and of the combined modules, as a loop walks them. Assumes nothing.
use Prim.Native.Nat.{ℕ, suc, ◌+◌, ◌≤◌, ◌<◌}
use native.Mathlib.Numerals.{add-one}
use native.Mathlib.Omega.{arith}
use mathlib.Core.Path.{◌≡◌, sym}
use mathlib.Core.Bool.{Bool, true, false}
use mathlib.Core.List.{List, ◌++◌}
use lib.ListN.{length, get_or, take, drop, set, drop_of_length-le, take-append-drop}
use lib.Seq.{drop-cons, take-suc, take-suc-set, append_snoc}
use Rattle.std.proofs.lemmas.List.{drop-set-lt}
use Rattle.units.proofs.TestLaws.{and_stops, and_goes}
use Rattle.soc.specs.Record.{no_module}
use Rattle.soc.specs.declared.record.Module.{Module}
use Rattle.pair.specs.Pair.{place_fits, places_fit, laid}

-- at place m of the three lists
module _ (m : ℕ) (hs : List Bool) (os bs : List Module) (h : Bool) (o b : Module) (lh : m < length hs) (lo : m < length os) (lb : m < length bs) where
  pub fit_stops : (n : ℕ) → place_fits n m (get_or hs m h) (get_or os m o) (get_or bs m b) ≡ false → places_fit n m (drop m hs) (drop m os) (drop m bs) ≡ false
  unfolding places_fit
  fit_stops n e = rw (drop-cons hs m h, drop-cons os m o, drop-cons bs m b) (and_stops _ _ e)

  pub fit_goes : (n : ℕ) → place_fits n m (get_or hs m h) (get_or os m o) (get_or bs m b) ≡ true
      → places_fit n m (drop m hs) (drop m os) (drop m bs) ≡ places_fit n (m + 1) (drop (m + 1) hs) (drop (m + 1) os) (drop (m + 1) bs)
  unfolding places_fit
  fit_goes n e = rw (add-one, drop-cons hs m h, drop-cons os m o, drop-cons bs m b) (and_goes _ _ e)

pub fit_end : (n m : ℕ) (hs : List Bool) (os bs : List Module) → length hs ≤ m → places_fit n m (drop m hs) os bs ≡ true
unfolding places_fit
fit_end n m hs os bs e = rw (drop_of_length-le hs e)

-- one more place is laid, in a list that has the base's modules from there on
module _ (m : ℕ) (hs : List Bool) (os l : List Module) (lh : m < length hs) (lo : m < length os) (ll : m < length l) where
  abbrev Laid : List Module → Type 0
  Laid k = take m l ++ laid (drop m hs) (drop m os) (drop m l) ≡ take (m + 1) k ++ laid (drop (m + 1) hs) (drop (m + 1) os) (drop (m + 1) k)

  pub laid-over : (v o : Module) → get_or hs m false ≡ true → v ≡ get_or os m o → Laid (set l m v)
  unfolding laid
  laid-over v o t e =
      let k : m < suc m = omega arith in
      rw (drop-cons hs m false, drop-cons os m o, drop-cons l m o, add-one, take-suc-set l m v ll, drop-set-lt (suc m) l m v k, e, t)
      (sym (append_snoc (take m l) (get_or os m o) (laid (drop (suc m) hs) (drop (suc m) os) (drop (suc m) l))))

  pub laid_base : get_or hs m false ≡ false → Laid l
  unfolding laid
  laid_base t =
      rw (drop-cons hs m false, drop-cons os m no_module, drop-cons l m no_module, add-one, take-suc l m no_module ll, t)
      (sym (append_snoc (take m l) (get_or l m no_module) (laid (drop (suc m) hs) (drop (suc m) os) (drop (suc m) l))))

-- all places are laid
pub laid_all : (m : ℕ) (hs : List Bool) (os l : List Module) → length hs ≤ m → take m l ++ laid (drop m hs) (drop m os) (drop m l) ≡ l
unfolding laid
laid_all m hs os l h = rw (drop_of_length-le hs h) (take-append-drop m l)
