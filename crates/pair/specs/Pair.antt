-- The pair of a SOC text, the base, and an overlay (document 02, item 3): the combined description, or the first refusal and the text
-- that is meant.
use Rattle.std.specs.Prelude.{ℕ, suc, Bool, true, cond, not, ◌&&◌, List, [], ◌∷◌, ltb, eqb, Result, Ok, Err}
use Rattle.units.specs.Refusals.{refused}
use Rattle.units.specs.declared.Fault.TheVariants.{OtherBase}
use Rattle.units.specs.declared.Refusal.{Refusal}
use Rattle.fields.specs.Bytes.{same_bytes}
use Rattle.soc.specs.declared.record.Module.{Module}
use Rattle.soc.specs.declared.record.Soc.{Soc}
use Rattle.text_reader.specs.Reading.{read_soc}
use Rattle.overlay.specs.Overlay.{read_overlay}
use Rattle.overlay.specs.declared.read.Overlay.{Overlay}
use Rattle.pair.specs.declared.read.Meant.{Meant}
use Rattle.pair.specs.declared.read.Meant.TheVariants as meant
use Rattle.pair.specs.declared.read.PairRead.{PairRead}
use Rattle.pair.specs.declared.read.PairRefusal.{PairRefusal}

abbrev pub same_flag : Bool → Bool → Bool
same_flag a b = cond a b (not b)

-- "15 .. when name or options differ from the base"
unfoldable pub same_head : Soc → Overlay → Bool
same_head s o =
    eqb s.name_len o.name_len && (same_bytes s.name o.name && (same_flag s.power o.power && same_flag s.xy o.xy))

-- "a module isn't in the base, or its level differs": module m, where the overlay has it, is in a base of n modules and has its level
unfoldable pub place_fits : ℕ → ℕ → Bool → Module → Module → Bool
place_fits n m has over base = cond has (ltb m n && eqb over.level base.level) true

-- the modules from number m on
unfoldable pub places_fit : ℕ → ℕ → List Bool → List Module → List Module → Bool
places_fit n m [] os bs = true
places_fit n m (h ∷ hs) [] bs = true
places_fit n m (h ∷ hs) (o ∷ os) [] = true
places_fit n m (h ∷ hs) (o ∷ os) (b ∷ bs) = place_fits n m h o b && places_fit n (suc m) hs os bs

unfoldable pub fits : Soc → Overlay → Bool
fits s o = same_head s o && places_fit s.module_count 0 o.has o.modules s.modules

-- "The lines of a module are the overlay's if it has that module, otherwise the base's"
unfoldable pub laid : List Bool → List Module → List Module → List Module
laid [] os bs = bs
laid (h ∷ hs) [] bs = bs
laid (h ∷ hs) (o ∷ os) [] = []
laid (h ∷ hs) (o ∷ os) (b ∷ bs) = cond h o b ∷ laid hs os bs

-- the combined description
unfoldable pub combined : Soc → Overlay → Soc
combined s o =
    record {
      name_len = s.name_len;
      name = s.name;
      power = s.power;
      xy = s.xy;
      module_count = s.module_count;
      modules = laid o.has o.modules s.modules;
    }

-- "the answer says which text is meant"
abbrev pub refused_pair : {A : Type 0} → Refusal → Meant → Result A PairRefusal
refused_pair r m = Err (record { refusal = r; meant = m })

-- "then 15 with line 0", "(overlay for 15)"
unfoldable pub joined : Soc → Overlay → Result PairRead PairRefusal
joined s o = cond (fits s o) (Ok (record { soc = combined s o; has = o.has })) (refused_pair (refused OtherBase 0) meant.Overlay)

-- "base faults first, overlay faults .. then 15"
unfoldable pub pair_of : Result Soc Refusal → Result Overlay Refusal → Result PairRead PairRefusal
pair_of (Err r) o = refused_pair r meant.Base
pair_of (Ok s) (Err r) = refused_pair r meant.Overlay
pair_of (Ok s) (Ok o) = joined s o

unfoldable pub read_pair : List ℕ → List ℕ → Result PairRead PairRefusal
read_pair base overlay = pair_of (read_soc base) (read_overlay overlay)
