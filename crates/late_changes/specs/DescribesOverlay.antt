-- Which texts are overlays, said without a reader (document 02, item 3): the lines in their order with the overlay's own figures, and 0 in
-- the places of the overlay that no line speaks of. Spacing, blank lines and line ends count for nothing, as in a SOC text.
use Rattle.std.specs.Prelude.{ℕ, suc, ◌≤◌, ◌≡◌, Bool, true, false, List, [], ◌∷◌, ◌++◌, drop, replicate}
use Rattle.fields.specs.Bytes.{bytes}
use Rattle.fields.specs.Names.{name_max}
use Rattle.units.specs.Places.{all_of}
use Rattle.soc.specs.Limits.{modules_max}
use Rattle.soc.specs.Record.{no_module, name_of}
use Rattle.soc.specs.Rules as rules
use Rattle.soc.specs.declared.record.Module.{Module}
use Rattle.soc.specs.declared.record.Soc.{Soc}
use Rattle.text_lines.specs.LineFields.{options_fields}
use Rattle.text.specs.Describes.{ModuleLines, spare_in}
use Rattle.overlay.specs.declared.read.Overlay.{Overlay}

-- name and options of an overlay, as a record with no module has them
abbrev pub head_of : Overlay → Soc
head_of o =
    record {
      name_len = o.name_len;
      name = o.name;
      power = o.power;
      xy = o.xy;
      module_count = 0;
      modules = replicate modules_max no_module;
    }

-- "`Overlay` and the SOC's name"
unfoldable pub overlay_fields : Overlay → List (List ℕ)
overlay_fields o = bytes "Overlay" ∷ name_of (head_of o) ∷ []

-- "module blocks in ascending number, written as in a SOC text": the blocks from m on, each at the place of its number, of which an overlay
-- has 40; the other places are spare
pub data BlocksLines (power xy : Bool) : ℕ → List Bool → List Module → List (List (List ℕ)) → Type 0 where
  none : {m : ℕ} → BlocksLines power xy m [] [] []
  block : {m : ℕ} {d : Module} {hs : List Bool} {ds : List Module} {ls ms : List (List (List ℕ))} → ModuleLines power xy m d ls
      → BlocksLines power xy (suc m) hs ds ms
      → BlocksLines power xy m (true ∷ hs) (d ∷ ds) (ls ++ ms)
  spare : {m : ℕ} {d : Module} {hs : List Bool} {ds : List Module} {ls : List (List (List ℕ))} → d ≡ no_module
      → BlocksLines power xy (suc m) hs ds ls
      → BlocksLines power xy m (false ∷ hs) (d ∷ ds) ls

-- "`Overlay` and the SOC's name, an `Options` line, then one or more module blocks"; what no line speaks of is 0: behind the name, which
-- has at most 32 bytes, and within each module
pub record DescribesOverlay (o : Overlay) (ls : List (List (List ℕ))) : Type 0 where
  pub blocks : List (List (List ℕ))
  pub blocks_are : BlocksLines o.power o.xy 0 o.has o.modules blocks
  pub some : blocks ≡ [] → ⊥
  pub lines_are : ls ≡ overlay_fields o ∷ options_fields (head_of o) ∷ blocks
  pub room : o.name_len ≤ name_max
  pub name_spare : all_of rules.none (drop o.name_len o.name) ≡ true
  pub within : all_of spare_in o.modules ≡ true
