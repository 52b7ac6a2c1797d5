-- When an overlay keeps the limits and rules of the text (document 02, item 3: "overlay faults as 1 to 6 .. no level rule is tested
-- there"), and that its arrays have their declared lengths, as every value that code holds has.
use Rattle.std.specs.Prelude.{ℕ, suc, ◌<◌, ◌≡◌, Bool, true, cond, ◌&&◌, List, [], ◌∷◌, leb, length, get_or}
use Rattle.fields.specs.Names.{name_max}
use Rattle.units.specs.Places.{any_of}
use Rattle.soc.specs.Limits.{modules_max, level_max}
use Rattle.soc.specs.Record.{no_module}
use Rattle.soc.specs.Rules.{good_terminals, good_chains, good_position, good_tests, spare_module, good_name}
use Rattle.soc.specs.Sized.{SizedModule}
use Rattle.soc.specs.declared.record.Module.{Module}
use Rattle.overlay.specs.declared.read.Overlay.{Overlay}
use Rattle.late_changes.specs.DescribesOverlay.{head_of}

-- module m, with any level from 0 to 40
unfoldable pub good_block : Bool → Bool → ℕ → Module → Bool
good_block power xy m d =
    leb d.level level_max && (good_terminals d && (good_chains d && (good_position xy d.x d.y && good_tests m power d)))

-- of the modules from number m on those that the overlay has; the other places are spare
unfoldable pub good_blocks : Bool → Bool → ℕ → List Bool → List Module → Bool
good_blocks power xy m [] ds = true
good_blocks power xy m (h ∷ hs) [] = true
good_blocks power xy m (h ∷ hs) (d ∷ ds) = cond h (good_block power xy m d) (spare_module d) && good_blocks power xy (suc m) hs ds

-- "one or more module blocks"
abbrev pub has_some : List Bool → Bool
has_some hs = any_of (λ h. h) hs

unfoldable pub good_overlay : Overlay → Bool
good_overlay o = good_name (head_of o) && (has_some o.has && good_blocks o.power o.xy 0 o.has o.modules)

pub record SizedOverlay (o : Overlay) : Type 0 where
  pub name : length o.name ≡ name_max
  pub has : length o.has ≡ modules_max
  pub modules : length o.modules ≡ modules_max
  pub each : (i : ℕ) → i < modules_max → SizedModule (get_or o.modules i no_module)
