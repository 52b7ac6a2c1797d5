-- An overlay in the SOC writer's spacing (document 02, item 11: "the joined overlay has the SOC writer's spacing"; document 01, "The SOC
-- text": "The written form has single spaces, LF after every line, no blank line, and where an option is 1 every X, Y and Power, as -1 when
-- not given").
use Rattle.std.specs.Prelude.{ℕ, suc, Bool, cond, List, [], ◌∷◌, ◌++◌}
use Rattle.fields.specs.WrittenLines.{written_lines}
use Rattle.soc.specs.declared.record.Module.{Module}
use Rattle.text_lines.specs.LineFields.{options_fields}
use Rattle.text_writer.specs.WrittenSoc.{module_lines_of}
use Rattle.overlay.specs.declared.read.Overlay.{Overlay}
use Rattle.late_changes.specs.DescribesOverlay.{head_of, overlay_fields}

-- the fields of the lines of the modules from number m on, of those that the overlay has
unfoldable pub block_lines_from : Bool → Bool → ℕ → List Bool → List Module → List (List (List ℕ))
block_lines_from power xy m [] ds = []
block_lines_from power xy m (h ∷ hs) [] = []
block_lines_from power xy m (h ∷ hs) (d ∷ ds) = cond h (module_lines_of power xy m d) [] ++ block_lines_from power xy (suc m) hs ds

-- the fields of all lines
unfoldable pub overlay_lines : Overlay → List (List (List ℕ))
overlay_lines o = overlay_fields o ∷ options_fields (head_of o) ∷ block_lines_from o.power o.xy 0 o.has o.modules

unfoldable pub written_overlay : Overlay → List ℕ
written_overlay o = written_lines (overlay_lines o)
