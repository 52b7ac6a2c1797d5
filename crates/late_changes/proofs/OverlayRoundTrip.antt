-- An overlay in the writer's spacing, read again, is the same overlay; so one that was accepted can be written and read again. Assumes
-- nothing.
use Prim.Native.Nat.{ℕ}
use mathlib.Core.Path.{◌≡◌, refl, sym, ap, ◌∙◌}
use mathlib.Core.Bool.{true, ◌&&◌}
use mathlib.Core.List.{List}
use borrow.Author.Tests.{leb-true}
use lib.Dec.{leb}
use lib.ListN.{length, drop}
use Rattle.std.specs.Prelude.{None, Ok}
use Rattle.units.specs.Places.{all_of}
use Rattle.units.proofs.TestLaws.{and_both}
use Rattle.fields.specs.Bytes.{bad_byte}
use Rattle.fields.specs.Names.{name_max, is_name}
use Rattle.soc.specs.Record.{name_of}
use Rattle.soc.specs.Rules.{none, good_name}
use Rattle.text.specs.Describes.{field_lines}
use Rattle.text.proofs.WrittenForm.{written-fields, written-allowed-from}
use Rattle.overlay.specs.Overlay.{read_overlay}
use Rattle.overlay.specs.declared.read.Overlay.{Overlay}
use Rattle.late_changes.specs.DescribesOverlay.{head_of, DescribesOverlay}
use Rattle.late_changes.specs.OverlayRules.{good_overlay, SizedOverlay}
use Rattle.late_changes.specs.WrittenOverlay.{block_lines_from, overlay_lines, written_overlay}
use Rattle.late_changes.proofs.OverlayReadLaws.{sized-places, blocks-spare}
use Rattle.late_changes.proofs.OverlayAcceptance.{overlay-good, overlay-sized, describes_accepted}
use Rattle.late_changes.proofs.WrittenBlocks.{blocks-written, written-some, overlay_plain, overlay-has, overlay-written-short}

-- the lines in the writer's spacing describe the overlay
module _ (o : Overlay) (z : SizedOverlay o) (g : good_overlay o ≡ true) where
  lines_described : DescribesOverlay o (overlay_lines o)
  unfolding overlay_lines good_name
  lines_described =
      let p = overlay-has o g in
      let n : length o.has ≡ length o.modules = z.has ∙ sym z.modules in
      let b = blocks-written o.power o.xy 0 o.has o.modules n (sized-places o z) p.blocks in
      let a =
      and_both (leb o.name_len name_max) (is_name (name_of (head_of o)) && all_of none (drop o.name_len o.name)) p.name in
      record {
        blocks = block_lines_from o.power o.xy 0 o.has o.modules;
        blocks_are = b;
        some = written-some o.power o.xy 0 o.has o.modules n p.some;
        lines_are = refl;
        room = leb-true o.name_len name_max a.0;
        name_spare = (and_both (is_name (name_of (head_of o))) (all_of none (drop o.name_len o.name)) a.1).1;
        within = blocks-spare b p.blocks;
      }

  written_described : DescribesOverlay o (field_lines (written_overlay o))
  unfolding written_overlay
  written_described = rw (written-fields (overlay_lines o) (overlay_plain o (overlay-has o g).name)) lines_described

  written-allowed : bad_byte 1 (written_overlay o) ≡ None
  unfolding written_overlay
  written-allowed = written-allowed-from 1 (overlay_lines o) (overlay_plain o (overlay-has o g).name)

  -- an overlay that keeps the limits, written and read, is that overlay
  pub overlay_round_trip : read_overlay (written_overlay o) ≡ Ok o
  overlay_round_trip = describes_accepted (written_overlay o) o z (overlay-written-short o z g) written-allowed written_described g

-- the overlay of an accepted text, written and read again, is the same overlay
pub overlay_rewritten : (t : List ℕ) (o : Overlay) → read_overlay t ≡ Ok o → read_overlay (written_overlay o) ≡ Ok o
overlay_rewritten t o a = overlay_round_trip o (overlay-sized t o a) (overlay-good t o a)

-- two overlays that keep the limits are not written alike
pub overlay-written_once : (o v : Overlay) → SizedOverlay o → SizedOverlay v → good_overlay o ≡ true → good_overlay v ≡ true
    → written_overlay o ≡ written_overlay v → o ≡ v
overlay-written_once o v y z g h e =
    let i : Ok o ≡ Ok v = sym (overlay_round_trip o y g) ∙ ap read_overlay e ∙ overlay_round_trip v z h in
    cc
