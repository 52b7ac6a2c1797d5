-- Laws of the lines of an overlay in the writer's spacing: they are those of its blocks, their fields can stand in a text, and with every
-- figure within its limits the text is short enough. Assumes nothing.
use Prim.Native.Nat.{ℕ, suc, ◌+◌, ◌*◌, ◌≤◌, ◌<◌}
use native.Mathlib.Omega.{arith}
use mathlib.Core.Path.{◌≡◌, refl}
use mathlib.Core.Bool.{Bool, true, false, ◌&&◌, false≢true}
use mathlib.Core.List.{List, [], ◌∷◌}
use borrow.Author.Tests.{leb-true}
use lib.Dec.{leb}
use lib.ListN.{length, drop}
use Rattle.units.specs.Places.{all_of, any_of}
use Rattle.units.proofs.TestLaws.{clash, and_both}
use Rattle.fields.specs.Fields.{blank}
use Rattle.fields.specs.Names.{name_max, is_name}
use Rattle.fields.specs.Numbers.{more}
use Rattle.fields.proofs.FormLaws.{printable, name_printable}
use Rattle.fields.proofs.SizeLaws.{size, name_size}
use Rattle.fields.proofs.WrittenLaws.{no_gap, plain_field, name_field}
use Rattle.soc.specs.Limits.{text_max, level_max}
use Rattle.soc.specs.Record.{name_of, tests_of}
use Rattle.soc.specs.Rules.{none, spare_module, good_name}
use Rattle.soc.specs.declared.record.Module.{Module}
use Rattle.soc.proofs.GoodSocLaws.{ModuleFigures, module_figures}
use Rattle.text_lines.specs.LineFields.{options_fields}
use Rattle.text_writer.specs.WrittenSoc.{test_lines, position_lines, module_lines_of}
use Rattle.text_writer.proofs.FigureLaws.{flag-length}
use Rattle.text_writer.proofs.SizeLaws.{lines_size, lines_size_append, written_size, module_size}
use Rattle.text.specs.Describes.{ModuleLines}
use Rattle.text.proofs.SparePlaces.{AllSized, sized-first, sized-rest, spare_module_lem}
use Rattle.text.proofs.WrittenForm.{tests_described, position_described, text_field, text_line, options_text, all_append, module_lines-text}
use Rattle.overlay.specs.declared.read.Overlay.{Overlay}
use Rattle.late_changes.specs.DescribesOverlay.{head_of, overlay_fields, BlocksLines}
use Rattle.late_changes.specs.OverlayRules.{good_block, good_blocks, has_some, good_overlay, SizedOverlay}
use Rattle.late_changes.specs.WrittenOverlay.{block_lines_from, overlay_lines, written_overlay}
use Rattle.late_changes.proofs.OtherLevel.{with_level, ruled, good_back}

-- a module's figures do not rest on the level rule
block-figures : (power xy : Bool) (m : ℕ) (d : Module) → good_block power xy m d ≡ true → ModuleFigures power xy m d
unfolding good_block
block-figures power xy m d g =
    let f = module_figures power xy m 0 (with_level (ruled m) d) (good_back power xy m d g) in
    record {
      level = leb-true d.level level_max (and_both (leb d.level level_max) _ g).0;
      inputs = f.inputs;
      outputs = f.outputs;
      bidirs = f.bidirs;
      chain_count = f.chain_count;
      lengths = f.lengths;
      position = f.position;
      test_count = f.test_count;
      tests = f.tests;
    }

-- the lines are those of the blocks

block_described : (power xy : Bool) (m : ℕ) (d : Module) → good_block power xy m d ≡ true
    → ModuleLines power xy m d (module_lines_of power xy m d)
unfolding module_lines_of
block_described power xy m d g =
    let f = block-figures power xy m d g in
    record {
      position = position_lines xy m d;
      tests = test_lines power m 1 (tests_of d);
      position_is = position_described xy m d f.position;
      tests_are = tests_described power m 1 (tests_of d) f.tests;
      lines_are = refl;
    }

pub blocks-written : (power xy : Bool) (m : ℕ) (hs : List Bool) (ds : List Module) → length hs ≡ length ds → AllSized ds
    → good_blocks power xy m hs ds ≡ true
    → BlocksLines power xy m hs ds (block_lines_from power xy m hs ds)
unfolding good_blocks block_lines_from
blocks-written power xy m [] [] n z g = BlocksLines.none
blocks-written power xy m [] (d ∷ ds) n z g = absurd (omega arith)
blocks-written power xy m (h ∷ hs) [] n z g = absurd (omega arith)
blocks-written power xy m (true ∷ hs) (d ∷ ds) n z g =
    let a = and_both (good_block power xy m d) (good_blocks power xy (suc m) hs ds) g in
    BlocksLines.block (block_described power xy m d a.0) (blocks-written power xy (suc m) hs ds (omega arith) (sized-rest d ds z) a.1)
blocks-written power xy m (false ∷ hs) (d ∷ ds) n z g =
    let a = and_both (spare_module d) (good_blocks power xy (suc m) hs ds) g in
    let e = spare_module_lem d (sized-first d ds z) a.0 in
    BlocksLines.spare e (blocks-written power xy (suc m) hs ds (omega arith) (sized-rest d ds z) a.1)

-- there are lines where there is a block
pub written-some : (power xy : Bool) (m : ℕ) (hs : List Bool) (ds : List Module) → length hs ≡ length ds → has_some hs ≡ true
    → block_lines_from power xy m hs ds ≡ []
    → ⊥
unfolding any_of block_lines_from module_lines_of
written-some power xy m [] ds n s e = false≢true s
written-some power xy m (h ∷ hs) [] n s e = absurd (omega arith)
written-some power xy m (true ∷ hs) (d ∷ ds) n s e = clash cc
written-some power xy m (false ∷ hs) (d ∷ ds) n s e = written-some power xy (suc m) hs ds (omega arith) s e

-- their fields can stand in a text

blocks-text : (power xy : Bool) (m : ℕ) (hs : List Bool) (ds : List Module) → all_of text_line (block_lines_from power xy m hs ds) ≡ true
unfolding block_lines_from all_of
blocks-text power xy m [] ds = refl
blocks-text power xy m (h ∷ hs) [] = refl
blocks-text power xy m (true ∷ hs) (d ∷ ds) =
    let r = blocks-text power xy (suc m) hs ds in
    all_append text_line (module_lines_of power xy m d) (block_lines_from power xy (suc m) hs ds) (module_lines-text power xy m d) r
blocks-text power xy m (false ∷ hs) (d ∷ ds) = blocks-text power xy (suc m) hs ds

name-is : (o : Overlay) → good_name (head_of o) ≡ true → is_name (name_of (head_of o)) ≡ true
unfolding good_name
name-is o h =
    let n = head_of o in
    let p = and_both (leb n.name_len name_max) (is_name (name_of n) && all_of none (drop n.name_len n.name)) h in
    (and_both (is_name (name_of n)) (all_of none (drop n.name_len n.name)) p.1).0

name-text : (o : Overlay) → good_name (head_of o) ≡ true → text_line (overlay_fields o) ≡ true
unfolding text_line overlay_fields text_field plain_field more no_gap printable blank all_of
name-text o h = let n = name-is o h in simp (name_field (name_of (head_of o)) n, name_printable (name_of (head_of o)) n)

pub overlay_plain : (o : Overlay) → good_name (head_of o) ≡ true → all_of text_line (overlay_lines o) ≡ true
unfolding overlay_lines all_of
overlay_plain o h = simp (name-text o h, options_text (head_of o), blocks-text o.power o.xy 0 o.has o.modules)

-- the text is short enough

blocks_size : (power xy : Bool) (m : ℕ) (hs : List Bool) (ds : List Module) → m + length ds < 100 → good_blocks power xy m hs ds ≡ true
    → lines_size (block_lines_from power xy m hs ds) ≤ 1024 * length ds
unfolding block_lines_from good_blocks lines_size
blocks_size power xy m [] ds h g = omega arith
blocks_size power xy m (t ∷ hs) [] h g = omega arith
blocks_size power xy m (true ∷ hs) (d ∷ ds) h g =
    let a = and_both (good_block power xy m d) (good_blocks power xy (suc m) hs ds) g in
    rw lines_size_append (omega (
      arith,
      module_size power xy m d (omega arith) (block-figures power xy m d a.0),
      blocks_size power xy (suc m) hs ds (omega arith) a.1,
    ))
blocks_size power xy m (false ∷ hs) (d ∷ ds) h g =
    let a = and_both (spare_module d) (good_blocks power xy (suc m) hs ds) g in
    omega (arith, blocks_size power xy (suc m) hs ds (omega arith) a.1)

head_size : (o : Overlay) → good_name (head_of o) ≡ true → lines_size (overlay_fields o ∷ options_fields (head_of o) ∷ []) ≤ 100
unfolding overlay_fields options_fields lines_size size
head_size o h = omega (arith, name_size (name_of (head_of o)) (name-is o h), flag-length o.power, flag-length o.xy)

-- what an overlay that keeps the limits is made of
pub record OverlayParts (o : Overlay) : Type 0 where
  pub name : good_name (head_of o) ≡ true
  pub some : has_some o.has ≡ true
  pub blocks : good_blocks o.power o.xy 0 o.has o.modules ≡ true

pub overlay-has : (o : Overlay) → good_overlay o ≡ true → OverlayParts o
unfolding good_overlay
overlay-has o h =
    let b = good_blocks o.power o.xy 0 o.has o.modules in
    let p = and_both (good_name (head_of o)) (has_some o.has && b) h in
    let q = and_both (has_some o.has) b p.1 in
    record { name = p.0; some = q.0; blocks = q.1 }

pub overlay-written-short : (o : Overlay) → SizedOverlay o → good_overlay o ≡ true → length (written_overlay o) ≤ text_max
unfolding written_overlay overlay_lines lines_size
overlay-written-short o z h =
    let p = overlay-has o h in
    let n = z.modules in
    omega (
      arith,
      written_size (overlay_lines o),
      head_size o p.name,
      blocks_size o.power o.xy 0 o.has o.modules (omega (arith, n)) p.blocks,
      n,
    )
