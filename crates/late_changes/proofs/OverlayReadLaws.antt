-- Laws of an overlay that is read from lines: they describe it, it keeps the limits and its arrays have their lengths; and lines that
-- describe such an overlay are read as it. Assumes nothing.
use Prim.Native.Nat.{ℕ, suc}
use native.Mathlib.Omega.{arith}
use mathlib.Core.Path.{◌≡◌, refl, sym, ap, subst, ◌∙◌}
use mathlib.Core.Bool.{Bool, true, ◌&&◌}
use mathlib.Core.List.{List, [], ◌∷◌, map}
use borrow.Author.Tests.{leb-true}
use lib.Dec.{leb}
use lib.ListN.{length, drop}
use Rattle.std.specs.Prelude.{Ok}
use Rattle.overlay.specs.declared.block.Block.{Block}
use Rattle.overlay.specs.declared.block.Places.{Places}
use Rattle.units.specs.Places.{all_of, any_of}
use Rattle.units.proofs.TestLaws.{and_both, and_holds}
use Rattle.fields.specs.Bytes.{bytes}
use Rattle.fields.specs.Lines.{Line}
use Rattle.fields.specs.Names.{name_max, is_name}
use Rattle.fields.specs.Readers.{got}
use Rattle.fields.proofs.ReaderLaws.{after-got}
use Rattle.soc.specs.Record.{no_module, name_of}
use Rattle.soc.specs.Rules.{none, spare_test, spare_module, good_name}
use Rattle.soc.specs.declared.record.Module.{Module}
use Rattle.text_lines.specs.Parts.{closed, whole}
use Rattle.text_lines.specs.Kinds.{name_part, name_line, overlay_line, options_line}
use Rattle.text_lines.specs.declared.head.Name.{Name}
use Rattle.text_lines.specs.declared.head.Options.{Options}
use Rattle.text_lines.specs.LineFields.{name_fields, options_fields}
use Rattle.text_reader.specs.Lines.{line}
use Rattle.text.specs.Describes.{spare_in, fields_in}
use Rattle.text.proofs.LineBack.{word_back, name_back, options_back}
use Rattle.text.proofs.PartOnly.{closed_only, after_only, key_only}
use Rattle.text.proofs.HeadOnly.{name_only, options_only}
use Rattle.text.proofs.SparePlaces.{AllSized, good-spare_in}
use Rattle.text.proofs.Accepted.{got_only, line_only, name-good}
use Rattle.text.proofs.Described.{Ends, line-passes, then_ends, options_of, held_name}
use Rattle.overlay.specs.Overlay.{goes_on, blocks, blocks_max, places, overlay_of, with_blocks, behind_name}
use Rattle.overlay.specs.Overlay.{overlay}
use Rattle.overlay.specs.declared.read.Overlay.{Overlay}
use Rattle.late_changes.specs.DescribesOverlay.{head_of, overlay_fields, BlocksLines, DescribesOverlay}
use Rattle.late_changes.specs.OverlayRules.{good_block, good_blocks, has_some, good_overlay, SizedOverlay}
use Rattle.late_changes.proofs.OtherLevel.{with_level, ruled, good_back}
use Rattle.late_changes.proofs.BlockPlaces.{Filled, ascending_fills, places_ascend}
use Rattle.late_changes.proofs.BlocksRead.{blocks-read, blocks_end}

-- the line with the name is a SOC text's but for its keyword
record NameRead (fs : List (List ℕ)) (n : Name) (v : Overlay) : Type 0 where
  fields : fs ≡ overlay_fields v
  good : good_name (head_of v) ≡ true
  sized : length v.name ≡ name_max

overlay-name : (fs : List (List ℕ)) (n : Name) (o : Options) (p : Places) → whole overlay_line fs ≡ Ok n → NameRead fs n (overlay_of n o p)
unfolding overlay_line name_line closed overlay_fields name_fields good_name
overlay-name fs n o p h =
    let k = key_only (bytes "Overlay") name_part fs n [] (closed_only (overlay_line fs) n h) in
    let w : whole name_line (bytes "SocName" ∷ k.left) ≡ Ok n =
    ap closed (after-got _ _ _ _ (word_back (bytes "SocName") k.left) ∙ k.reads) in
    let g = name-good n 0 o [] (bytes "SocName" ∷ k.left) (name_only (bytes "SocName" ∷ k.left) n w) in
    record { fields = k.fields ∙ ap (λ x. bytes "Overlay" ∷ drop 1 x) g.0; good = g.1; sized = g.2 }

name-said : (v : Overlay) → length v.name ≡ name_max → good_name (head_of v) ≡ true
    → whole overlay_line (overlay_fields v) ≡ Ok (held_name (head_of v))
unfolding overlay_line name_line closed overlay_fields name_fields
name-said v z g =
    let n = name_of (head_of v) ∷ [] in
    let e = closed_only (name_line (bytes "SocName" ∷ n)) (held_name (head_of v)) (name_back (head_of v) z g) in
    let r : name_part n ≡ got (held_name (head_of v)) [] = sym (after-got _ _ _ _ (word_back (bytes "SocName") n)) ∙ e in
    ap closed (after-got _ _ _ _ (word_back (bytes "Overlay") n) ∙ r)

-- the spare places within modules
block-spare : (power xy : Bool) (m : ℕ) (d : Module) → good_block power xy m d ≡ true → spare_in d ≡ true
unfolding spare_in
block-spare power xy m d g = good-spare_in power xy m 0 (with_level (ruled m) d) (good_back power xy m d g)

no_module_in : spare_in no_module ≡ true
unfolding spare_in spare_test all_of
no_module_in = refl

pub blocks-spare : {power xy : Bool} {m : ℕ} {hs : List Bool} {ds : List Module} {ls : List (List (List ℕ))}
    → BlocksLines power xy m hs ds ls
    → good_blocks power xy m hs ds ≡ true → all_of spare_in ds ≡ true
unfolding good_blocks all_of
blocks-spare BlocksLines.none g = refl
blocks-spare {power = power} {xy = xy} (BlocksLines.block {m} {d} {hs} {ds} {ls} {ms} l r) g =
    let a = and_both (good_block power xy m d) (good_blocks power xy (suc m) hs ds) g in
    and_holds (block-spare power xy m d a.0) (blocks-spare r a.1)
blocks-spare {power = power} {xy = xy} (BlocksLines.spare {m} {d} {hs} {ds} {ls} e r) g =
    let a = and_both (spare_module d) (good_blocks power xy (suc m) hs ds) g in
    and_holds (ap spare_in e ∙ no_module_in) (blocks-spare r a.1)

-- lines are those of some block
blocks-some : {power xy : Bool} {m : ℕ} {hs : List Bool} {ds : List Module} {ls : List (List (List ℕ))} → BlocksLines power xy m hs ds ls
    → (ls ≡ [] → ⊥)
    → has_some hs ≡ true
unfolding any_of
blocks-some BlocksLines.none s = absurd (s refl)
blocks-some (BlocksLines.block l r) s = refl
blocks-some (BlocksLines.spare e r) s = blocks-some r s

-- the overlay that was read, and the lines that it was read from
pub record OverlayIs (v : Overlay) (ls : List Line) : Type 0 where
  pub described : DescribesOverlay v (map fields_in ls)
  pub good : good_overlay v ≡ true
  pub sized : SizedOverlay v

overlay_parts : (n : Name) (o : Options) (bs : List Block) (a b : Line) (ls : List Line)
    (f : Filled o.power o.xy 0 bs (map fields_in ls))
    → whole overlay_line a.fields ≡ Ok n
    → whole options_line b.fields ≡ Ok o → (map fields_in ls ≡ [] → ⊥)
    → OverlayIs (overlay_of n o (record { has = f.has; modules = f.modules })) (a ∷ b ∷ ls)
unfolding good_overlay good_name options_fields
overlay_parts n o bs a b ls f h k s =
    let p : Places = record { has = f.has; modules = f.modules } in
    let v = overlay_of n o p in
    let q = overlay-name a.fields n o p h in
    let w : b.fields ≡ options_fields (head_of v) = options_only b.fields o k in
    let x = and_both (leb v.name_len name_max) (is_name (name_of (head_of v)) && all_of none (drop v.name_len v.name)) q.good in
    let y = and_both (is_name (name_of (head_of v))) (all_of none (drop v.name_len v.name)) x.1 in
    let i = q.fields in
    record {
      described =
          record {
            blocks = map fields_in ls;
            blocks_are = f.lines;
            some = s;
            lines_are = cc;
            room = leb-true v.name_len name_max x.0;
            name_spare = y.1;
            within = blocks-spare f.lines f.good;
          };
      good = and_holds q.good (and_holds (blocks-some f.lines s) f.good);
      sized = record { name = q.sized; has = f.has_length; modules = f.modules_length; each = λ i h. f.sized i };
    }

pub overlay_only : (ls : List Line) (v : Overlay) (rest : List Line) → overlay ls ≡ got v rest → OverlayIs v ls × (rest ≡ [])
unfolding overlay behind_name with_blocks places
overlay_only ls v rest h =
    let a = after_only h in
    let o = after_only a.second in
    let p = after_only o.second in
    let b = after_only p.first in
    let e = got_only b.second in
    let f = got_only p.second in
    let x = line_only overlay_line ls a.value a.left a.first in
    let y = line_only options_line a.left o.value o.left o.first in
    let r = blocks-read o.value blocks_max 0 o.left b.value b.left (omega arith) (omega arith) b.first in
    let t = ascending_fills r.0.ascend in
    let u = subst (λ z. Filled o.value.power o.value.xy 0 b.value z) (sym r.0.lines) t in
    let q = overlay_parts a.value o.value b.value x.first y.first o.left u x.says y.says r.1 in
    let i : record { has = u.has; modules = u.modules } ≡ p.value = sym (u.fills [] [] refl refl) ∙ e.0 in
    let j : overlay_of a.value o.value (record {
      has =
          u.has;
      modules = u.modules;
    }) ≡ v = ap (overlay_of a.value o.value) i ∙ f.0 in
    let k : x.first ∷ y.first ∷ o.left ≡ ls = sym (x.lines ∙ ap (λ z. x.first ∷ z) y.lines) in
    (subst (λ z. OverlayIs v z) k (subst (λ z. OverlayIs z (x.first ∷ y.first ∷ o.left)) j q), sym f.1 ∙ sym e.1 ∙ r.0.ends)

-- lines that describe an overlay are read as it

pub sized-places : (v : Overlay) → SizedOverlay v → AllSized v.modules
sized-places v z = record { each = λ i h. z.each i (omega (arith, z.modules)) }

-- where there are blocks, the text goes on
goes_some : (ls : List Line) (fs : List (List (List ℕ))) → map fields_in ls ≡ fs → (fs ≡ [] → ⊥) → goes_on ls ≡ true
unfolding goes_on
goes_some [] fs e s = absurd (s (sym e))
goes_some (l ∷ ls) fs e s = refl

blocks-are-read : (v : Overlay) (fs : List (List (List ℕ))) → SizedOverlay v
    → good_blocks v.power v.xy 0 v.has v.modules ≡ true
    → BlocksLines v.power v.xy 0 v.has v.modules fs → (fs ≡ [] → ⊥)
    → Ends (with_blocks (held_name (head_of v)) (options_of v.power v.xy)) fs v
unfolding with_blocks places
blocks-are-read v fs z g r s ls e =
    let o = options_of v.power v.xy in
    let b = places_ascend r g (sized-places v z) z.has in
    let t : blocks o blocks_max 0 ls ≡ got b.blocks [] =
    rw (goes_some ls fs e s) at (blocks_end b.ascend blocks_max (omega arith) ls e) in
    after-got _ _ _ _ (after-got _ _ _ _ t) ∙ ap (λ p. got (overlay_of (held_name (head_of v)) o p) []) (b.fills [] [] refl refl)

pub reads_described : (v : Overlay) (ls : List Line) → SizedOverlay v → good_overlay v ≡ true → DescribesOverlay v (map fields_in ls)
    → overlay ls ≡ got v []
unfolding overlay behind_name good_overlay
reads_described v ls z g d =
    let b = good_blocks v.power v.xy 0 v.has v.modules in
    let a = and_both (good_name (head_of v)) (has_some v.has && b) g in
    let n = held_name (head_of v) in
    let o = options_of v.power v.xy in
    then_ends (line overlay_line) behind_name (overlay_fields v ∷ []) (options_fields (head_of v) ∷ d.blocks) n v
    (line-passes overlay_line (overlay_fields v) n (name-said v z.name a.0))
    (then_ends (line options_line) (with_blocks n) (options_fields (head_of v) ∷ []) d.blocks o v
    (line-passes options_line (options_fields (head_of v)) o (options_back (head_of v)))
    (blocks-are-read v d.blocks z (and_both (has_some v.has) b a.1).1 d.blocks_are d.some))
    ls
    d.lines_are
