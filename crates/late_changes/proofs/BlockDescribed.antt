-- Laws of lines that are those of a module: they are read as a block of an overlay, whatever stands behind them. Assumes nothing.
use Prim.Native.Nat.{ℕ, ◌-◌, ◌≤◌}
use native.Mathlib.Omega.{arith}
use mathlib.Core.Path.{◌≡◌, refl, sym, ap, ◌∙◌}
use mathlib.Core.Bool.{Bool, true}
use mathlib.Core.List.{List, [], ◌∷◌, ◌++◌, map}
use borrow.Author.Tests.{le-leb}
use lib.Dec.{leb}
use lib.ListN.{drop}
use Rattle.std.specs.Prelude.{Ok}
use Rattle.units.proofs.TestLaws.{clash, and_both}
use Rattle.fields.specs.Bytes.{bytes}
use Rattle.fields.specs.Lines.{Line}
use Rattle.fields.specs.Readers.{got, after}
use Rattle.fields.specs.WrittenLines.{decimal}
use Rattle.fields.proofs.ReaderLaws.{after-got}
use Rattle.soc.specs.Limits.{modules_max, level_max}
use Rattle.soc.specs.Sized.{SizedModule}
use Rattle.soc.specs.declared.record.Module.{Module}
use Rattle.text_lines.specs.Parts.{rule, closed, whole}
use Rattle.text_lines.specs.Kinds.{shape_part, level_line, block_number, block_shape, block_line}
use Rattle.text_lines.specs.declared.level.Shape.{Shape}
use Rattle.text_lines.specs.LineFields.{level_fields, position_fields, tests_fields}
use Rattle.text_reader.specs.Reading.{module_rest, module_lines}
use Rattle.text.specs.Describes.{ModuleLines, fields_in}
use Rattle.text.proofs.LineBack.{word_back, between_back, up_to_back}
use Rattle.text.proofs.PartOnly.{closed_only, after_only}
use Rattle.text.proofs.Accepted.{line_only}
use Rattle.text.proofs.SparePlaces.{good_module_lem}
use Rattle.text.proofs.Described.{Leaves, Passes, options_of, module_passes}
use Rattle.overlay.specs.Overlay.{block}
use Rattle.late_changes.specs.OverlayRules.{good_block}
use Rattle.late_changes.proofs.BlockAs.{line_as}
use Rattle.late_changes.proofs.OtherLevel.{with_level, at_level, ruled, shape_at, rest_at, good_back, sized_back}
use Rattle.late_changes.proofs.BlockRead.{start_fields, level-ruled}

-- the fields behind a module's level
abbrev behind_level : ℕ → Module → List (List ℕ)
behind_level m d = drop 4 (level_fields m d)

level-start : (m : ℕ) (d : Module) → level_fields m d ≡ start_fields m d.level (behind_level m d)
unfolding level_fields
level-start m d = refl

behind-at : (m v : ℕ) (d : Module) → behind_level m (with_level v d) ≡ behind_level m d
unfolding level_fields
behind-at m v d = refl

-- a block's first line
number_back : (low m : ℕ) (fs : List (List ℕ)) → low ≤ m → m ≤ modules_max - 1 → block_number low (bytes "Module" ∷ decimal m ∷ fs) ≡ got m fs
unfolding block_number rule after
number_back low m fs h k = simp (word_back, between_back 0 (modules_max - 1) m (omega arith) k, le-leb low m h)

start_back : (low m v : ℕ) (fs : List (List ℕ)) (s : Shape) → low ≤ m → m ≤ modules_max - 1 → leb v level_max ≡ true
    → shape_part v fs ≡ got s []
    → whole (block_line low) (start_fields m v fs) ≡ Ok (record { number = m; shape = s })
unfolding block_line block_shape closed
start_back low m v fs s h k l e =
    let b : block_shape (bytes "Level" ∷ decimal v ∷ fs) ≡ got s [] =
    after-got _ _ _ _ (after-got _ _ _ _ (word_back (bytes "Level") (decimal v ∷ fs)) ∙ up_to_back level_max v l fs) ∙ e in
    ap closed (after-got _ _ _ _ (number_back low m (bytes "Level" ∷ decimal v ∷ fs) h k) ∙ after-got _ _ _ _ b)

-- what a ruled first line says of the fields behind its level
line-shape : (m : ℕ) (fs : List (List ℕ)) (s : Shape) → whole (level_line m 0) (start_fields m (ruled m) fs) ≡ Ok s
    → shape_part (ruled m) fs ≡ got s []
unfolding level_line
line-shape m fs s h = sym (after-got _ _ _ _ (level-ruled m fs)) ∙ closed_only (level_line m 0 (start_fields m (ruled m) fs)) s h

module _
    (power xy : Bool)
    (low m : ℕ)
    (d : Module)
    (least : low ≤ m)
    (most : m ≤ modules_max - 1)
    (z : SizedModule d)
    (g : good_block power xy m d ≡ true)
  where
    block-level : leb d.level level_max ≡ true
    unfolding good_block
    block-level = (and_both (leb d.level level_max) _ g).0

    -- the lines of the module, but with a level that keeps the rule
    lines-ruled : (ls : List (List (List ℕ))) (r : ModuleLines power xy m d ls)
        → ModuleLines power xy m (with_level (ruled m) d) (level_fields m (with_level (ruled m) d) ∷ r.position ++ tests_fields m d ∷ r.tests)
    unfolding position_fields tests_fields
    lines-ruled ls r = record {
      position = r.position;
      tests = r.tests;
      position_is = r.position_is;
      tests_are = r.tests_are;
      lines_are = refl;
    }

    -- a line in the place of the block's first
    abbrev line_ruled : Line → Line
    line_ruled l = record { number = l.number; fields = level_fields m (with_level (ruled m) d) }

    first_passes : (l : Line) (ks : List Line) (gs : List (List (List ℕ))) → l.fields ≡ level_fields m d
        → Leaves (module_lines (options_of power xy) m 0) (line_ruled l ∷ ks) (with_level (ruled m) d) gs
        → Leaves (block (options_of power xy) low) (l ∷ ks) (record { number = m; says = d }) gs
    unfolding block module_lines
    first_passes l ks gs f u =
        let o = options_of power xy in
        let w = ruled m in
        let a = after_only u.is in
        let k = line_only (level_line m 0) (line_ruled l ∷ ks) a.value a.left a.first in
        let i : ks ≡ a.left = cc in
        let j : k.first ≡ line_ruled l = cc in
        let x : start_fields m w (behind_level m d) ≡ k.first.fields =
        sym (level-start m (with_level w d) ∙ ap (start_fields m w) (behind-at m w d)) ∙ ap fields_in (sym j) in
        let y : whole (level_line m 0) (start_fields m w (behind_level m d)) ≡ Ok a.value = ap (whole (level_line m 0)) x ∙ k.says in
        let s = shape_at w d.level (behind_level m d) a.value [] (line-shape m (behind_level m d) a.value y) in
        let b = start_back low m d.level (behind_level m d) (at_level d.level a.value) least most block-level s in
        let v = ap (whole (block_line low)) (f ∙ level-start m d) ∙ b in
        let c = line_as (block_line low) (l ∷ ks) l ks (record { number = m; shape = at_level d.level a.value }) refl v in
        let r = rest_at o m d.level a.value ks (with_level w d) u.left (ap (module_rest o m a.value) i ∙ a.second) in
        record { left = u.left; is = after-got _ _ _ _ c ∙ after-got _ _ _ _ r; fields = u.fields }

    pub block-passes : (ls : List (List (List ℕ))) → ModuleLines power xy m d ls
        → Passes (block (options_of power xy) low) ls (record { number = m; says = d })
    block-passes ls r [] gs e = let q = r.lines_are in clash cc
    block-passes ls r (l ∷ ks) gs e =
        let w = ruled m in
        let ps = r.position ++ tests_fields m d ∷ r.tests in
        let q : l.fields ∷ map fields_in ks ≡ level_fields m d ∷ ps ++ gs = e ∙ ap (λ x. x ++ gs) r.lines_are in
        let f : l.fields ≡ level_fields m d = cc in
        let h : map fields_in ks ≡ ps ++ gs = cc in
        let v = good_module_lem power xy m 0 (with_level w d) (good_back power xy m d g) in
        let u =
        module_passes power xy m 0 (with_level w d) (sized_back w d z) v (level_fields m (with_level w d) ∷ ps) (lines-ruled ls r)
        (line_ruled l ∷ ks) gs (ap (λ x. level_fields m (with_level w d) ∷ x) h) in
        first_passes l ks gs f u
