-- Laws of a block that is read: its lines are those of a module, as in a SOC text, and the module keeps the limits. Assumes nothing.
use Prim.Native.Nat.{ℕ, ◌-◌}
use native.Mathlib.Omega.{arith}
use mathlib.Core.Path.{◌≡◌, refl, sym, ap, ap₂, subst, ◌∙◌}
use mathlib.Core.Bool.{true}
use mathlib.Core.List.{List, [], ◌∷◌, ◌++◌, map}
use borrow.Author.Tests.{le-leb}
use lib.Dec.{leb}
use lib.ListN.{drop}
use Rattle.std.specs.Prelude.{Ok}
use Rattle.overlay.specs.declared.block.Block.{Block}
use Rattle.fields.specs.Bytes.{bytes}
use Rattle.fields.specs.Lines.{Line}
use Rattle.fields.specs.Readers.{got, after}
use Rattle.fields.specs.WrittenLines.{decimal}
use Rattle.fields.proofs.ReaderLaws.{after-got}
use Rattle.soc.specs.Limits.{modules_max, level_max}
use Rattle.soc.specs.Sized.{SizedModule}
use Rattle.soc.specs.declared.record.Module.{Module}
use Rattle.text_lines.specs.Parts.{rule, closed, whole}
use Rattle.text_lines.specs.Kinds.{BlockStart, level, shape_part, level_line, block_number, block_shape, block_line}
use Rattle.text_lines.specs.declared.head.Options.{Options}
use Rattle.text_lines.specs.declared.level.Shape.{Shape}
use Rattle.text_lines.specs.LineFields.{module_fields, level_fields, position_fields, tests_fields}
use Rattle.text_reader.specs.Reading.{module_rest, module_lines}
use Rattle.text.specs.Describes.{ModuleLines, fields_in}
use Rattle.text.proofs.LineBack.{word_back, due_back, up_to_back}
use Rattle.text.proofs.PartOnly.{closed_only, after_only, keyed_only, rule_only}
use Rattle.text.proofs.Accepted.{got_only, line_only, module_read}
use Rattle.overlay.specs.Overlay.{block}
use Rattle.late_changes.specs.OverlayRules.{good_block}
use Rattle.late_changes.proofs.BlockAs.{line_as}
use Rattle.late_changes.proofs.OtherLevel.{with_level, at_level, ruled, ruled-rule, ruled-most, shape_at, rest_at, good_only}
use Rattle.late_changes.proofs.OtherLevel.{sized_only}

-- a first line up to its level
abbrev pub start_fields : ℕ → ℕ → List (List ℕ) → List (List ℕ)
start_fields m v fs = module_fields m (bytes "Level" ∷ decimal v ∷ fs)

-- what a block's first line says
record StartSays (fs : List (List ℕ)) (b : BlockStart) : Type 0 where
  left : List (List ℕ)
  fields : fs ≡ start_fields b.number b.shape.level left
  reads : shape_part b.shape.level left ≡ got b.shape []
  level : leb b.shape.level level_max ≡ true

shape-level : (v : ℕ) (fs : List (List ℕ)) (s : Shape) (gs : List (List ℕ)) → shape_part v fs ≡ got s gs → v ≡ s.level
shape-level v fs s gs h = ap (λ (x : Shape). x.level) (got_only (sym (shape_at v v fs s gs h) ∙ h)).0

start_only : (low : ℕ) (fs : List (List ℕ)) (b : BlockStart) → whole (block_line low) fs ≡ Ok b → StartSays fs b
unfolding block_line block_number block_shape
start_only low fs b h =
    let a = after_only (closed_only (block_line low fs) b h) in
    let n = after_only a.first in
    let r = after_only n.second in
    let s = after_only a.second in
    let k = after_only s.first in
    let g = got_only s.second in
    let i = got_only r.second in
    let q = rule_only (leb low n.value) n.left r.left r.value r.first in
    let m = keyed_only (bytes "Module") fs n.left 0 (modules_max - 1) n.value n.first in
    let v = keyed_only (bytes "Level") a.left k.left 0 level_max k.value k.first in
    let e : n.value ≡ b.number = i.0 ∙ ap (λ (x : BlockStart). x.number) g.0 in
    let p : s.value ≡ b.shape = ap (λ (x : BlockStart). x.shape) g.0 in
    let l : k.value ≡ b.shape.level =
    shape-level k.value k.left s.value s.left k.second ∙ ap (λ (x : Shape). x.level) p in
    let y = q.1 ∙ i.1 ∙ v.fields ∙ ap (λ x. bytes "Level" ∷ decimal x ∷ k.left) l in
    record {
      left = k.left;
      fields = m.fields ∙ ap₂ (λ x fs. bytes "Module" ∷ decimal x ∷ fs) e y;
      reads = ap (λ x. shape_part x k.left) (sym l) ∙ k.second ∙ ap₂ got p g.1;
      level = le-leb b.shape.level level_max (omega (arith, v.most, l));
    }

-- with a level that keeps the rule, the line is a module's first line
pub level-ruled : (m : ℕ) (fs : List (List ℕ)) → level m 0 (start_fields m (ruled m) fs) ≡ got (ruled m) fs
unfolding level rule after
level-ruled m fs = simp (word_back, due_back, up_to_back level_max (ruled m) (ruled-most m), ruled-rule m)

pub line-ruled : (m v : ℕ) (fs : List (List ℕ)) (s : Shape) → shape_part v fs ≡ got s []
    → whole (level_line m 0) (start_fields m (ruled m) fs) ≡ Ok (at_level (ruled m) s)
unfolding level_line closed
line-ruled m v fs s h = ap closed (after-got _ _ _ _ (level-ruled m fs) ∙ shape_at v (ruled m) fs s [] h)

-- and so is the first line with the block's own level, but for the rule
pub start-at : (m v w : ℕ) (d : Module) (fs : List (List ℕ)) → start_fields m v fs ≡ level_fields m (with_level v d)
    → start_fields m w fs ≡ level_fields m (with_level w d)
unfolding level_fields
start-at m v w d fs e = ap (λ f. start_fields m w (drop 4 f)) e

module _ (o : Options) where
  pub record BlockRead (m : ℕ) (ls : List Line) (d : Module) (rest : List Line) : Type 0 where
    pub fields : List (List (List ℕ))
    pub lines : map fields_in ls ≡ fields ++ map fields_in rest
    pub are : ModuleLines o.power o.xy m d fields
    pub good : good_block o.power o.xy m d ≡ true
    pub sized : SizedModule d

  block_parts : (m : ℕ) (s : Shape) (fs : List (List ℕ)) (l : Line) (ks : List Line) (d : Module) (ms : List Line)
      → l.fields ≡ start_fields m s.level fs → shape_part s.level fs ≡ got s []
      → leb s.level level_max ≡ true → module_rest o m s ks ≡ got d ms → BlockRead m (l ∷ ks) d ms
  unfolding module_lines position_fields tests_fields
  block_parts m s fs l ks d ms f e h r =
      let w = ruled m in
      let t : Line = record { number = l.number; fields = start_fields m w fs } in
      let k = line_as (level_line m 0) (t ∷ ks) t ks (at_level w s) refl (line-ruled m s.level fs s e) in
      let q : module_lines o m 0 (t ∷ ks) ≡ got (with_level w d) ms = after-got _ _ _ _ k ∙ rest_at o m w s ks d ms r in
      let x = module_read o m 0 (t ∷ ks) (with_level w d) ms q in
      let a = x.are in
      let z : d ≡ with_level s.level d = (got_only (sym r ∙ rest_at o m s.level s ks d ms r)).0 in
      let v : s.level ≡ d.level = ap (λ (y : Module). y.level) (sym z) in
      let u = x.lines ∙ ap (λ y. y ++ map fields_in ms) a.lines_are in
      let i : start_fields m w fs ≡ level_fields m (with_level w d) = cc in
      let j : map fields_in ks ≡ (a.position ++ tests_fields m d ∷ a.tests) ++ map fields_in ms = cc in
      let b : l.fields ≡ level_fields m d = f ∙ start-at m w s.level d fs i ∙ ap (level_fields m) (sym z) in
      record {
        fields = level_fields m d ∷ a.position ++ tests_fields m d ∷ a.tests;
        lines = ap₂ (λ y ys. y ∷ ys) b j;
        are = record { position = a.position; tests = a.tests; position_is = a.position_is; tests_are = a.tests_are; lines_are = refl };
        good = good_only o.power o.xy m d (ap (λ y. leb y level_max) (sym v) ∙ h) x.good;
        sized = sized_only w d x.sized;
      }

  pub block_read : (low : ℕ) (ls : List Line) (b : Block) (ms : List Line) → block o low ls ≡ got b ms
      → BlockRead b.number ls b.says ms
  unfolding block
  block_read low ls b ms h =
      let a = after_only h in
      let d = after_only a.second in
      let g = got_only d.second in
      let l = line_only (block_line low) ls a.value a.left a.first in
      let s = start_only low l.first.fields a.value l.says in
      let c = a.value in
      let r =
      block_parts c.number c.shape s.left l.first a.left d.value d.left s.fields s.reads s.level d.first in
      let n : a.value.number ≡ b.number = ap (λ (x : Block). x.number) g.0 in
      let p : d.value ≡ b.says = ap (λ (x : Block). x.says) g.0 in
      let t = subst (λ x. BlockRead a.value.number x d.value d.left) (sym l.lines) r in
      let u = subst (λ x. BlockRead a.value.number ls d.value x) g.1 t in
      subst (λ x. BlockRead x ls b.says ms) n (subst (λ x. BlockRead a.value.number ls x ms) p u)
