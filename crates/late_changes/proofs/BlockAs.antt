-- A block of an overlay is read as the lines of a module of a SOC text are, wherever its level keeps the level rule. Assumes nothing.
use Prim.Native.Nat.{ℕ}
use mathlib.Core.Path.{◌≡◌, sym, ap, ap₂, ◌∙◌}
use mathlib.Core.Bool.{true}
use mathlib.Core.List.{List, ◌∷◌}
use Rattle.std.specs.Prelude.{Ok}
use Rattle.overlay.specs.declared.block.Block.{Block}
use Rattle.fields.specs.Lines.{Line}
use Rattle.fields.specs.Readers.{got, Reader}
use Rattle.fields.proofs.ReaderLaws.{after-got}
use Rattle.soc.specs.Rules.{level_rule}
use Rattle.soc.specs.declared.record.Module.{Module}
use Rattle.text_lines.specs.Parts.{closed, whole}
use Rattle.text_lines.specs.Kinds.{BlockStart, level_key, level, chains_part, lengths_part, shape_part, level_line}
use Rattle.text_lines.specs.declared.head.Options.{Options}
use Rattle.text_lines.specs.declared.level.Shape.{Shape}
use Rattle.text_lines.specs.Kinds.{block_number, block_shape, block_line}
use Rattle.text_lines.proofs.PartLaws.{rule-kept}
use Rattle.text_reader.specs.Lines.{judged, line}
use Rattle.text_reader.specs.Reading.{module_tests, module_rest, module_lines}
use Rattle.text.proofs.PartOnly.{closed_only, after_only}
use Rattle.text.proofs.Accepted.{got_only, line_only}
use Rattle.overlay.specs.Overlay.{block}
use Rattle.overlay.proofs.BlockMarks.{number-due}

level_as : (low m last v : ℕ) (fs gs hs : List (List ℕ)) → block_number low fs ≡ got m gs → level_key gs ≡ got v hs → level_rule m last v ≡ true → level m last fs ≡ got v hs
unfolding level
level_as low m last v fs gs hs n k r =
    after-got _ _ _ _ (number-due low m fs gs n) ∙ after-got _ _ _ _ k ∙ after-got _ _ _ _ (rule-kept (level_rule m last v) hs r)

-- the level that a line says is the one that was read
shape-level : (v : ℕ) (fs : List (List ℕ)) (s : Shape) (gs : List (List ℕ)) → shape_part v fs ≡ got s gs → s.level ≡ v
unfolding chains_part lengths_part
shape-level v fs s gs h =
    let t = after_only h in
    let c = after_only t.second in
    let w = after_only c.second in
    let l = after_only w.second in
    sym (ap (λ (x : Shape). x.level) (got_only l.second).0)

start_as : (low : ℕ) (fs : List (List ℕ)) (b : BlockStart) (last : ℕ) → whole (block_line low) fs ≡ Ok b → level_rule b.number last b.shape.level ≡ true
    → whole (level_line b.number last) fs ≡ Ok b.shape
unfolding block_line block_shape level_line closed
start_as low fs b last h r =
    let a = after_only (closed_only (block_line low fs) b h) in
    let s = after_only a.second in
    let k = after_only s.first in
    let g = got_only s.second in
    let n : a.value ≡ b.number = ap (λ (x : BlockStart). x.number) g.0 in
    let p : s.value ≡ b.shape = ap (λ (x : BlockStart). x.shape) g.0 in
    let v : b.shape.level ≡ k.value = ap (λ (x : Shape). x.level) (sym p) ∙ shape-level k.value k.left s.value s.left k.second in
    let q : level_rule a.value last k.value ≡ true = ap₂ (λ i j. level_rule i last j) n (sym v) ∙ r in
    let l : level b.number last fs ≡ got k.value k.left = ap (λ i. level i last fs) (sym n) ∙ level_as low a.value last k.value fs a.left k.left a.first k.first q in
    ap closed (after-got _ _ _ _ l ∙ k.second ∙ ap (got s.value) g.1) ∙ ap Ok p

-- a line that says what is read from it
pub line_as : {A : Type 0} (p : Reader A) (ls : List Line) (l : Line) (rest : List Line) (v : A) → ls ≡ l ∷ rest
    → whole p l.fields ≡ Ok v → line p ls ≡ got v rest
unfolding line judged
line_as p ls l rest v e h = ap (line p) e ∙ ap (judged l.number rest) h

-- a module has the level of its first line
rest-level : (o : Options) (m : ℕ) (s : Shape) (ls : List Line) (d : Module) (ms : List Line) → module_rest o m s ls ≡ got d ms → d.level ≡ s.level
unfolding module_rest module_tests
rest-level o m s ls d ms h =
    let b = after_only h in
    let t = after_only b.second in
    sym (ap (λ (x : Module). x.level) (got_only t.second).0)

pub block_as : (o : Options) (low last : ℕ) (ls : List Line) (b : Block) (ms : List Line) → block o low ls ≡ got b ms → level_rule b.number last b.says.level ≡ true
    → module_lines o b.number last ls ≡ got b.says ms
unfolding block module_lines
block_as o low last ls b ms h r =
    let a = after_only h in
    let d = after_only a.second in
    let g = got_only d.second in
    let n : a.value.number ≡ b.number = ap (λ (x : Block). x.number) g.0 in
    let p : d.value ≡ b.says = ap (λ (x : Block). x.says) g.0 in
    let l = line_only (block_line low) ls a.value a.left a.first in
    let v : b.says.level ≡ a.value.shape.level = ap (λ (x : Module). x.level) (sym p) ∙ rest-level o a.value.number a.value.shape a.left d.value d.left d.first in
    let q : level_rule a.value.number last a.value.shape.level ≡ true = ap₂ (λ i j. level_rule i last j) n (sym v) ∙ r in
    let w = start_as low l.first.fields a.value last l.says q in
    let k : line (level_line a.value.number last) ls ≡ got a.value.shape a.left = line_as (level_line a.value.number last) ls l.first a.left a.value.shape l.lines w in
    ap (λ i. module_lines o i last ls) (sym n) ∙ after-got _ _ _ _ k ∙ d.first ∙ ap₂ got p g.1
