-- The lines of a module stand together in an accepted overlay, for each module that it has, and are those that say the module. Assumes
-- nothing.
use Prim.Native.Nat.{ℕ, zero, suc, ◌+◌, ◌≤◌, ◌<◌}
use native.Mathlib.Omega.{arith}
use mathlib.Core.Path.{◌≡◌, refl, sym, ap, subst, ◌∙◌}
use mathlib.Core.Bool.{Bool, true, false, cond, true≢false, false≢true}
use mathlib.Core.List.{List, [], ◌∷◌, ◌++◌, map, append_assoc}
use borrow.Author.Tests.{eqb-true, eqb-false}
use lib.Dec.{eqb}
use lib.ListN.{length, get_or, length-set}
use lib.Seq.{get_or-set_same, get_or-set_other}
use Rattle.std.specs.Prelude.{Ok}
use Rattle.overlay.specs.declared.block.Block.{Block}
use Rattle.overlay.specs.declared.block.Places.{Places}
use Rattle.units.specs.Places.{all_of, any_of}
use Rattle.units.proofs.TestLaws.{clash, and_holds}
use Rattle.fields.specs.Bytes.{bytes, same_bytes}
use Rattle.fields.specs.Lines.{Line, lines_from}
use Rattle.fields.specs.Readers.{got, Reader, ◌>>◌, after, bytes_due}
use Rattle.fields.specs.WrittenLines.{decimal}
use Rattle.soc.specs.Limits.{modules_max}
use Rattle.soc.specs.Record.{no_module}
use Rattle.soc.specs.Rules.{level_rule}
use Rattle.soc.specs.declared.record.Module.{Module}
use Rattle.text_lines.specs.Parts.{whole}
use Rattle.text_lines.specs.Kinds.{BlockStart, name_part, overlay_line, options_part, options_line, block_line}
use Rattle.text_lines.specs.declared.head.Options.{Options}
use Rattle.text_lines.specs.declared.level.Shape.{Shape}
use Rattle.text_lines.specs.LineFields.{module_fields, position_fields}
use Rattle.module_part.specs.ModulePart.{begun}
use Rattle.text_reader.specs.Lines.{line}
use Rattle.text_reader.specs.Reading.{module_of, module_tests, module_rest}
use Rattle.text.specs.Describes.{ModuleLines, fields_in, field_lines}
use Rattle.text.proofs.PartOnly.{closed_only, after_only, word_only}
use Rattle.text.proofs.Accepted.{got_only, line_only, body-read, tests-read, module_read}
use Rattle.overlay.specs.Overlay.{block, goes_on, blocks, blocks_max, no_places, put}
use Rattle.overlay.specs.Overlay.{puts, places, with_blocks, behind_name, overlay, read_overlay}
use Rattle.overlay.specs.declared.read.Overlay.{Overlay}
use Rattle.overlay.proofs.BlockLaws.{block_within}
use Rattle.overlay.proofs.BlockMarks.{number-due, none_there}
use Rattle.late_changes.proofs.GoodOverlay.{overlay-lines}
use Rattle.late_changes.specs.Together.{Lines, of_module, StandsBut}
use Rattle.late_changes.proofs.BlockAs.{block_as}
use Rattle.late_changes.proofs.TextFields.{append_left}
use Rattle.late_changes.proofs.PartLines.{any_append}
use Rattle.late_changes.proofs.LinesTogether.{of_back, all_other, all_append, tests_of_lem, position_of, behind_others, first-together}

-- the lines of a block: there is one at least, and all are of its module; they say the module wherever its level keeps the level rule
record BlockLines (o : Options) (b : Block) (fs : Lines) : Type 0 where
  some : fs ≡ [] → ⊥
  all : all_of (of_module b.number) fs ≡ true
  are : (last : ℕ) → level_rule b.number last b.says.level ≡ true → ModuleLines o.power o.xy b.number b.says fs

record BlockRead (o : Options) (low : ℕ) (ls : List Line) (b : Block) (rest : List Line) : Type 0 where
  fields : Lines
  lines : map fields_in ls ≡ fields ++ map fields_in rest
  are : BlockLines o b fields

start_of : (low : ℕ) (fs : List (List ℕ)) (b : BlockStart) → whole (block_line low) fs ≡ Ok b → of_module b.number fs ≡ true
unfolding block_line begun
start_of low fs b h =
    let a = after_only (closed_only (block_line low fs) b h) in
    let s = after_only a.second in
    let n : a.value ≡ b.number = ap (λ (x : BlockStart). x.number) (got_only s.second).0 in
    rw (← n) (ap begun (number-due low a.value fs a.left a.first))

-- the lines behind the first one
rest_of : (o : Options) (m : ℕ) (s : Shape) (ls : List Line) (d : Module) (rest : List Line) → module_rest o m s ls ≡ got d rest
    → (fs : Lines) × (map fields_in ls ≡ fs ++ map fields_in rest) × (all_of (of_module m) fs ≡ true)
unfolding module_rest module_tests all_of position_fields
rest_of o m s ls d rest h =
    let a = after_only h in
    let b = after_only a.second in
    let p = body-read m o.xy ls a.value a.left a.first in
    let t = tests-read o.power m 1 a.value.tests a.left b.value b.left b.first in
    let g = got_only b.second in
    let count = module_fields m (bytes "TotalTests" ∷ decimal a.value.tests ∷ []) in (
      p.position ++ count ∷ t.fields,
      p.lines
          ∙ ap (λ r. p.position ++ count ∷ r) (t.lines ∙ ap (λ q. t.fields ++ map fields_in q) g.1)
          ∙ sym (append_assoc p.position (count ∷ t.fields) (map fields_in rest)),
      all_append (of_module m) p.position (count ∷ t.fields)
          (position_of o.xy m (module_of s a.value b.value) p.position p.position_is)
          (and_holds (of_back m _) (tests_of_lem t.are)),
    )

block_read : (o : Options) (low : ℕ) (ls : List Line) (b : Block) (rest : List Line) → block o low ls ≡ got b rest
    → BlockRead o low ls b rest
unfolding block all_of
block_read o low ls b rest h =
    let a = after_only h in
    let d = after_only a.second in
    let g = got_only d.second in
    let n : a.value.number ≡ b.number = ap (λ (x : Block). x.number) g.0 in
    let l = line_only (block_line low) ls a.value a.left a.first in
    let r = rest_of o a.value.number a.value.shape a.left d.value d.left d.first in
    let fs = l.first.fields ∷ r.0 in
    let e : map fields_in ls ≡ fs ++ map fields_in rest =
    ap (map fields_in) l.lines ∙ ap (λ q. l.first.fields ∷ q) (r.1 ∙ ap (λ q. r.0 ++ map fields_in q) g.1) in
    let w : all_of (of_module a.value.number) fs ≡ true = and_holds (start_of low l.first.fields a.value l.says) r.2 in
    record {
      fields = fs;
      lines = e;
      are =
          record {
            some = λ z. clash cc;
            all = ap (λ m. all_of (of_module m) fs) (sym n) ∙ w;
            are = λ last k.
                let m = module_read o b.number last ls b.says rest (block_as o low last ls b rest h k) in
                let q : m.fields ≡ fs = append_left m.fields fs (map fields_in rest) (sym m.lines ∙ e) in
                subst (ModuleLines o.power o.xy b.number b.says) q m.are;
          };
    }

-- blocks with numbers from low on, which ascend, and their lines
data Row (o : Options) : ℕ → List Block → Lines → Type 0 where
  none : {low : ℕ} → Row o low [] []
  more : {low : ℕ} {b : Block} {bs : List Block} {fs ms : Lines} → low ≤ b.number → b.number < modules_max → BlockLines o b fs
      → Row o (suc b.number) bs ms
      → Row o low (b ∷ bs) (fs ++ ms)

nothing : (ls : List Line) → goes_on ls ≡ false → ls ≡ []
unfolding goes_on
nothing [] h = refl
nothing (l ∷ ls) h = absurd (true≢false h)

-- the blocks that are read are all that there are: numbers ascend, and there is room for one more than can come
blocks_row : (o : Options) (n low : ℕ) (ls : List Line) (bs : List Block) (rest : List Line) → blocks o n low ls ≡ got bs rest
    → low ≤ modules_max → modules_max < n + low → Row o low bs (map fields_in ls)
unfolding blocks
blocks_row o zero low ls bs rest h k l = absurd (omega (arith, k, l))
blocks_row o (suc n) low ls bs rest h k l =
    let a = after_only h in
    let b = after_only a.second in
    let e = got_only b.second in
    let w = block_within o low ls a.value a.left a.first in
    let r = block_read o low ls a.value a.left a.first in
    let q : Row o (suc a.value.number) b.value (map fields_in a.left) =
    go a.value.number a.left b.value b.left
    (λ h. blocks_row o n (suc a.value.number) a.left b.value b.left h (omega (arith, w)) (omega (arith, w, l)))
    (goes_on a.left) refl b.first in
    rw (← e.0, r.lines) (more w.0 (omega (arith, w)) r.are q)
  where
    go : (k : ℕ) (js : List Line) (bs : List Block) (ks : List Line)
        → (blocks o n (suc k) js ≡ got bs ks → Row o (suc k) bs (map fields_in js)) → (t : Bool) → goes_on js ≡ t
        → cond t (blocks o n (suc k) js) (got [] js) ≡ got bs ks → Row o (suc k) bs (map fields_in js)
    go k js bs ks f true i h = f h
    go k js bs ks f false i h = let e = got_only h in rw (← e.0, nothing js i) none

-- no line of a module with a lower number, and nothing is put into its place
row_other : {o : Options} {low : ℕ} {bs : List Block} {ls : Lines} → Row o low bs ls → (m : ℕ) → m < low → any_of (of_module m) ls ≡ false
unfolding any_of
row_other none m h = refl
row_other (more {low} {b} {bs} {fs} {ms} l k f r) m h =
    any_append (of_module m) fs ms (all_other b.number m fs f.all (λ e. omega (arith, e, h, l))) (row_other r m (omega (arith, h, l)))

row_keeps : {o : Options} {low : ℕ} {bs : List Block} {ls : Lines} → Row o low bs ls → (m : ℕ) (p : Places) → m < low
    → (get_or (puts p bs).has m false ≡ get_or p.has m false) × (get_or (puts p bs).modules m no_module ≡ get_or p.modules m no_module)
unfolding puts
row_keeps none m p h = (refl, refl)
row_keeps (more {low} {b} {bs} {fs} {ms} l k f r) m p h =
    let n : m ≡ b.number → ⊥ = λ e. omega (arith, e, h, l) in
    let q = row_keeps r m (put p b) (omega (arith, h, l)) in
    (q.0 ∙ get_or-set_other p.has b.number m true false n, q.1 ∙ get_or-set_other p.modules b.number m b.says no_module n)

-- a module that has come into its place has its lines there
row_stands : {o : Options} {low : ℕ} {bs : List Block} {ls : Lines} → Row o low bs ls → (m : ℕ) (p : Places)
    → length p.modules ≡ modules_max → get_or p.has m false ≡ false
    → get_or (puts p bs).has m false ≡ true → StandsBut o.power o.xy m (get_or (puts p bs).modules m no_module) ls
unfolding puts
row_stands none m p z h e = absurd (false≢true (sym h ∙ e))
row_stands {o} (more {low} {b} {bs} {fs} {ms} l k f r) m p z h e =
    go (λ h e. row_stands r m (put p b) (length-set p.modules b.number b.says ∙ z) h e) (eqb m b.number) refl
  where
    go : (get_or (put p b).has m false ≡ false → get_or (puts (put p b) bs).has m false ≡ true
        → StandsBut o.power o.xy m (get_or (puts (put p b) bs).modules m no_module) ms)
        → (t : Bool) → eqb m b.number ≡ t → StandsBut o.power o.xy m (get_or (puts (put p b) bs).modules m no_module) (fs ++ ms)
    go g true i =
        let n : m ≡ b.number = eqb-true m b.number i in
        let q : get_or (puts (put p b) bs).modules b.number no_module ≡ b.says =
        (row_keeps r b.number (put p b) (omega arith)).1
        ∙ get_or-set_same p.modules b.number b.says no_module (omega (arith, k, z)) in
        let t = first-together b.number fs ms f.some f.all (row_other r b.number (omega arith)) in
        rw (n, q) (record { middle = fs; together = t; are = f.are })
    go g false i =
        let n : m ≡ b.number → ⊥ = eqb-false m b.number i in
        let s = g (get_or-set_other p.has b.number m true false n ∙ h) e in
        let t = behind_others m fs ms s.middle (all_other b.number m fs f.all (λ q. n (sym q))) s.together in
        record { middle = s.middle; together = t; are = s.are }

places_stand : (o : Options) (ls : List Line) (p : Places) (rest : List Line) (m : ℕ) → places o ls ≡ got p rest
    → get_or p.has m false ≡ true
    → StandsBut o.power o.xy m (get_or p.modules m no_module) (map fields_in ls)
unfolding places
places_stand o ls p rest m h e =
    let b = after_only h in
    let g = got_only b.second in
    let r = blocks_row o blocks_max 0 ls b.value b.left b.first (omega arith) (omega arith) in
    let d = ap (λ (q : Places). get_or q.has m false) g.0 ∙ e in
    rw g.0 at (row_stands r m no_places refl (none_there modules_max m) d)

-- a line before them, which begins with another word
behind-line : {A : Type 0} (w : List ℕ) (q : Reader A) (ls : List Line) (a : A) (rest : List Line) (power xy : Bool) (m : ℕ) (d : Module)
    → line (bytes_due w >> q) ls ≡ got a rest → ((fs : List (List ℕ)) → of_module m (w ∷ fs) ≡ false)
    → StandsBut power xy m d (map fields_in rest)
    → StandsBut power xy m d (map fields_in ls)
unfolding any_of
behind-line w q ls a rest power xy m d h o s =
    let l = line_only (bytes_due w >> q) ls a rest h in
    let k = after_only (closed_only ((bytes_due w >> q) l.first.fields) a l.says) in
    let e = word_only w l.first.fields k.left k.value k.first in
    let n : any_of (of_module m) (l.first.fields ∷ []) ≡ false = rw (ap (of_module m) e ∙ o k.left) in
    let t = behind_others m (l.first.fields ∷ []) (map fields_in rest) s.middle n s.together in
    rw l.lines (record { middle = s.middle; together = t; are = s.are })

overlay_other : (m : ℕ) (fs : List (List ℕ)) → of_module m (bytes "Overlay" ∷ fs) ≡ false
unfolding begun after bytes_due same_bytes
overlay_other m fs = refl

options_other : (m : ℕ) (fs : List (List ℕ)) → of_module m (bytes "Options" ∷ fs) ≡ false
unfolding begun after bytes_due same_bytes
options_other m fs = refl

overlay_stands : (ls : List Line) (v : Overlay) (rest : List Line) (m : ℕ) → overlay ls ≡ got v rest → get_or v.has m false ≡ true
    → StandsBut v.power v.xy m (get_or v.modules m no_module) (map fields_in ls)
unfolding overlay behind_name with_blocks overlay_line options_line
overlay_stands ls v rest m h e =
    let a = after_only h in
    let o = after_only a.second in
    let p = after_only o.second in
    let f = got_only p.second in
    let x = o.value in
    let d = get_or p.value.modules m no_module in
    let s = places_stand x o.left p.value p.left m p.first (ap (λ (q : Overlay). get_or q.has m false) f.0 ∙ e) in
    let t = behind-line (bytes "Options") options_part a.left x o.left x.power x.xy m d o.first (options_other m) s in
    rw (← f.0) (behind-line (bytes "Overlay") name_part ls a.value a.left x.power x.xy m d a.first (overlay_other m) t)

-- in an accepted text
pub blocks_stand : (t : List ℕ) (v : Overlay) (m : ℕ) → read_overlay t ≡ Ok v → get_or v.has m false ≡ true
    → StandsBut v.power v.xy m (get_or v.modules m no_module) (field_lines t)
blocks_stand t v m a h = let l = overlay-lines t v a in overlay_stands (lines_from 1 t 0) v l.0 m l.1 h
