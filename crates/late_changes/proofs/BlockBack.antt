-- Lines that say a module of a SOC text are read as a block of an overlay too, and say the same there. Assumes nothing.
use Prim.Native.Nat.{ℕ, ◌-◌, ◌≤◌}
use native.Mathlib.Omega.{arith}
use mathlib.Core.Path.{◌≡◌, refl, sym, ap, ap₂, ◌∙◌}
use mathlib.Core.Bool.{Bool, true}
use mathlib.Core.List.{List, [], ◌∷◌, map, append-nil}
use borrow.Author.Tests.{le-leb}
use lib.Dec.{leb}
use Rattle.std.specs.Prelude.{Ok}
use Rattle.units.proofs.TestLaws.{clash}
use Rattle.fields.specs.Bytes.{bytes}
use Rattle.fields.specs.Lines.{Line}
use Rattle.fields.specs.Readers.{got, between}
use Rattle.fields.specs.WrittenLines.{decimal}
use Rattle.fields.proofs.ReaderLaws.{after-got}
use Rattle.soc.specs.Limits.{modules_max}
use Rattle.soc.specs.Rules.{level_rule, good_module}
use Rattle.soc.specs.Sized.{SizedModule}
use Rattle.soc.specs.declared.record.Module.{Module}
use Rattle.text_lines.specs.Parts.{closed, whole}
use Rattle.text_lines.specs.Kinds.{module_due, level_key, level, level_line, block_number, block_shape, block_line}
use Rattle.text_lines.specs.declared.head.Options.{Options}
use Rattle.text_lines.specs.declared.level.Shape.{Shape}
use Rattle.text_lines.proofs.PartLaws.{rule-kept}
use Rattle.text_reader.specs.Reading.{module_lines}
use Rattle.text.specs.Describes.{ModuleLines, fields_in}
use Rattle.text.proofs.LineBack.{word_back, between_back}
use Rattle.text.proofs.PartOnly.{closed_only, after_only, rule_only, key-due_only}
use Rattle.text.proofs.SparePlaces.{good_module_lem}
use Rattle.text.proofs.Described.{options_of, module_passes}
use Rattle.text.proofs.Accepted.{got_only, line_only}
use Rattle.overlay.specs.Overlay.{block}
use Rattle.late_changes.proofs.BlockAs.{line_as}

number_back : (m : ℕ) (fs gs : List (List ℕ)) → m ≤ modules_max - 1 → module_due m fs ≡ got tt gs → block_number m fs ≡ got m gs
unfolding block_number
number_back m fs gs h e =
    let f : fs ≡ bytes "Module" ∷ decimal m ∷ gs = key-due_only (bytes "Module") fs gs m tt e in
    let k : between 0 (modules_max - 1) (decimal m ∷ gs) ≡ got m gs = between_back 0 (modules_max - 1) m (omega arith) h gs in
    let r = rule-kept (leb m m) gs (le-leb m m (omega arith)) in
    rw f (after-got _ _ _ _ (after-got _ _ _ _ (word_back (bytes "Module") (decimal m ∷ gs)) ∙ k) ∙ after-got _ _ _ _ r)

start_back : (m last : ℕ) (fs : List (List ℕ)) (s : Shape) → m ≤ modules_max - 1 → whole (level_line m last) fs ≡ Ok s
    → whole (block_line m) fs ≡ Ok (record { number = m; shape = s })
unfolding level_line level block_line block_shape closed
start_back m last fs s h e =
    let a = after_only (closed_only (level_line m last fs) s e) in
    let b = after_only a.first in
    let c = after_only b.second in
    let d = after_only c.second in
    let g = got_only d.second in
    let r = rule_only (level_rule m last c.value) c.left d.left d.value d.first in
    let k : level_key b.left ≡ got a.value a.left = c.first ∙ ap₂ got g.0 (r.1 ∙ g.1) in
    let n = number_back m fs b.left h b.first in
    ap closed (after-got _ _ _ _ n ∙ after-got _ _ _ _ (after-got _ _ _ _ k ∙ a.second))

module_block : (o : Options) (m last : ℕ) (ls : List Line) (d : Module) (rest : List Line) → m ≤ modules_max - 1
    → module_lines o m last ls ≡ got d rest
    → block o m ls ≡ got (record { number = m; says = d }) rest
unfolding module_lines block
module_block o m last ls d rest h e =
    let a = after_only e in
    let l = line_only (level_line m last) ls a.value a.left a.first in
    let k =
    line_as (block_line m) ls l.first a.left (record { number = m; shape = a.value }) l.lines
    (start_back m last l.first.fields a.value h l.says) in
    after-got _ _ _ _ k ∙ after-got _ _ _ _ a.second

nothing_left : (ls : List Line) → map fields_in ls ≡ [] → ls ≡ []
nothing_left [] e = refl
nothing_left (l ∷ ls) e = clash cc

-- lines that say a good module, read as a block
pub block_back : (power xy : Bool) (m last : ℕ) (d : Module) (ls : List Line) → m ≤ modules_max - 1 → SizedModule d
    → good_module power xy m last d ≡ true
    → ModuleLines power xy m d (map fields_in ls) → block (record { power = power; xy = xy }) m ls ≡ got (record { number = m; says = d }) []
block_back power xy m last d ls h z g r =
    let p =
    module_passes power xy m last d z (good_module_lem power xy m last d g) (map fields_in ls) r ls [] (sym (append-nil (map fields_in ls))) in
    module_block (options_of power xy) m last ls d [] h (p.is ∙ ap (got d) (nothing_left p.left p.fields))
