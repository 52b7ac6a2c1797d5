-- The modules of an overlay that was read keep the limits and rules of the text wherever their levels do. Assumes nothing.
use Prim.Native.Nat.{ℕ, zero, suc, ◌-◌, ◌≤◌}
use native.Mathlib.Omega.{arith}
use mathlib.Core.Path.{◌≡◌, refl, sym, ap, ◌∙◌}
use mathlib.Core.Bool.{Bool, true, false, cond, false≢true}
use mathlib.Core.List.{List, []}
use lib.ListN.{length, get_or, set, replicate, length-set}
use lib.Dec.{leb, eqb}
use borrow.Author.Tests.{eqb-true, eqb-false}
use lib.Seq.{get_or-set_same, get_or-set_other}
use Rattle.std.specs.Prelude.{Ok}
use Rattle.units.specs.declared.Fault.TheVariants.{LongText}
use Rattle.std.specs.Prelude.{Option, None, Some, Err}
use Rattle.overlay.specs.declared.block.Block.{Block}
use Rattle.overlay.specs.declared.block.Places.{Places}
use Rattle.units.specs.Refusals.{refused}
use Rattle.units.proofs.TestLaws.{clash}
use Rattle.fields.specs.Bytes.{bad_byte}
use Rattle.fields.specs.Lines.{Line, lines_from}
use Rattle.fields.specs.Readers.{no, got}
use Rattle.soc.specs.Limits.{text_max, modules_max}
use Rattle.soc.specs.Record.{no_module}
use Rattle.text_lines.specs.declared.head.Options.{Options}
use Rattle.text_reader.specs.Lines.{LinesRead}
use Rattle.text.proofs.PartOnly.{after_only}
use Rattle.text.proofs.Accepted.{got_only, module_read}
use Rattle.overlay.specs.Overlay.{block, goes_on, blocks, blocks_max, no_places, put, puts, places, with_blocks, behind_name, overlay, answer, unless_bad, read_overlay}
use Rattle.overlay.specs.declared.read.Overlay.{Overlay}
use Rattle.overlay.proofs.BlockLaws.{block_within}
use Rattle.late_changes.specs.Blocks.{GoodBut, GoodPlaces}
use Rattle.late_changes.proofs.BlockAs.{block_as}

-- one block
block-good : (o : Options) (low : ℕ) (ls : List Line) (b : Block) (ms : List Line) → block o low ls ≡ got b ms → GoodBut o.power o.xy b.number b.says
block-good o low ls b ms h =
    record {
      good = λ last r. (module_read o b.number last ls b.says ms (block_as o low last ls b ms h r)).good;
      sized = λ last r. (module_read o b.number last ls b.says ms (block_as o low last ls b ms h r)).sized;
    }

-- places into which a good block is put
put-good : (power xy : Bool) (p : Places) (b : Block) → GoodPlaces power xy p.has p.modules → b.number ≤ modules_max - 1 → GoodBut power xy b.number b.says
    → GoodPlaces power xy (put p b).has (put p b).modules
put-good power xy p b g h k =
    record {
      has_length = simp length-set g.has_length;
      modules_length = simp length-set g.modules_length;
      each = λ m e. go m e (eqb m b.number) refl;
    }
  where
    go : (m : ℕ) → get_or (set p.has b.number true) m false ≡ true → (t : Bool) → eqb m b.number ≡ t → GoodBut power xy m (get_or (set p.modules b.number b.says) m no_module)
    go m e true i =
        let n : m ≡ b.number = eqb-true m b.number i in
        let s : get_or (set p.modules b.number b.says) b.number no_module ≡ b.says = get_or-set_same p.modules b.number b.says no_module (omega (arith, g.modules_length)) in
        rw (n, s) k
    go m e false i =
        let n : m ≡ b.number → ⊥ = eqb-false m b.number i in
        let s : get_or (set p.modules b.number b.says) m no_module ≡ get_or p.modules m no_module = get_or-set_other p.modules b.number m b.says no_module n in
        let u : get_or p.has m false ≡ true = sym (get_or-set_other p.has b.number m true false n) ∙ e in
        rw s (g.each m u)

-- the blocks that are read are put into good places
blocks-good : (o : Options) (n low : ℕ) (ls : List Line) (bs : List Block) (rest : List Line) (p : Places) → blocks o n low ls ≡ got bs rest → GoodPlaces o.power o.xy p.has p.modules
    → GoodPlaces o.power o.xy (puts p bs).has (puts p bs).modules
unfolding blocks puts
blocks-good o zero low ls bs rest p h g = let e = got_only h in rw (← e.0) g
blocks-good o (suc n) low ls bs rest p h g =
    let a = after_only h in
    let b = after_only a.second in
    let e = got_only b.second in
    let w = block_within o low ls a.value a.left a.first in
    let q = put-good o.power o.xy p a.value g w.1 (block-good o low ls a.value a.left a.first) in
    rw (← e.0) (go a.value.number a.left b.value b.left (put p a.value) (λ i js bs ks r k f. blocks-good o n i js bs ks r k f) (goes_on a.left) b.first q)
  where
    go : (k : ℕ) (js : List Line) (bs : List Block) (ks : List Line) (r : Places)
        → ((i : ℕ) (js : List Line) (bs : List Block) (ks : List Line) (r : Places) → blocks o n i js ≡ got bs ks → GoodPlaces o.power o.xy r.has r.modules
        → GoodPlaces o.power o.xy (puts r bs).has (puts r bs).modules)
        → (t : Bool) → cond t (blocks o n (suc k) js) (got [] js) ≡ got bs ks → GoodPlaces o.power o.xy r.has r.modules → GoodPlaces o.power o.xy (puts r bs).has (puts r bs).modules
    go k js bs ks r f true h g = f (suc k) js bs ks r h g
    go k js bs ks r f false h g = let e = got_only h in rw (← e.0) g

-- places that have nothing
none-at : (n m : ℕ) → get_or (replicate n false) m false ≡ true → ⊥
none-at zero m e = false≢true e
none-at (suc n) zero e = false≢true e
none-at (suc n) (suc m) e = none-at n m e

none-good : (power xy : Bool) → GoodPlaces power xy (replicate modules_max false) (replicate modules_max no_module)
none-good power xy = record { has_length = refl; modules_length = refl; each = λ m e. absurd (none-at modules_max m e) }

overlay-good : (ls : List Line) (v : Overlay) (rest : List Line) → overlay ls ≡ got v rest → GoodPlaces v.power v.xy v.has v.modules
unfolding overlay behind_name with_blocks places
overlay-good ls v rest h =
    let a = after_only h in
    let o = after_only a.second in
    let p = after_only o.second in
    let b = after_only p.first in
    let e = got_only b.second in
    let f = got_only p.second in
    let g = blocks-good o.value blocks_max 0 o.left b.value b.left no_places b.first (none-good o.value.power o.value.xy) in
    rw (← f.0) (rw e.0 at g)

-- an overlay that is read from a text is that of its lines
pub overlay-lines : (t : List ℕ) (v : Overlay) → read_overlay t ≡ Ok v → (ls : List Line) × (overlay (lines_from 1 t 0) ≡ got v ls)
unfolding read_overlay unless_bad answer
overlay-lines t v h = go (leb (length t) text_max) (bad_byte 1 t) (overlay (lines_from 1 t 0)) refl h
  where
    go : (u : Bool) (b : Option ℕ) (g : LinesRead Overlay) → overlay (lines_from 1 t 0) ≡ g
        → cond u (unless_bad b (answer g)) (Err (refused LongText 0)) ≡ Ok v → (ls : List Line) × (overlay (lines_from 1 t 0) ≡ got v ls)
    go true None (got w ls) e a = let i : w ≡ v = cc in (ls, e ∙ ap (λ x. got x ls) i)
    go true None (no r) e a = clash cc
    go true (Some n) g e a = clash cc
    go false b g e a = clash cc

-- whatever is read from a text
pub read-good : (t : List ℕ) (v : Overlay) → read_overlay t ≡ Ok v → GoodPlaces v.power v.xy v.has v.modules
read-good t v a = let l = overlay-lines t v a in overlay-good (lines_from 1 t 0) v l.0 l.1
