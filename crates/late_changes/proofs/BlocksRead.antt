-- Laws of the blocks of an overlay that are read: to the text's end, with numbers that ascend, each with the lines of its module; and of
-- lines of such blocks, which are read as them. Assumes nothing.
use Prim.Native.Nat.{ℕ, zero, suc, ◌+◌, ◌≤◌, ◌<◌}
use native.Mathlib.Omega.{arith}
use mathlib.Core.Path.{◌≡◌, refl, ap, subst, ◌∙◌}
use mathlib.Core.Bool.{Bool, true, false, cond, true≢false}
use mathlib.Core.List.{List, [], ◌∷◌, ◌++◌, map}
use Rattle.overlay.specs.declared.block.Block.{Block}
use Rattle.units.proofs.TestLaws.{clash}
use Rattle.fields.specs.Lines.{Line}
use Rattle.fields.specs.Readers.{got, ◌>>=◌, give}
use Rattle.fields.proofs.ReaderLaws.{after-got}
use Rattle.soc.specs.Limits.{modules_max}
use Rattle.text_lines.specs.declared.head.Options.{Options}
use Rattle.text_reader.specs.Lines.{LinesReader}
use Rattle.text.specs.Describes.{fields_in}
use Rattle.text.proofs.PartOnly.{after_only}
use Rattle.text.proofs.Accepted.{got_only}
use Rattle.text.proofs.Described.{Ends, then_ends, options_of}
use Rattle.overlay.specs.Overlay.{block, goes_on, to_end, blocks}
use Rattle.overlay.proofs.BlockLaws.{block_within}
use Rattle.late_changes.proofs.BlockRead.{BlockRead, block_read}
use Rattle.late_changes.proofs.BlockDescribed.{block-passes}
use Rattle.late_changes.proofs.BlockPlaces.{Ascending}

module _ (o : Options) where
  -- blocks that are read, and nothing behind them
  pub record BlocksRead (low : ℕ) (ls : List Line) (bs : List Block) (rest : List Line) : Type 0 where
    pub fields : List (List (List ℕ))
    pub lines : map fields_in ls ≡ fields
    pub ascend : Ascending o.power o.xy low bs fields
    pub ends : rest ≡ []

  none_read : (low : ℕ) (ls : List Line) (bs : List Block) (rest : List Line) → goes_on ls ≡ false → [] ≡ bs → ls ≡ rest
      → BlocksRead low ls bs rest
  unfolding goes_on
  none_read low [] bs rest g e f = rw (← e, ← f) (record { fields = []; lines = refl; ascend = Ascending.none; ends = refl })
  none_read low (l ∷ ls) bs rest g e f = absurd (true≢false g)

  some-fields : (m : ℕ) (ls : List Line) (b : Block) (ms : List Line) → BlockRead o m ls b.says ms → map fields_in ls ≡ [] → ⊥
  some-fields m ls b ms r e =
      let i = r.lines in
      let j = r.are.lines_are in
      clash cc

  pub blocks-read : (n low : ℕ) (ls : List Line) (bs : List Block) (rest : List Line) → low ≤ modules_max → modules_max < n + low
      → blocks o n low ls ≡ got bs rest
      → BlocksRead low ls bs rest × (map fields_in ls ≡ [] → ⊥)
  unfolding blocks
  blocks-read zero low ls bs rest h k e = absurd (omega arith)
  blocks-read (suc n) low ls bs rest h k e =
      let a = after_only e in
      let b = after_only a.second in
      let g = got_only b.second in
      let m = a.value.number in
      let w = block_within o low ls a.value a.left a.first in
      let r = block_read o low ls a.value a.left a.first in
      let t =
      go a.left b.value b.left m (λ js cs ks i. (blocks-read n (suc m) js cs ks (omega (arith, w)) (omega (arith, w)) i).0)
      (goes_on a.left) refl b.first in
      let u : BlocksRead low ls (a.value ∷ b.value) b.left = record {
        fields = r.fields ++ t.fields;
        lines = r.lines ∙ ap (λ x. r.fields ++ x) t.lines;
        ascend = Ascending.more w.0 (omega (arith, w)) (record { are = r.are; good = r.good; sized = r.sized }) t.ascend;
        ends = t.ends;
      } in
      let v = subst (λ x. BlocksRead low ls bs x) g.1 (subst (λ x. BlocksRead low ls x b.left) g.0 u) in
      (v, some-fields m ls a.value a.left r)
    where
      go : (js : List Line) (cs : List Block) (ks : List Line) (m : ℕ)
          → ((js : List Line) (cs : List Block) (ks : List Line) → blocks o n (suc m) js ≡ got cs ks → BlocksRead (suc m) js cs ks)
          → (t : Bool) → goes_on js ≡ t → cond t (blocks o n (suc m) js) (got [] js) ≡ got cs ks → BlocksRead (suc m) js cs ks
      go js cs ks m f true g e = f js cs ks e
      go js cs ks m f false g e = let q = got_only e in none_read (suc m) js cs ks g q.0 q.1

-- a value made of the one that was read
made_ends : {A B : Type 0} (p : LinesReader A) (f : A → B) (fs : List (List (List ℕ))) (a : A) → Ends p fs a
    → Ends (p >>= (λ x. give (f x))) fs (f a)
made_ends p f fs a h ls e = after-got (p ls) (λ x. give (f x)) a [] (h ls e)

pub blocks_end : {power xy : Bool} {low : ℕ} {bs : List Block} {fs : List (List (List ℕ))} → Ascending power xy low bs fs → (n : ℕ)
    → modules_max < n + low
    → Ends (to_end (blocks (options_of power xy) n low)) fs bs
unfolding blocks goes_on
blocks_end Ascending.none n h [] e = refl
blocks_end Ascending.none n h (l ∷ ls) e = clash cc
blocks_end (Ascending.more {low} {m} {d} {bs} {ls} {ms} p q g r) zero h ks e = absurd (omega arith)
blocks_end (Ascending.more {low} {m} {d} {bs} {ls} {ms} p q g r) (suc n) h [] e = let i = g.are.lines_are in clash cc
blocks_end {power = power} {xy = xy} (Ascending.more {low} {m} {d} {bs} {ls} {ms} p q g r) (suc n) h (k ∷ ks) e =
    let o = options_of power xy in
    let b : Block = record { number = m; says = d } in
    then_ends (block o low) (λ x. to_end (blocks o n (suc x.number)) >>= (λ xs. give (x ∷ xs))) ls ms b (b ∷ bs)
    (block-passes power xy low m d p (omega arith) g.sized g.good ls g.are)
    (made_ends (to_end (blocks o n (suc m))) (λ xs. b ∷ xs) ms bs (λ js i. blocks_end r n (omega arith) js i))
    (k ∷ ks)
    e
