-- Laws of the lines of a block and of its marks: each of its lines begins with the number of its module, and the marks are found as the
-- blocks are read one by one. Assumes nothing.
use Prim.Native.Nat.{ℕ, zero, suc, ◌-◌}
use mathlib.Core.Path.{◌≡◌, refl, ap, ◌∙◌}
use mathlib.Core.Bool.{Bool, true, false, cond, ◌&&◌}
use mathlib.Core.List.{List, [], ◌∷◌}
use mathlib.Core.Option.{Option, some, none}
use borrow.Author.Tests.{eq-eqb}
use lib.Dec.{leb}
use lib.ListN.{get_or, replicate}
use Rattle.units.proofs.TestLaws.{clash}
use Rattle.std.specs.Prelude.{Result, Ok, Err}
use Rattle.units.specs.declared.Fault.TheVariants.{WrongFigure}
use Rattle.units.specs.declared.Refusal.{Refusal}
use Rattle.fields.specs.Bytes.{bytes, same_bytes}
use Rattle.fields.specs.Lines.{Line}
use Rattle.fields.specs.Numbers.{decimal_of}
use Rattle.fields.specs.Readers.{no, got, FieldsGot, Reader, after, give, bytes_due, between, within}
use Rattle.fields.proofs.ReaderLaws.{after-got}
use Rattle.soc.specs.Limits.{modules_max}
use Rattle.soc.specs.declared.record.Module.{Module}
use Rattle.text_lines.specs.Parts.{due, due_is, keyed, rule, whole}
use Rattle.text_lines.specs.Kinds.{BlockStart, module_due, overlay_line, block_number, block_shape, block_line}
use Rattle.text_lines.specs.declared.head.Name.{Name}
use Rattle.text_lines.specs.declared.head.Options.{Options}
use Rattle.text_lines.specs.declared.level.Shape.{Shape}
use Rattle.text_lines.proofs.BoundLaws.{closed-got}
use Rattle.text_reader.specs.Lines.{LinesRead, line}
use Rattle.text_reader.specs.Reading.{module_rest}
use Rattle.text_reader.specs.Marks.{Other, LinesOf}
use Rattle.text_reader.proofs.CountLaws.{after_gives}
use Rattle.text_reader.proofs.LinesOfLaws.{line_first, rest-passes, word_other}
use Rattle.text_reader.proofs.MarkLaws.{marked_line}
use Rattle.overlay.specs.Overlay.{block}
use Rattle.overlay.specs.declared.block.Block.{Block}
use Rattle.overlay.specs.OverlayMarks.{OverlayReadMarked}
use Rattle.overlay.specs.declared.read.Overlay.{Overlay}
use Rattle.overlay.specs.declared.read.OverlayMarked.{OverlayMarked}

-- the number of a block is the one due there

decimal-due : (m : ℕ) (d : Option ℕ) (fs gs : List (List ℕ)) → within 0 (modules_max - 1) d fs ≡ got m gs → due_is m d fs ≡ got tt gs
unfolding within due_is
decimal-due m none fs gs h = clash cc
decimal-due m (some v) fs gs h = go (leb 0 v && leb v (modules_max - 1)) h
  where
    go : (t : Bool) → cond {A = FieldsGot ℕ} t (got v fs) (no WrongFigure) ≡ got m gs → due_is m (some v) fs ≡ got tt gs
    go true h =
        let q : v ≡ m = cc in
        let k : fs ≡ gs = cc in
        rw (eq-eqb v m q) (ap (got tt) k)
    go false h = clash cc

between-due : (m : ℕ) (fs gs : List (List ℕ)) → between 0 (modules_max - 1) fs ≡ got m gs → due m fs ≡ got tt gs
unfolding between due
between-due m [] gs h = clash cc
between-due m (f ∷ fs) gs h = decimal-due m (decimal_of f) fs gs h

key-due : (m : ℕ) (fs gs : List (List ℕ)) → keyed "Module" 0 (modules_max - 1) fs ≡ got m gs → module_due m fs ≡ got tt gs
key-due m fs gs h =
    after_gives _ m gs (bytes_due (bytes "Module") fs)
    (λ u ks e k. after-got (bytes_due (bytes "Module") fs) (λ _. due m) u ks e ∙ between-due m ks gs k) h

rule-left : (t : Bool) (fs gs : List (List ℕ)) (u : Unit {0}) → rule t fs ≡ got u gs → fs ≡ gs
unfolding rule
rule-left true fs gs u h = cc
rule-left false fs gs u h = clash cc

pub number-due : (low m : ℕ) (fs gs : List (List ℕ)) → block_number low fs ≡ got m gs → module_due m fs ≡ got tt gs
unfolding block_number
number-due low m fs gs h = after_gives _ m gs (keyed "Module" 0 (modules_max - 1) fs) key h
  where
    ended : (v : ℕ) (ks js : List (List ℕ)) → keyed "Module" 0 (modules_max - 1) fs ≡ got v ks → ks ≡ js
        → ◌≡◌ {A = FieldsGot ℕ} (got v js) (got m gs)
        → module_due m fs ≡ got tt gs
    ended v ks js e i j =
        let q : v ≡ m = cc in
        let k : ks ≡ gs = cc in
        rw (q, k) at (key-due v fs ks e)

    key : (v : ℕ) (ks : List (List ℕ)) → keyed "Module" 0 (modules_max - 1) fs ≡ got v ks
        → after (rule (leb low v) ks) (λ _. give v) ≡ got m gs
        → module_due m fs ≡ got tt gs
    key v ks e k = after_gives _ m gs (rule (leb low v) ks) (λ u js i j. ended v ks js e (rule-left (leb low v) ks js u i) j) k

-- a block's first line begins with its number
pub start-begins : (low : ℕ) (fs : List (List ℕ)) (s : BlockStart) → whole (block_line low) fs ≡ Ok s
    → (gs : List (List ℕ)) × (module_due s.number fs ≡ got tt gs)
unfolding block_line
start-begins low fs s h = after_gives _ s [] (block_number low fs) number (closed-got (block_line low fs) s h)
  where
    shape : (m : ℕ) (gs : List (List ℕ)) → block_number low fs ≡ got m gs → (d : Shape) (hs : List (List ℕ))
        → ◌≡◌ {A = FieldsGot BlockStart} (got (record { number = m; shape = d }) hs) (got s [])
        → (gs : List (List ℕ)) × (module_due s.number fs ≡ got tt gs)
    shape m gs e d hs j =
        let q : record { number = m; shape = d } ≡ s = cc in
        let n : m ≡ s.number = ap (λ (x : BlockStart). x.number) q in
        (gs, rw n at (number-due low m fs gs e))

    number : (m : ℕ) (gs : List (List ℕ)) → block_number low fs ≡ got m gs
        → after (block_shape gs) (λ d. give (record { number = m; shape = d })) ≡ got s []
        → (gs : List (List ℕ)) × (module_due s.number fs ≡ got tt gs)
    number m gs e k = after_gives _ s [] (block_shape gs) (λ d hs _ j. shape m gs e d hs j) k

-- the lines of a block are those of its module
pub block-lines : (o : Options) (low : ℕ) (ls : List Line) (b : Block) (ms : List Line) → block o low ls ≡ got b ms
    → LinesOf b.number ls ms
unfolding block
block-lines o low ls b ms h = after_gives _ b ms (line (block_line low) ls) started h
  where
    lines : (s : BlockStart) (ks : List Line) → line (block_line low) ls ≡ got s ks → (d : Module) (js : List Line)
        → module_rest o s.number s.shape ks ≡ got d js → LinesOf s.number ls js
    lines s ks e d js i =
        line_first (block_line low) s ls ks
        (λ l q w.
        let g = start-begins low l.fields s w in
        record {
          first = l;
          rest = ks;
          lines = q;
          begins = record { left = g.0; begins = g.1 };
          goes_on = rest-passes o s.number s.shape d ks js i;
        })
        e

    ended : (s : BlockStart) (d : Module) (js : List Line) → LinesOf s.number ls js
        → ◌≡◌ {A = LinesRead Block} (got (record { number = s.number; says = d }) js) (got b ms) → LinesOf b.number ls ms
    ended s d js l e =
        let q : record { number = s.number; says = d } ≡ b = cc in
        let n : s.number ≡ b.number = ap (λ (x : Block). x.number) q in
        let k : js ≡ ms = cc in
        rw (n, k) at l

    started : (s : BlockStart) (ks : List Line) → line (block_line low) ls ≡ got s ks
        → after (module_rest o s.number s.shape ks) (λ d. give (record { number = s.number; says = d })) ≡ got b ms
        → LinesOf b.number ls ms
    started s ks e k =
        after_gives _ b ms (module_rest o s.number s.shape ks) (λ d js i j. ended s d js (lines s ks e d js i) j) k

-- an overlay's first line is of no module
pub overlay_other : (m : ℕ) (l : Line) (a : Name) → whole overlay_line l.fields ≡ Ok a → Other m l
unfolding overlay_line same_bytes
overlay_other m l a h gs e = word_other m (bytes "Overlay") _ a l.fields gs refl h e

-- before the first block there is none
pub none_there : (n m : ℕ) → get_or (replicate n false) m false ≡ false
none_there zero m = refl
none_there (suc n) zero = refl
none_there (suc n) (suc m) = none_there n m

-- an overlay that is refused
pub refused_marked : (m : ℕ) (t : List ℕ) (ls : List Line) (a : Result Overlay Refusal) (f : Refusal) → Err f ≡ a → OverlayReadMarked m t ls a (Err f)
refused_marked m t ls a f h = record { read = h; marks = tt }

-- a line of no module before the others
module _ {A : Type 0} (m : ℕ) (t : List ℕ) (r : Reader A) (v : A) (ls ms : List Line) (is : line r ls ≡ got v ms)
    (other : (l : Line) → whole r l.fields ≡ Ok v → Other m l) where
  pub marked_behind : (a b : Result Overlay Refusal) (s : Result OverlayMarked Refusal) → a ≡ b → OverlayReadMarked m t ms a s → OverlayReadMarked m t ls b s
  marked_behind a b (Err f) e k = record { read = k.read ∙ e; marks = tt }
  marked_behind a b (Ok s) e k = record { read = k.read ∙ e; marks = λ h. marked_line m t r v ls ms is other (k.marks h) }
