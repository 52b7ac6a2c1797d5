-- Laws of reading the blocks of an overlay one by one: what a block's first line says, when the text goes on, a block's number, and the
-- places that the blocks fill. Assumes nothing.
use Prim.Native.Nat.{ℕ, suc, ◌+◌, ◌-◌, ◌≤◌, ◌<◌}
use native.Mathlib.Omega.{arith}
use mathlib.Core.Path.{◌≡◌, refl, ap}
use mathlib.Core.Bool.{Bool, true, false, not}
use mathlib.Core.List.{List, [], ◌∷◌}
use Rattle.std.specs.Option.{is_some}
use Rattle.std.specs.Prelude.{Option, None, Some, Result, Ok, Err}
use Rattle.units.proofs.TestLaws.{clash}
use Rattle.units.specs.declared.Fault.{Fault}
use Rattle.units.specs.declared.Fault.TheVariants.{WrongForm}
use Rattle.units.specs.declared.Refusal.{Refusal}
use Rattle.fields.specs.Fields.{fields_of, part}
use Rattle.fields.specs.Lines.{Line}
use Rattle.fields.specs.Readers.{no, got, FieldsGot, after, give}
use Rattle.soc.specs.Limits.{modules_max}
use Rattle.soc.specs.declared.record.Module.{Module}
use Rattle.text_lines.specs.Parts.{closed, whole}
use Rattle.text_lines.specs.Kinds.{BlockStart, block_line}
use Rattle.text_lines.specs.declared.head.Options.{Options}
use Rattle.text_lines.specs.declared.level.Shape.{Shape}
use Rattle.text_lines.proofs.LevelLaws.{start-within}
use Rattle.text_line_reader.specs.Due.{lines_at, DueIs}
use Rattle.text_line_reader.specs.declared.place.DueLine.{DueLine}
use Rattle.text_line_reader.specs.declared.place.Place.{Place}
use Rattle.text_reader.specs.Lines.{LinesRead, LinesReader, line}
use Rattle.text_reader.specs.Reading.{module_rest}
use Rattle.text_reader.specs.Steps.{StepMeans, IsDue, taken}
use Rattle.text_reader.proofs.CountLaws.{line-got, after_gives}
use Rattle.text_reader.proofs.StepLaws.{step_line}
use Rattle.overlay.specs.Overlay.{block, goes_on, to_end, blocks, put, puts}
use Rattle.overlay.specs.declared.block.Block.{Block}
use Rattle.overlay.specs.declared.block.Places.{Places}
use Rattle.overlay.specs.Steps.{start_in, start_said}
use Rattle.overlay.specs.declared.line.BlockLine.{BlockLine}

-- what is made of the rest of a block's first line
module _ {B : Type 0} (f : Shape → B) where
  pub shape_no : (g : FieldsGot Shape) (e : Fault) → Err e ≡ closed g → Err e ≡ closed (after g (λ s. give (f s)))
  unfolding closed after
  shape_no (no c) e h = let k : e ≡ c = cc in ap Err k
  shape_no (got s []) e h = clash cc
  shape_no (got s (x ∷ xs)) e h = let k : e ≡ WrongForm = cc in ap Err k

  pub shape_got : (g : FieldsGot Shape) (a : Shape) → Ok a ≡ closed g → Ok (f a) ≡ closed (after g (λ s. give (f s)))
  unfolding closed after
  shape_got (no c) a h = clash cc
  shape_got (got s []) a h = let k : a ≡ s = cc in ap (λ x. Ok (f x)) k
  shape_got (got s (x ∷ xs)) a h = clash cc

-- what the line that is due says of a block's start
start_taken : Result (BlockLine × Place) Refusal → Result (BlockStart × Place) Refusal
start_taken (Err f) = Err f
start_taken (Ok (b, q)) = Ok (start_in b, q)

-- the line that is due, as the reader of a block's start takes it
module _ (low : ℕ) (t : List ℕ) (p : Place) (l : DueLine) (d : IsDue t p (Ok l)) (r : Result BlockLine Fault)
    (read : start_said r ≡ whole (block_line low) (fields_of (part t l.from l.to))) where
  start_line : StepMeans t (start_taken (taken r l)) (line (block_line low) (lines_at t p))
  unfolding taken start_taken
  start_line = step_line (block_line low) t p l d (go r read)
    where
      go : (r : Result BlockLine Fault) {w : Result BlockStart Fault} → start_said r ≡ w → start_taken (taken r l) ≡ taken w l
      go (Err f) e = rw (← e) refl
      go (Ok b) e = rw (← e) refl

  pub start_no : (f : Refusal) → Err f ≡ taken r l → StepMeans {A = BlockStart} t (Err f) (line (block_line low) (lines_at t p))
  unfolding start_taken
  start_no f e = rw (← e) at start_line

  pub start_got : (b : BlockLine) (q : Place) → Ok (b, q) ≡ taken r l → StepMeans t (Ok (start_in b, q)) (line (block_line low) (lines_at t p))
  unfolding start_taken
  start_got b q e = rw (← e) at start_line

-- the number of a block that was read ascends, and is within its limit
pub block_within : (o : Options) (low : ℕ) (ls : List Line) (b : Block) (ms : List Line) → block o low ls ≡ got b ms → (low ≤ b.number) × (b.number ≤ modules_max - 1)
unfolding block
block_within o low ls b ms h = after_gives _ b ms (line (block_line low) ls) started h
  where
    ended : (s : BlockStart) → (low ≤ s.number) × (s.number ≤ modules_max - 1) → (d : Module) (js : List Line)
        → ◌≡◌ {A = LinesRead Block} (got (record { number = s.number; says = d }) js) (got b ms) → (low ≤ b.number) × (b.number ≤ modules_max - 1)
    ended s w d js e =
        let q : record { number = s.number; says = d } ≡ b = cc in
        let n : s.number ≡ b.number = ap (λ x. x.number) q in
        rw n at w

    started : (s : BlockStart) (ks : List Line) → line (block_line low) ls ≡ got s ks
        → after (module_rest o s.number s.shape ks) (λ d. give (record { number = s.number; says = d })) ≡ got b ms → (low ≤ b.number) × (b.number ≤ modules_max - 1)
    started s ks e k =
        let w = line-got (block_line low) s (λ fs i. start-within low fs s i) ls ks e in
        after_gives _ b ms (module_rest o s.number s.shape ks) (λ d js _ j. ended s w d js j) k

-- the places p, and in them the blocks that are read
abbrev pub filled_by : Places → LinesRead (List Block) → LinesRead Places
filled_by p g = after g (λ bs. give (puts p bs))

filled_more : (p : Places) (b : Block) (g : LinesRead (List Block)) → filled_by p (after g (λ bs. give (b ∷ bs))) ≡ filled_by (put p b) g
unfolding after puts
filled_more p b (no c) = refl
filled_more p b (got bs ls) = refl

-- n blocks at most of which i are read, and stand in the places p; the next has a number from low on
module _ (o : Options) (n i low : ℕ) (p : Places) (ls : List Line) (h : i < n) where
  pub blocks-no : (c : Refusal) → block o low ls ≡ no c → filled_by p (blocks o (n - i) low ls) ≡ no c
  unfolding blocks after
  blocks-no c e = let k : n - i ≡ suc (n - (i + 1)) = omega arith in rw (k, e)

  pub blocks_more : (b : Block) (ms : List Line) → block o low ls ≡ got b ms
      → filled_by p (blocks o (n - i) low ls) ≡ filled_by (put p b) (to_end (blocks o (n - (i + 1)) (b.number + 1)) ms)
  unfolding blocks after
  blocks_more b ms e =
      let k : n - i ≡ suc (n - (i + 1)) = omega arith in
      let j : b.number + 1 ≡ suc b.number = omega arith in
      rw (k, e, j) (filled_more p b (to_end (blocks o (n - (i + 1)) (suc b.number)) ms))

-- where the text has ended, and where it goes on
pub blocks_end : (p : Places) (r : LinesReader (List Block)) (ls : List Line) → ls ≡ [] → filled_by p (to_end r ls) ≡ got p []
unfolding after puts goes_on
blocks_end p r ls e = rw e refl

pub blocks_on : (p : Places) (r : LinesReader (List Block)) (ls : List Line) → goes_on ls ≡ true → filled_by p (to_end r ls) ≡ filled_by p (r ls)
blocks_on p r ls e = rw e refl

pub line_none : (t : List ℕ) (p : Place) (r : Option DueLine) {b : Bool} → DueIs t p r → is_some r ≡ not b → b ≡ true → lines_at t p ≡ []
line_none t p None d s e = d
line_none t p (Some l) d s e = let k : true ≡ not true = rw e at s in clash cc

pub line_some : (t : List ℕ) (p : Place) (r : Option DueLine) {b : Bool} → DueIs t p r → is_some r ≡ not b → b ≡ false → goes_on (lines_at t p) ≡ true
unfolding goes_on
line_some t p None d s e = let k : false ≡ not false = rw e at s in clash cc
line_some t p (Some l) d s e = ap goes_on d.is
