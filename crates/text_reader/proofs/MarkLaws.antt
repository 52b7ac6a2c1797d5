-- Laws of the marks of a module's lines: as the modules are read one by one, and with the lines of a text before them. Assumes nothing.
use Prim.Native.Nat.{ℕ, ◌+◌, ◌≤◌}
use native.Mathlib.Omega.{arith}
use mathlib.Core.Path.{◌≡◌, refl, sym, ◌∙◌}
use mathlib.Core.Bool.{Bool, true, false, cond, true≢false}
use mathlib.Core.List.{List, []}
use borrow.Author.Tests.{eqb-true, eqb-false, lt-ltb, le-ltb, ltb-true, ltb-false}
use lib.Dec.{ltb, eqb}
use Rattle.units.specs.declared.Refusal.{Refusal}
use Rattle.fields.specs.Lines.{Line}
use Rattle.fields.specs.Readers.{got, Reader}
use Rattle.soc.specs.declared.record.Soc.{Soc}
use Rattle.std.specs.Prelude.{Result, Ok, Err}
use Rattle.text_lines.specs.Parts.{whole}
use Rattle.text_line_reader.specs.Due.{lines_at}
use Rattle.text_line_reader.specs.declared.place.Place.{Place}
use Rattle.text_reader.specs.Lines.{line}
use Rattle.text_reader.specs.Marks.{Of, Other, Passes, LinesOf, Marked, new_marks}
use Rattle.text_reader.specs.Marks.{ReadMarked}
use Rattle.text_reader.specs.declared.marks.Marks.{Marks}
use Rattle.text_reader.specs.declared.read.SocMarked.{SocMarked}
use Rattle.text_reader.proofs.LinesOfLaws.{line_first, passes-one, passes_both, passes_as, of_other}

-- modules with numbers below low are read, from ls up to ms; module m is among them or not
pub record Marking (m low : ℕ) (has : Bool) (t : List ℕ) (ls ms : List Line) (s : Marks) : Type 0 where
  pub before : low ≤ m → Passes (Other m) ls ms
  pub absent : low ≤ m → has ≡ false
  pub marks : has ≡ true → Marked m t ls ms s.from s.to

pub marking_start : (m : ℕ) (has : Bool) (t : List ℕ) (ls : List Line) (s : Marks) → has ≡ false → Marking m 0 has t ls ls s
marking_start m has t ls s e =
    record { before = λ _. Passes.none; absent = λ _. e; marks = λ h. absurd (true≢false (sym h ∙ e)) }

lines_pass : (m : ℕ) {ls ms : List Line} → LinesOf m ls ms → Passes (Of m) ls ms
lines_pass m {ls} {ms} r = rw r.lines (Passes.more r.begins r.goes_on)

-- more lines that are not of the module, behind the others and before them
marked_on : {m : ℕ} {t : List ℕ} {ls ms ns : List Line} {from to : ℕ} → Marked m t ls ms from to → Passes (Other m) ms ns
    → Marked m t ls ns from to
marked_on r p =
    record { from_line = r.from_line; to_line = r.to_line; before = r.before; lines = r.lines; behind = passes_both r.behind p }

marked_before : {m : ℕ} {t : List ℕ} {ks ls ms : List Line} {from to : ℕ} → Passes (Other m) ks ls → Marked m t ls ms from to
    → Marked m t ks ms from to
marked_before p r =
    record { from_line = r.from_line; to_line = r.to_line; before = passes_both p r.before; lines = r.lines; behind = r.behind }

-- the lines of module k come, from low on
module _ (m low k : ℕ) (has had : Bool) (t : List ℕ) (ls : List Line) (p q : Place) (s r : Marks) where
  pub marking_next : Marking m low had t ls (lines_at t p) s → low ≤ k → LinesOf k (lines_at t p) (lines_at t q) → ((k ≡ m → ⊥) → has ≡ had)
      → r ≡ new_marks s m k p.at q.at
      → Marking m (k + 1) has t ls (lines_at t q) r
  marking_next a h l f e = go (eqb k m) refl e
    where
      go : (u : Bool) → eqb k m ≡ u → r ≡ cond u (record { from = p.at; to = q.at }) s → Marking m (k + 1) has t ls (lines_at t q) r
      go true i e =
          let z : k ≡ m = eqb-true k m i in
          rw e (record {
            before = λ j. absurd (omega (arith, j, z));
            absent = λ j. absurd (omega (arith, j, z));
            marks = λ _.
                record {
                  from_line = p.line;
                  to_line = q.line;
                  before = a.before (omega (arith, h, z));
                  lines = rw z at l;
                  behind = Passes.none;
                };
          })
      go false i e =
          let n = eqb-false k m i in
          let o = passes_as (λ x y. of_other k m x n y) (lines_pass k l) in
          rw e (record {
            before = λ j. passes_both (a.before (omega (arith, h, j))) o;
            absent = λ j. f n ∙ a.absent (omega (arith, h, j));
            marks = λ j. marked_on (a.marks (sym (f n) ∙ j)) o;
          })

-- in a SOC text the modules come in order
pub next-number : (m i : ℕ) → (i ≡ m → ⊥) → ltb m (i + 1) ≡ ltb m i
next-number m i n = go (ltb m i) refl
  where
    go_on : i ≤ m → i + 1 ≤ m
    go_on h = below (ltb i m) refl
      where
        below : (u : Bool) → ltb i m ≡ u → i + 1 ≤ m
        below true e = omega (arith, ltb-true i m e)
        below false e = let z : i ≡ m = omega (arith, h, ltb-false i m e) in absurd (n z)

    go : (u : Bool) → ltb m i ≡ u → ltb m (i + 1) ≡ u
    go true e = lt-ltb m (i + 1) (omega (arith, ltb-true m i e))
    go false e = le-ltb m (i + 1) (go_on (ltb-false m i e))

-- a line of no module before the others
module _ {A : Type 0} (m : ℕ) (t : List ℕ) (r : Reader A) (v : A) (ls ms : List Line) (is : line r ls ≡ got v ms)
    (other : (l : Line) → whole r l.fields ≡ Ok v → Other m l) where
  pub marked_line : {ns : List Line} {from to : ℕ} → Marked m t ms ns from to → Marked m t ls ns from to
  marked_line k = marked_before (line_first r v ls ms (λ l i w. passes-one l ls ms i (other l w)) is) k

  pub marked_behind : (a b : Result Soc Refusal) (s : Result SocMarked Refusal) → a ≡ b → ReadMarked m t ms a s → ReadMarked m t ls b s
  marked_behind a b (Err f) e k = record { read = k.read ∙ e; marks = tt }
  marked_behind a b (Ok s) e k = record { read = k.read ∙ e; marks = λ h. marked_line (k.marks h) }

-- a text that is refused
pub refused_marked : (m : ℕ) (t : List ℕ) (ls : List Line) (a : Result Soc Refusal) (f : Refusal) → Err f ≡ a → ReadMarked m t ls a (Err f)
refused_marked m t ls a f h = record { read = h; marks = tt }
