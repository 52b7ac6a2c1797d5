-- Laws of a refusal's line (document 01, "Refusal numbers"; document 02, item 6): "Number 1 and 6 come with line 0, 2 to 5 with the line,
-- counted from 1", and "17 with the line". Assumes nothing.
use Prim.Native.Nat.{ℕ, suc, ◌+◌, ◌≤◌, ◌<◌}
use mathlib.Core.Path.{◌≡◌, refl}
use mathlib.Core.Bool.{Bool, true, false, cond, ◌&&◌}
use mathlib.Core.List.{List, [], ◌∷◌}
use mathlib.Core.Logic.{◌⊎◌, inl, inr}
use native.Mathlib.Omega.{arith}
use borrow.Author.Tests.{leb-true, leb-false}
use lib.Dec.{eqb, leb}
use lib.ListN.{length}
use Rattle.std.specs.Prelude.{Option, None, Some, Result, Ok, Err, IfErr}
use Rattle.units.proofs.TestLaws.{clash}
use Rattle.units.specs.Refusals.{number_of, refused}
use Rattle.units.specs.declared.Fault.TheVariants.{LongText}
use Rattle.units.specs.declared.Refusal.{Refusal}
use Rattle.fields.specs.Bytes.{lf, cr, lf_next, allowed, bad_byte}
use Rattle.fields.specs.Fields.{fields_of}
use Rattle.fields.specs.Lines.{on_line, lines_of, with_line, numbered, lines_from}
use Rattle.fields.specs.Readers.{no, got}
use Rattle.soc.specs.Limits.{text_max}
use Rattle.soc.specs.declared.record.Soc.{Soc}
use Rattle.text_reader.specs.Lines.{LinesRead}
use Rattle.text_reader.specs.Reading.{soc, answer, unless_bad, read_soc}
use Rattle.text.specs.LineCount.{lines_behind, line_count}
use Rattle.text.specs.Numbers.{NumberWithLine, TextNumber}
use Rattle.text.proofs.Acceptance.{refused-number}
use Rattle.text.proofs.LineRefuses.{LineNumber}
use Rattle.text.proofs.Refused.{SameFields, none, more, Refuses, soc-refuses-so}

-- a line that has begun is one, whatever byte comes next
some : (b : ℕ) (bs : List ℕ) → 1 ≤ lines_behind true bs → (u : Bool) → 1 ≤ cond u (suc (lines_behind false bs)) (lines_behind true bs)
some b bs h true = omega arith
some b bs h false = h

begun-some : (t : List ℕ) → 1 ≤ lines_behind true t
unfolding lines_behind
begun-some [] = omega arith
begun-some (b ∷ bs) = some b bs (begun-some bs) (eqb b lf)

-- a bad byte stands on a line of the text
pub bad_within : (n : ℕ) (begun : Bool) (t : List ℕ) (k : ℕ) → bad_byte n t ≡ Some k → (n ≤ k) × (k < n + lines_behind begun t)
unfolding bad_byte lines_behind
bad_within n begun [] k e = clash cc
bad_within n begun (b ∷ bs) k e = go (allowed b bs) (eqb b lf) (λ n begun. bad_within n begun bs k) e
  where
    go : (a u : Bool) → ((n : ℕ) (begun : Bool) → bad_byte n bs ≡ Some k → (n ≤ k) × (k < n + lines_behind begun bs))
        → cond a (bad_byte (cond u (suc n) n) bs) (Some n) ≡ Some k
        → (n ≤ k) × (k < n + cond u (suc (lines_behind false bs)) (lines_behind true bs))
    go true true f e = let i = f (suc n) false e in (omega (arith, i.0), omega (arith, i.1))
    go true false f e = f n true e
    go false u f e =
        let i : n ≡ k = cc in
        (omega arith, omega (arith, some b bs (begun-some bs) u))

-- there are no more lines than are counted
pub lines-within : (begun : Bool) (t : List ℕ) → length (lines_of t) ≤ lines_behind begun t
unfolding lines_of lines_behind on_line
lines-within begun [] = omega arith
lines-within begun (b ∷ bs) = go (eqb b lf) (eqb b cr && lf_next bs) (λ begun. lines-within begun bs)
  where
    front : (ls : List (List ℕ)) → length ls ≤ lines_behind true bs → length (on_line b ls) ≤ lines_behind true bs
    front [] h = omega (arith, begun-some bs)
    front (l ∷ ls) h = h

    go : (u v : Bool) → ((begun : Bool) → length (lines_of bs) ≤ lines_behind begun bs)
        → length (cond u ([] ∷ lines_of bs) (cond v (lines_of bs) (on_line b (lines_of bs))))
        ≤ cond u (suc (lines_behind false bs)) (lines_behind true bs)
    go true v f = omega (arith, f false)
    go false true f = f true
    go false false f = front (lines_of bs) (f true)

-- the numbers of lines, the first of which has number n
abbrev pub Between : ℕ → ℕ → ℕ → ℕ → Type 0
Between low high i j = (low ≤ i) × (i ≤ high)

pub numbered_within : (low high n : ℕ) (ls : List (List ℕ)) → low ≤ n → n + length ls ≤ high + 1
    → SameFields (Between low high) (numbered n ls) (numbered n ls)
unfolding numbered with_line
numbered_within low high n [] h k = none
numbered_within low high n (l ∷ ls) h k = go (fields_of l) (numbered_within low high (suc n) ls (omega arith) (omega arith))
  where
    go : (fs : List (List ℕ)) → SameFields (Between low high) (numbered (suc n) ls) (numbered (suc n) ls)
        → SameFields (Between low high) (with_line n fs (numbered (suc n) ls)) (with_line n fs (numbered (suc n) ls))
    go [] s = s
    go (f ∷ fs) s = more (h, omega arith) refl s

-- a number and a line that go together in text t
pub record Lined (t : List ℕ) (r : Refusal) : Type 0 where
  pub none : (number_of r.fault ≡ 1) ⊎ (number_of r.fault ≡ 6) → r.line ≡ 0
  pub counted : NumberWithLine (number_of r.fault) → (1 ≤ r.line) × (r.line ≤ line_count t)

-- 0 and 1 come with no line
pub low-none : (c : ℕ) → c ≤ 1 → NumberWithLine c → ⊥
low-none c h (inl k) = omega (arith, h, k.0)
low-none c h (inr e) = omega (arith, h, e)

-- what a refusal says by its number: 6 comes with line 0, and the others with a line, where 1 and 2 are said before any line is read
module _ {P : ℕ → Type 0} {r : Refusal} (w : Refuses P r) where
  pub refuses-none : (number_of r.fault ≡ 1) ⊎ (number_of r.fault ≡ 6) → r.line ≡ 0
  refuses-none = go w.numbers
    where
      go : (number_of r.fault ≡ 6) ⊎ LineNumber (number_of r.fault) → (number_of r.fault ≡ 1) ⊎ (number_of r.fault ≡ 6) → r.line ≡ 0
      go (inl e) (inl k) = absurd (omega arith)
      go (inr (inl h)) (inl k) = absurd (omega (arith, h.0))
      go (inr (inr e)) (inl k) = absurd (omega arith)
      go n (inr k) = w.last k

  pub refuses-counted : NumberWithLine (number_of r.fault) → P r.line
  refuses-counted h = w.others (go w.numbers h)
    where
      go : (number_of r.fault ≡ 6) ⊎ LineNumber (number_of r.fault) → NumberWithLine (number_of r.fault) → LineNumber (number_of r.fault)
      go (inl e) (inl h) = absurd (omega (arith, h.1))
      go (inl e) (inr h) = absurd (omega arith)
      go (inr n) h = n

module _ (t : List ℕ) where
  abbrev Within : ℕ → Type 0
  Within n = (1 ≤ n) × (n ≤ line_count t)

  abbrev AllLined : Result Soc Refusal → Type 0
  AllLined a = IfErr a (Lined t)

  lines_lined : (g : LinesRead Soc) → soc (lines_from 1 t 0) ≡ g → AllLined (answer g)
  unfolding answer
  lines_lined (got s ls) e = tt
  lines_lined (no r) e =
      let k = numbered_within 1 (line_count t) 1 (lines_of t) (omega arith) (omega (arith, lines-within false t)) in
      let w = soc-refuses-so Within (lines_from 1 t 0) r k e in
      record { none = refuses-none w; counted = refuses-counted w }

  bytes_lined : (b : Option ℕ) → bad_byte 1 t ≡ b → AllLined (unless_bad b (answer (soc (lines_from 1 t 0))))
  unfolding unless_bad
  bytes_lined (Some n) e =
      let w = bad_within 1 false t n e in
      record { none = none_2; counted = λ h. (w.0, omega (arith, w.1)) }
    where
      none_2 : ◌⊎◌ (◌≡◌ {A = ℕ} 2 1) (◌≡◌ {A = ℕ} 2 6) → n ≡ 0
      none_2 (inl k) = absurd (omega arith)
      none_2 (inr k) = absurd (omega arith)
  bytes_lined None e = lines_lined (soc (lines_from 1 t 0)) refl

  all-lined : AllLined (read_soc t)
  unfolding read_soc
  all-lined = go (leb (length t) text_max)
    where
      read : Result Soc Refusal
      read = unless_bad (bad_byte 1 t) (answer (soc (lines_from 1 t 0)))

      go : (b : Bool) → AllLined (cond b read (Err (refused LongText 0)))
      go true = bytes_lined (bad_byte 1 t) refl
      go false = record { none = λ k. refl; counted = λ h. absurd (low-none 1 (omega arith) h) }

  module _ (r : Refusal) (e : read_soc t ≡ Err r) where
    lined : Lined t r
    lined = rw e at all-lined

    -- "Number 1 and 6 come with line 0"
    pub refused-line-none : (number_of r.fault ≡ 1) ⊎ (number_of r.fault ≡ 6) → r.line ≡ 0
    refused-line-none = lined.none

    -- "2 to 5 with the line, counted from 1", and "17 with the line"
    pub refused-line-counted : NumberWithLine (number_of r.fault) → (1 ≤ r.line) × (r.line ≤ line_count t)
    refused-line-counted = lined.counted

-- a text has no more lines than bytes
pub lines-most : (begun : Bool) (t : List ℕ) → lines_behind begun t ≤ length t + 1
unfolding lines_behind
lines-most true [] = omega arith
lines-most false [] = omega arith
lines-most begun (b ∷ bs) = go (eqb b lf) (lines-most false bs) (lines-most true bs)
  where
    go : (u : Bool) → lines_behind false bs ≤ length bs + 1 → lines_behind true bs ≤ length bs + 1
        → cond u (suc (lines_behind false bs)) (lines_behind true bs) ≤ suc (length bs) + 1
    go true h k = omega arith
    go false h k = omega arith

-- a number is 1 or 6, or has a line
number_parts : (n : ℕ) → TextNumber n → ((n ≡ 1) ⊎ (n ≡ 6)) ⊎ NumberWithLine n
number_parts n (inr e) = inr (inr e)
number_parts n (inl h) = go (leb n 1) refl (leb n 5) refl
  where
    go : (u : Bool) → leb n 1 ≡ u → (v : Bool) → leb n 5 ≡ v → ((n ≡ 1) ⊎ (n ≡ 6)) ⊎ NumberWithLine n
    go true e v f = inl (inl (omega (arith, h.0, leb-true n 1 e)))
    go false e true f = inr (inl (omega (arith, leb-false n 1 e), omega (arith, leb-true n 5 f)))
    go false e false f = inl (inr (omega (arith, h.1, leb-false n 5 f)))

-- a refusal of a text that is not too long, or 1: its number and its line
pub lined_most : (t : List ℕ) (r : Refusal) → Lined t r → TextNumber (number_of r.fault) → length t ≤ text_max ⊎ (number_of r.fault ≡ 1)
    → (number_of r.fault ≤ 17) × (r.line ≤ text_max + 1)
lined_most t r d n l = (most n, line (number_parts (number_of r.fault) n) l)
  where
    most : TextNumber (number_of r.fault) → number_of r.fault ≤ 17
    most (inl h) = omega (arith, h.1)
    most (inr e) = omega arith

    line : ((number_of r.fault ≡ 1) ⊎ (number_of r.fault ≡ 6)) ⊎ NumberWithLine (number_of r.fault) → length t ≤ text_max ⊎ (number_of r.fault ≡ 1)
        → r.line ≤ text_max + 1
    line (inl h) l = omega (arith, d.none h)
    line (inr h) (inl l) = omega (arith, (d.counted h).1, lines-most false t)
    line (inr h) (inr l) = absurd (low-none (number_of r.fault) (omega (arith, l)) h)

-- so a refusal's line is at most as many as a text may have
module _ (t : List ℕ) where
  long-line : IfErr (read_soc t) (λ r. length t ≤ text_max ⊎ (number_of r.fault ≡ 1))
  unfolding read_soc
  long-line = go (leb (length t) text_max) refl
    where
      short : length t ≤ text_max → (a : Result Soc Refusal) → IfErr a (λ r. length t ≤ text_max ⊎ (number_of r.fault ≡ 1))
      short h (Err r) = inl h
      short h (Ok s) = tt

      go : (b : Bool) → leb (length t) text_max ≡ b
          → IfErr (cond b (unless_bad (bad_byte 1 t) (answer (soc (lines_from 1 t 0)))) (Err (refused LongText 0))) (λ r. length t ≤ text_max ⊎ (number_of r.fault ≡ 1))
      go true e = short (leb-true (length t) text_max e) (unless_bad (bad_byte 1 t) (answer (soc (lines_from 1 t 0))))
      go false e = inr refl

  pub refused-line-most : (r : Refusal) → read_soc t ≡ Err r → (number_of r.fault ≤ 17) × (r.line ≤ text_max + 1)
  refused-line-most r e = lined_most t r (lined t r e) (refused-number t r e) (rw e at long-line)
