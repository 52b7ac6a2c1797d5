-- Laws of texts that say the same (document 01, "The SOC text"): what is read rests on the lines, and their numbers count for the line
-- of a refusal alone. What it is for two texts to have the same lines wherever they stand; and "Lines end in LF or CRLF; the last may
-- lack its end." Assumes nothing.
use Prim.Native.Nat.{ℕ, suc, ◌≤◌}
use mathlib.Core.Path.{◌≡◌, refl, sym, ◌∙◌}
use mathlib.Core.Bool.{Bool, true, false, cond, ◌&&◌}
use mathlib.Core.List.{List, [], ◌∷◌, ◌++◌, map, append-nil}
use borrow.Author.Tests.{le-leb}
use lib.Dec.{eqb}
use lib.ListN.{length}
use Rattle.std.specs.Prelude.{None}
use Rattle.units.proofs.TestLaws.{clash}
use Rattle.fields.specs.Bytes.{lf, cr, lf_next, line_behind, bad_byte}
use Rattle.fields.specs.Fields.{begins, fields_of}
use Rattle.fields.specs.Lines.{Line, on_line, lines_of, with_line, numbered, lines_from}
use Rattle.soc.specs.Limits.{text_max}
use Rattle.soc.specs.declared.record.Soc.{Soc}
use Rattle.text_reader.specs.Lines.{LinesRead}
use Rattle.text_reader.specs.Reading.{answer, read_soc}
use Rattle.text.specs.Describes.{fields_in, field_lines}
use Rattle.text.specs.Numbers.{up_to_line}
use Rattle.text.specs.Spacing.{ends_in_cr}
use Rattle.text.proofs.Refused.{SameFields, none, more, Alike, ended, stopped, going, alike_soc}
use Rattle.text.proofs.RoundTrip.{reads_lines}

-- the same fields in the same order, whatever the numbers of the lines

same-fields : (ls ms : List Line) → map fields_in ls ≡ map fields_in ms → SameFields (λ i j. Unit {0}) ls ms
same-fields [] [] e = none
same-fields [] (m ∷ ms) e = clash cc
same-fields (l ∷ ls) [] e = clash cc
same-fields (l ∷ ls) (m ∷ ms) e =
    let f : l.fields ≡ m.fields = cc in
    let r : map fields_in ls ≡ map fields_in ms = cc in
    more tt f (same-fields ls ms r)

alike_same : {g h : LinesRead Soc} → Alike (λ i j. Unit {0}) g h → up_to_line (answer g) ≡ up_to_line (answer h)
unfolding answer
alike_same ended = refl
alike_same (stopped p r) = refl
alike_same (going s) = refl

-- "Blank lines are skipped but counted": two texts whose lines that are not blank have the same fields say the same, up to the line of
-- a refusal
pub same_but_lines : (t u : List ℕ) → length t ≤ text_max → length u ≤ text_max → bad_byte 1 t ≡ None → bad_byte 1 u ≡ None
    → field_lines t ≡ field_lines u
    → up_to_line (read_soc t) ≡ up_to_line (read_soc u)
same_but_lines t u h k b c e =
    let f = same-fields (lines_from 1 t 0) (lines_from 1 u 0) e in
    let s = alike_same (alike_soc (λ i j. Unit {0}) (lines_from 1 t 0) (lines_from 1 u 0) f) in
    rw (reads_lines t h b, reads_lines u k c) s

-- the same numbered lines, whatever stands before

abbrev pub first_of : List (List ℕ) → List ℕ
first_of [] = []
first_of (l ∷ ls) = l

abbrev pub others_of : List (List ℕ) → List (List ℕ)
others_of [] = []
others_of (l ∷ ls) = ls

-- lines that are the same wherever they stand: bytes put before both keep them so
pub record SameLines (ls ms : List (List ℕ)) : Type 0 where
  pub goes : begins (first_of ls) ≡ begins (first_of ms)
  pub fields : fields_of (first_of ls) ≡ fields_of (first_of ms)
  pub others : (n : ℕ) → numbered n (others_of ls) ≡ numbered n (others_of ms)

numbered-first : (n : ℕ) (ls : List (List ℕ)) → numbered n ls ≡ with_line n (fields_of (first_of ls)) (numbered (suc n) (others_of ls))
unfolding numbered with_line fields_of
numbered-first n [] = refl
numbered-first n (l ∷ ls) = refl

pub numbered-same : (ls ms : List (List ℕ)) → fields_of (first_of ls) ≡ fields_of (first_of ms)
    → ((n : ℕ) → numbered n (others_of ls) ≡ numbered n (others_of ms))
    → (n : ℕ) → numbered n ls ≡ numbered n ms
numbered-same ls ms f o n = numbered-first n ls ∙ rw (f, o (suc n)) (sym (numbered-first n ms))

pub on_first : (b : ℕ) (ls : List (List ℕ)) → first_of (on_line b ls) ≡ b ∷ first_of ls
unfolding on_line
on_first b [] = refl
on_first b (l ∷ ls) = refl

pub on_others : (b : ℕ) (ls : List (List ℕ)) → others_of (on_line b ls) ≡ others_of ls
unfolding on_line
on_others b [] = refl
on_others b (l ∷ ls) = refl

lines-byte : (u v : Bool) (b : ℕ) (ls ms : List (List ℕ)) → SameLines ls ms
    → SameLines (cond u ([] ∷ ls) (cond v ls (on_line b ls))) (cond u ([] ∷ ms) (cond v ms (on_line b ms)))
unfolding begins fields_of
lines-byte true v b ls ms s = record { goes = refl; fields = refl; others = numbered-same ls ms s.fields s.others }
lines-byte false true b ls ms s = s
lines-byte false false b ls ms s = record {
  goes = rw (on_first b ls, on_first b ms);
  fields = rw (on_first b ls, on_first b ms) (rw (s.goes, s.fields));
  others = λ n. rw (on_others b ls, on_others b ms) (s.others n);
}

-- texts of which that is so, with the same bad byte
pub record SameBehind (t u : List ℕ) : Type 0 where
  pub lines : SameLines (lines_of t) (lines_of u)
  pub bad : (n : ℕ) → bad_byte n t ≡ bad_byte n u

same_byte : (b : ℕ) (t u : List ℕ) → (eqb b cr && lf_next t) ≡ (eqb b cr && lf_next u) → SameBehind t u → SameBehind (b ∷ t) (b ∷ u)
unfolding lines_of bad_byte
same_byte b t u e s = record {
  lines = rw e (lines-byte (eqb b lf) (eqb b cr && lf_next u) b (lines_of t) (lines_of u) s.lines);
  bad = λ n. rw (e, s.bad (line_behind n b));
}

pub same-behind : (a t u : List ℕ) → (ends_in_cr a && lf_next t) ≡ (ends_in_cr a && lf_next u) → SameBehind t u → SameBehind (a ++ t) (a ++ u)
unfolding ends_in_cr lf_next
same-behind [] t u e s = s
same-behind (b ∷ []) t u e s = same_byte b t u e s
same-behind (b ∷ c ∷ a) t u e s = same_byte b (c ∷ a ++ t) (c ∷ a ++ u) refl (same-behind (c ∷ a) t u e s)

-- texts that are read alike, though bytes put before both may change that
pub record SameText (t u : List ℕ) : Type 0 where
  pub lines : (n : ℕ) → numbered n (lines_of t) ≡ numbered n (lines_of u)
  pub bad : (n : ℕ) → bad_byte n t ≡ bad_byte n u

pub same_text : {t u : List ℕ} → SameBehind t u → SameText t u
same_text {t} {u} s = record { lines = numbered-same (lines_of t) (lines_of u) s.lines.fields s.lines.others; bad = s.bad }

-- behind an LF they cannot
pub behind-lf : (t u : List ℕ) → SameText t u → SameBehind (lf ∷ t) (lf ∷ u)
unfolding lines_of bad_byte
behind-lf t u s = record { lines = record { goes = refl; fields = refl; others = s.lines }; bad = λ n. s.bad (suc n) }

pub same_read : (t u : List ℕ) → SameText t u → length t ≤ text_max → length u ≤ text_max → read_soc t ≡ read_soc u
unfolding read_soc
same_read t u s h k = rw (le-leb (length t) text_max h, le-leb (length u) text_max k, s.lines 1, s.bad 1)

-- line ends

pub no-cr : (a t u : List ℕ) → ends_in_cr a ≡ false → (ends_in_cr a && lf_next t) ≡ (ends_in_cr a && lf_next u)
no-cr a t u h = rw h

-- "Lines end in LF or CRLF"
pub crlf_same : (a b : List ℕ) → ends_in_cr a ≡ false → length (a ++ cr ∷ lf ∷ b) ≤ text_max → length (a ++ lf ∷ b) ≤ text_max
    → read_soc (a ++ cr ∷ lf ∷ b) ≡ read_soc (a ++ lf ∷ b)
unfolding lines_of lf_next bad_byte
crlf_same a b c =
    let l : SameLines (lines_of (cr ∷ lf ∷ b)) (lines_of (lf ∷ b)) = record { goes = refl; fields = refl; others = λ n. refl } in
    let s : SameBehind (cr ∷ lf ∷ b) (lf ∷ b) = record { lines = l; bad = λ n. refl } in
    let e = no-cr a (cr ∷ lf ∷ b) (lf ∷ b) c in
    same_read (a ++ cr ∷ lf ∷ b) (a ++ lf ∷ b) (same_text (same-behind a (cr ∷ lf ∷ b) (lf ∷ b) e s))

-- "the last may lack its end"
pub last-end-same : (a : List ℕ) → ends_in_cr a ≡ false → length (a ++ lf ∷ []) ≤ text_max → length a ≤ text_max
    → read_soc (a ++ lf ∷ []) ≡ read_soc a
unfolding lines_of lf_next bad_byte
last-end-same a c h k =
    let l : SameLines (lines_of (lf ∷ [])) (lines_of []) = record { goes = refl; fields = refl; others = λ n. refl } in
    let s : SameBehind (lf ∷ []) [] = record { lines = l; bad = λ n. refl } in
    let b = same_text (same-behind a (lf ∷ []) [] (no-cr a (lf ∷ []) [] c) s) in
    same_read (a ++ lf ∷ []) a (rw append-nil at b) h k
