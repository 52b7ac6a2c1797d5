-- The lines of a text (document 01, "The SOC text"): "Lines end in LF or CRLF; the last may lack its end. .. Blank lines are skipped but
-- counted."
use Rattle.std.specs.Prelude.{ℕ, zero, suc, ◌+◌, ◌-◌, ◌<◌, ◌≤◌, ◌≡◌, cond, ◌&&◌, List, [], ◌∷◌, length, get_or, drop, Option, None, Some, IfSome, ltb, eqb}
use Rattle.fields.specs.Bytes.{lf, cr, lf_next}
use Rattle.fields.specs.Fields.{fields_of, part}
use Rattle.fields.specs.declared.line.OneLine.{OneLine}
use Rattle.fields.specs.declared.line.NextLine.{NextLine}

-- byte b at the front of the first line
unfoldable pub on_line : ℕ → List (List ℕ) → List (List ℕ)
on_line b [] = (b ∷ []) ∷ []
on_line b (l ∷ ls) = (b ∷ l) ∷ ls

-- the lines of a text, without their ends
unfoldable pub lines_of : List ℕ → List (List ℕ)
lines_of [] = []
lines_of (b ∷ bs) = cond (eqb b lf) ([] ∷ lines_of bs) (cond (eqb b cr && lf_next bs) (lines_of bs) (on_line b (lines_of bs)))

-- a line that is not blank: its number and its fields
pub record Line : Type 0 where
  pub number : ℕ
  pub fields : List (List ℕ)

unfoldable pub with_line : ℕ → List (List ℕ) → List Line → List Line
with_line n [] ls = ls
with_line n (f ∷ fs) ls = record { number = n; fields = f ∷ fs } ∷ ls

-- the lines that are not blank, where the first of all has number n
unfoldable pub numbered : ℕ → List (List ℕ) → List Line
numbered n [] = []
numbered n (l ∷ ls) = with_line n (fields_of l) (numbered (suc n) ls)

-- the same of a text from a place on
abbrev pub lines_from : ℕ → List ℕ → ℕ → List Line
lines_from n t at = numbered n (lines_of (drop at t))

-- how many bytes stand before the first LF
unfoldable pub until_lf : List ℕ → ℕ
until_lf [] = 0
until_lf (b ∷ bs) = cond (eqb b lf) 0 (suc (until_lf bs))

-- where the line from `from`, whose LF is at e, ends: before a CR that stands before the LF
abbrev pub line_to : List ℕ → ℕ → ℕ → ℕ
line_to t from e = cond (ltb from e && eqb (get_or t (e - 1) 0) cr) (e - 1) e

-- the line that begins at a place and has its LF at e, or the end of the text: where it ends without its end, and where the next one
-- begins
unfoldable pub line_ending : List ℕ → ℕ → ℕ → OneLine
line_ending t from e = cond (ltb e (length t)) (record { to = line_to t from e; next = e + 1 }) (record { to = e; next = e })

-- the line that begins at a place
unfoldable pub line_at : List ℕ → ℕ → OneLine
line_at t from = line_ending t from (from + until_lf (drop from t))

-- the line that an answer names, in a text whose line at the place asked for has number n, and the lines behind it
abbrev pub meant_lines : List ℕ → ℕ → Option NextLine → List Line
meant_lines t n (Some l) = record { number = n + l.passed; fields = fields_of (part t l.from l.to) } ∷ lines_from (n + l.passed + 1) t l.next
meant_lines t n None = []

-- a line's places lie in the text, in order, and at least a byte behind each line that was passed
pub record Placed (t : List ℕ) (from a e next k : ℕ) : Type 0 where
  pub passed : from + k ≤ a
  pub begin : a ≤ e
  pub end : e ≤ next
  pub more : a < next
  pub inside : next ≤ length t

abbrev pub PlacedIn : List ℕ → ℕ → Option NextLine → Type 0
PlacedIn t at r = IfSome r (λ l. Placed t at l.from l.to l.next l.passed)

-- where the line begins that is k lines behind the one at a place
unfoldable pub line_start : List ℕ → ℕ → ℕ → ℕ
line_start t from zero = from
line_start t from (suc k) = line_start t (line_at t from).next k

-- a line's places are those of the line that is k lines behind the one at `from`
pub record Exact (t : List ℕ) (from a e next k : ℕ) : Type 0 where
  pub starts : a ≡ line_start t from k
  pub ends : record { to = e; next = next } ≡ line_at t a

abbrev pub ExactIn : List ℕ → ℕ → Option NextLine → Type 0
ExactIn t at r = IfSome r (λ l. Exact t at l.from l.to l.next l.passed)

-- the first line at or behind a place that is not blank
pub record NextLineIs (t : List ℕ) (from : ℕ) (r : Option NextLine) : Type 0 where
  pub placed : PlacedIn t from r
  pub meant : (n : ℕ) → meant_lines t n r ≡ lines_from n t from
  pub exact : ExactIn t from r
