-- Where the lines of a module stand among those that a reader passes (document 02, item 3): a line of module m begins with "`Module` m",
-- and the marks are a place before the first of them and a place behind the last.
use Rattle.std.specs.Prelude.{ℕ, ◌<◌, ◌≡◌, true, cond, List, [], ◌∷◌, ltb, eqb, take, Result, Ok, Err, IfOk}
use Rattle.fields.specs.Lines.{Line, lines_from}
use Rattle.fields.specs.Readers.{no, got}
use Rattle.soc.specs.Limits.{modules_max}
use Rattle.soc.specs.Record.{no_module}
use Rattle.soc.specs.declared.record.Soc.{Soc}
use Rattle.units.specs.Places.{padded}
use Rattle.units.specs.declared.Refusal.{Refusal}
use Rattle.text_line_reader.specs.Due.{place_at, lines_at, Inside}
use Rattle.text_line_reader.specs.declared.place.Place.{Place}
use Rattle.text_lines.specs.Kinds.{module_due}
use Rattle.text_lines.specs.declared.head.Options.{Options}
use Rattle.text_reader.specs.Lines.{LinesReader}
use Rattle.text_reader.specs.Reading.{modules, answer, read_soc}
use Rattle.text_reader.specs.declared.marks.Marks.{Marks}
use Rattle.text_reader.specs.declared.read.ModulesMarked.{ModulesMarked}
use Rattle.text_reader.specs.declared.read.SocMarked.{SocMarked}

-- a line of module m
pub record Of (m : ℕ) (l : Line) : Type 0 where
  pub left : List (List ℕ)
  pub begins : module_due m l.fields ≡ got tt left

-- any other line
abbrev pub Other : ℕ → Line → Type 0
Other m l = (fs : List (List ℕ)) → module_due m l.fields ≡ got tt fs → ⊥

-- the lines from ls on up to ms are of one kind
pub data Passes (P : Line → Type 0) : List Line → List Line → Type 0 where
  none : {ls : List Line} → Passes P ls ls
  more : {l : Line} {ls ms : List Line} → P l → Passes P ls ms → Passes P (l ∷ ls) ms

-- they are those of module m, one at least
pub record LinesOf (m : ℕ) (ls ms : List Line) : Type 0 where
  pub first : Line
  pub rest : List Line
  pub lines : ls ≡ first ∷ rest
  pub begins : Of m first
  pub goes_on : Passes (Of m) rest ms

-- among the lines from ls up to ms those of module m stand between two places of the text t, and no others
pub record Marked (m : ℕ) (t : List ℕ) (ls ms : List Line) (from to : ℕ) : Type 0 where
  pub from_line : ℕ
  pub to_line : ℕ
  pub before : Passes (Other m) ls (lines_from from_line t from)
  pub lines : LinesOf m (lines_from from_line t from) (lines_from to_line t to)
  pub behind : Passes (Other m) (lines_from to_line t to) ms

-- the marks of module m, where they were s before the lines of module i were read from a place to a place
abbrev pub new_marks : Marks → ℕ → ℕ → ℕ → ℕ → Marks
new_marks s m i from to = cond (eqb i m) (record { from = from; to = to }) s

-- n modules were read from a place on, at the front of the places for them, and module m, where it is among them, has its marks
abbrev pub ModulesMean : List ℕ → Place → ℕ → Options → ℕ → Result (ModulesMarked × Place) Refusal → Type 0
ModulesMean t p n o m (Err f) = no f ≡ modules o n 0 0 (lines_at t p)
ModulesMean t p n o m (Ok (r, q)) =
    (got (take n r.modules) (lines_at t q) ≡ modules o n 0 0 (lines_at t p))
    × Inside t q
    × (r.modules ≡ padded modules_max no_module (take n r.modules))
    × (ltb m n ≡ true → Marked m t (lines_at t p) (lines_at t q) r.marks.from r.marks.to)

-- the record alone
abbrev pub soc_read : Result SocMarked Refusal → Result Soc Refusal
soc_read (Err r) = Err r
soc_read (Ok s) = Ok s.soc

-- what a text with the lines ls says, and the marks of module m where the text has it
pub record ReadMarked (m : ℕ) (t : List ℕ) (ls : List Line) (a : Result Soc Refusal) (r : Result SocMarked Refusal) : Type 0 where
  pub read : soc_read r ≡ a
  pub marks : IfOk r (λ s. m < s.soc.module_count → Marked m t ls [] s.marks.from s.marks.to)

-- the same of the lines from a place on
abbrev pub ReadsMarked : ℕ → List ℕ → Place → LinesReader Soc → Result SocMarked Refusal → Type 0
ReadsMarked m t p g r = ReadMarked m t (lines_at t p) (answer (g (lines_at t p))) r

abbrev pub TextMarked : ℕ → List ℕ → Result SocMarked Refusal → Type 0
TextMarked m t r = ReadMarked m t (lines_at t (place_at 0 1)) (read_soc t) r
