-- What a SOC text says (document 01, "The SOC text"): its lines in order, and the record that they make; or the first refusal.
use Rattle.std.specs.Prelude.{ℕ, zero, suc, Bool, cond, List, [], ◌∷◌, length, leb, ℤ, Option, None, Some, Result, Ok, Err}
use Rattle.units.specs.Refusals.{refused}
use Rattle.units.specs.declared.Fault.TheVariants.{LongText, ForbiddenByte}
use Rattle.units.specs.declared.Refusal.{Refusal}
use Rattle.fields.specs.Bytes.{bad_byte}
use Rattle.fields.specs.Lines.{lines_from}
use Rattle.fields.specs.Readers.{no, got, ◌>>=◌, ◌>>◌, give, each}
use Rattle.soc.specs.Limits.{text_max, modules_max, tests_max}
use Rattle.units.specs.Places.{padded}
use Rattle.soc.specs.Record.{not_given, no_test, no_module}
use Rattle.soc.specs.declared.record.Test.{Test}
use Rattle.soc.specs.declared.record.Module.{Module}
use Rattle.soc.specs.declared.record.Soc.{Soc}
use Rattle.text_lines.specs.Kinds.{name_line, total_line, options_line, level_line, second_line, tests_line, test_line}
use Rattle.text_lines.specs.declared.head.Name.{Name}
use Rattle.text_lines.specs.declared.head.Options.{Options}
use Rattle.text_lines.specs.declared.level.Shape.{Shape}
use Rattle.text_lines.specs.declared.second.SecondLine.{SecondLine}
use Rattle.text_lines.specs.declared.second.SecondLine.TheVariants.{Tests, Position}
use Rattle.text_reader.specs.Lines.{LinesRead, LinesReader, line, no_more}
use Rattle.text_reader.specs.declared.block.Body.{Body}

-- "with XY 1, optionally `Module` m `X` x `Y` y; `Module` m `TotalTests` t"
unfoldable pub behind : ℕ → SecondLine → LinesReader Body
behind m (Tests t) = give (record { x = not_given; y = not_given; tests = t })
behind m (Position px py) = do
  t ← line (tests_line m)
  give (record { x = px; y = py; tests = t })

unfoldable pub body : ℕ → Bool → LinesReader Body
body m xy = do
  s ← line (second_line m xy)
  behind m s

-- "then for each test from 1"
abbrev pub tests : ℕ → ℕ → Bool → LinesReader (List Test)
tests t m power = each t (λ i. line (test_line m i power)) 1

abbrev pub module_of : Shape → Body → List Test → Module
module_of s b ts =
    record {
      level = s.level;
      inputs = s.terminals.inputs;
      outputs = s.terminals.outputs;
      bidirs = s.terminals.bidirs;
      chain_count = s.chains.count;
      chains = s.chains.lengths;
      x = b.x;
      y = b.y;
      test_count = b.tests;
      tests = padded tests_max no_test ts;
    }

-- a module from its tests on, and from its second line on
unfoldable pub module_tests : Options → ℕ → Shape → Body → LinesReader Module
module_tests o m s b = do
  ts ← tests b.tests m o.power
  give (module_of s b ts)

unfoldable pub module_rest : Options → ℕ → Shape → LinesReader Module
module_rest o m s = do
  b ← body m o.xy
  module_tests o m s b

-- the lines of module m, where the previous one has level last
unfoldable pub module_lines : Options → ℕ → ℕ → LinesReader Module
module_lines o m last = do
  s ← line (level_line m last)
  module_rest o m s

-- "for each module m from 0": n modules from m on
unfoldable pub modules : Options → ℕ → ℕ → ℕ → LinesReader (List Module)
modules o zero m last = give []
modules o (suc n) m last = do
  d ← module_lines o m last
  ds ← modules o n (suc m) d.level
  give (d ∷ ds)

abbrev pub soc_of : Name → ℕ → Options → List Module → Soc
soc_of name n o ds =
    record {
      name_len = name.len;
      name = name.bytes;
      power = o.power;
      xy = o.xy;
      module_count = n;
      modules = padded modules_max no_module ds;
    }

-- the modules of a text, and nothing behind them
unfoldable pub rest : Name → ℕ → Options → LinesReader Soc
rest name n o = do
  ds ← modules o n 0 0
  no_more
  give (soc_of name n o ds)

unfoldable pub behind_name : Name → LinesReader Soc
behind_name name = do
  n ← line total_line
  o ← line options_line
  rest name n o

-- "Lines, in order"
unfoldable pub soc : LinesReader Soc
soc = do
  name ← line name_line
  behind_name name

-- "A refusal returns its number and line and no other figure"
unfoldable pub answer : LinesRead Soc → Result Soc Refusal
answer (no r) = Err r
answer (got s ls) = Ok s

unfoldable pub unless_bad : Option ℕ → Result Soc Refusal → Result Soc Refusal
unless_bad (Some n) a = Err (refused ForbiddenByte n)
unless_bad None a = a

-- "Text: 1, then 2 anywhere, then fields from the top"
unfoldable pub read_soc : List ℕ → Result Soc Refusal
read_soc t = cond (leb (length t) text_max) (unless_bad (bad_byte 1 t) (answer (soc (lines_from 1 t 0)))) (Err (refused LongText 0))
