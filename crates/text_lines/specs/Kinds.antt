-- The lines of a SOC text (document 01, "The SOC text"; document 02, item 6), each a reading of its fields from the left.
use Rattle.std.specs.Prelude.{ℕ, ◌-◌, Bool, true, false, cond, not, List, [], ◌∷◌, length, leb, ℤ}
use Rattle.units.specs.declared.FlipFlops.{FlipFlops}
use Rattle.fields.specs.Bytes.{bytes}
use Rattle.fields.specs.Names.{name_max}
use Rattle.fields.specs.Readers.{Reader, got, ◌>>=◌, ◌>>◌, give, each, word, bytes_due, between}
use Rattle.soc.specs.Limits.{modules_max, level_max, terminals_max, chains_max, length_max, tests_max, patterns_max, position_max, power_max}
use Rattle.units.specs.Places.{padded}
use Rattle.soc.specs.Record.{flip_flops, not_given}
use Rattle.soc.specs.Rules.{level_rule, pins_rule, is_not_given}
use Rattle.soc.specs.declared.record.Test.{Test}
use Rattle.text_lines.specs.Parts.{keyed, key_due, key_flag, key_given, name, rule, pins, is_next}
pub use Rattle.text_lines.specs.declared.head.Name.{Name}
pub use Rattle.text_lines.specs.declared.head.Options.{Options}
pub use Rattle.text_lines.specs.declared.level.Terminals.{Terminals}
pub use Rattle.text_lines.specs.declared.level.Chains.{Chains}
pub use Rattle.text_lines.specs.declared.level.Shape.{Shape}
pub use Rattle.text_lines.specs.declared.second.SecondLine.{SecondLine}
pub use Rattle.text_lines.specs.declared.second.SecondLine.TheVariants.{Position, Tests}
pub use Rattle.text_lines.specs.declared.test.Uses.{Uses}

-- "`SocName` name"
unfoldable pub name_part : Reader Name
name_part = do
  f ← name
  give (record { len = length f; bytes = padded name_max 0 f })

-- the keyword w, and then a name
abbrev pub key_name : List ℕ → Reader Name
key_name w = bytes_due w >> name_part

unfoldable pub name_line : Reader Name
name_line = do
  word "SocName"
  name_part

-- "An overlay is a text: `Overlay` and the SOC's name"
unfoldable pub overlay_line : Reader Name
overlay_line = do
  word "Overlay"
  name_part

-- "`TotalModules` n, 1 to 40"
unfoldable pub total_line : Reader ℕ
total_line = keyed "TotalModules" 1 modules_max

-- "`Options Power` 0/1 `XY` 0/1"
unfoldable pub options_part : Reader Options
options_part = do
  p ← key_flag (bytes "Power")
  x ← key_flag (bytes "XY")
  give (record { power = p; xy = x })

unfoldable pub options_line : Reader Options
options_line = do
  word "Options"
  options_part

-- "`Module` m", with which each line of module m begins
abbrev pub module_due : ℕ → Reader (Unit {0})
module_due m = key_due (bytes "Module") m

-- "`Level` v"
abbrev pub level_key : Reader ℕ
level_key = keyed "Level" 0 level_max

-- "`Module` m `Level` v", where the previous module has level last
unfoldable pub level : ℕ → ℕ → Reader ℕ
level m last = do
  module_due m
  v ← level_key
  rule (level_rule m last v)
  give v

-- "`Inputs` n `Outputs` n `Bidirs` n"
unfoldable pub terminals : Reader Terminals
terminals = do
  i ← keyed "Inputs" 0 terminals_max
  o ← keyed "Outputs" 0 terminals_max
  b ← keyed "Bidirs" 0 terminals_max
  give (record { inputs = i; outputs = o; bidirs = b })

-- "lengths 1 to 4,096"
unfoldable pub chain_length : Reader FlipFlops
chain_length = do
  n ← between 1 length_max
  give (flip_flops n)

-- s of them, at the front of the places
unfoldable pub lengths : ℕ → Reader (List FlipFlops)
lengths s = do
  fs ← each s (λ _. chain_length) 0
  give (padded chains_max (flip_flops 0) fs)

-- "`ScanChains` s `:` then s lengths"
unfoldable pub chains : Reader Chains
chains = do
  s ← keyed "ScanChains" 0 chains_max
  word ":"
  xs ← lengths s
  give (record { count = s; lengths = xs })

-- the same at the end of a module's first line
unfoldable pub lengths_part : ℕ → ℕ → Terminals → Reader Shape
lengths_part s v t = do
  fs ← each s (λ _. chain_length) 0
  give (record { level = v; terminals = t; chains = record { count = s; lengths = padded chains_max (flip_flops 0) fs } })

unfoldable pub chains_part : ℕ → Terminals → Reader Shape
chains_part v t = do
  s ← keyed "ScanChains" 0 chains_max
  word ":"
  lengths_part s v t

-- a module's first line behind its level
abbrev pub shape_part : ℕ → Reader Shape
shape_part v = do
  t ← terminals
  chains_part v t

unfoldable pub level_line : ℕ → ℕ → Reader Shape
level_line m last = do
  v ← level m last
  shape_part v

-- a block of an overlay by its first line: the module's number, and the rest of the line
pub record BlockStart : Type 0 where
  pub number : ℕ
  pub shape : Shape

-- "5 when module numbers don't ascend; a block's number over 39 is 4": a number from low on
unfoldable pub block_number : ℕ → Reader ℕ
block_number low = do
  m ← keyed "Module" 0 (modules_max - 1)
  rule (leb low m)
  give m

-- "no level rule is tested there"
unfoldable pub block_shape : Reader Shape
block_shape = do
  v ← level_key
  shape_part v

unfoldable pub block_line : ℕ → Reader BlockStart
block_line low = do
  m ← block_number low
  s ← block_shape
  give (record { number = m; shape = s })

-- "X and Y are both -1 or neither"
abbrev pub pair_rule : ℤ → ℤ → Bool
pair_rule x y = cond (is_not_given x) (is_not_given y) (not (is_not_given y))

-- the line behind it: "`X` x `Y` y", or "`TotalTests` t"
unfoldable pub position_part : Reader SecondLine
position_part = do
  x ← key_given (bytes "X") position_max
  y ← key_given (bytes "Y") position_max
  rule (pair_rule x y)
  give (Position x y)

unfoldable pub total_tests : Reader ℕ
total_tests = keyed "TotalTests" 0 tests_max

unfoldable pub tests_part : Reader SecondLine
tests_part = do
  t ← total_tests
  give (Tests t)

-- "with XY 1, optionally `Module` m `X` x `Y` y": what stands behind the module's number decides
unfoldable pub second_part : Bool → Reader SecondLine
second_part false fs = tests_part fs
second_part true fs = cond (is_next (bytes "X") fs) (position_part fs) (tests_part fs)

unfoldable pub second_line : ℕ → Bool → Reader SecondLine
second_line m xy = do
  module_due m
  second_part xy

-- "`Module` m `TotalTests` t", behind a position
unfoldable pub tests_line : ℕ → Reader ℕ
tests_line m = do
  module_due m
  total_tests

-- "with Power 1 optionally `Power` w"
unfoldable pub power_part : Bool → Reader ℤ
power_part false fs = got not_given fs
power_part true [] = got not_given []
power_part true (f ∷ fs) = key_given (bytes "Power") power_max (f ∷ fs)

-- "`ScanUse` 0/1 `TamUse` 0/1" of a test of module m: "17 .. once TamUse has passed 3 on that line and before Patterns is looked at"
unfoldable pub uses : ℕ → Reader Uses
uses m = do
  s ← key_flag (bytes "ScanUse")
  t ← key_flag (bytes "TamUse")
  pins (pins_rule m t)
  give (record { scan = s; tam = t })

-- "`Module` m `Test` i"
unfoldable pub test_due : ℕ → ℕ → Reader (Unit {0})
test_due m i = do
  module_due m
  key_due (bytes "Test") i

-- "`Module` m `Test` i `ScanUse` 0/1 `TamUse` 0/1 `Patterns` p, and with Power 1 optionally `Power` w"
unfoldable pub patterns_part : Bool → Uses → Reader Test
patterns_part power u = do
  p ← keyed "Patterns" 1 patterns_max
  w ← power_part power
  give (record { scan_use = u.scan; tam_use = u.tam; patterns = p; power = w })

unfoldable pub test_line : ℕ → ℕ → Bool → Reader Test
test_line m i power = do
  test_due m i
  u ← uses m
  patterns_part power u
