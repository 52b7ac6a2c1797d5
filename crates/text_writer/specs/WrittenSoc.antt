-- The written form of a record (document 01, "The SOC text"): "The written form has single spaces, LF after every line, no blank line,
-- and where an option is 1 every X, Y and Power, as -1 when not given; bytes of the lent buffer past it keep their values."
use Rattle.std.specs.Prelude.{ℕ, suc, ◌≤◌, ◌<◌, Bool, true, false, cond, List, [], ◌∷◌, ◌++◌, length, get_or, Result, Err}
use Rattle.buffer.specs.Puts.{put_front}
use Rattle.buffer.specs.WriterAnswers.{written}
use Rattle.fields.specs.Bytes.{bytes, lf, space}
use Rattle.fields.specs.WrittenLines.{written_lines}
use Rattle.units.specs.Refusals.{refused}
use Rattle.units.specs.declared.Fault.TheVariants.{BadSoc}
use Rattle.units.specs.declared.FlipFlops.{FlipFlops}
use Rattle.units.specs.declared.Refusal.{Refusal}
use Rattle.soc.specs.Limits.{chains_max, tests_max}
use Rattle.soc.specs.Record.{no_module, modules_of, tests_of}
use Rattle.soc.specs.Rules.{good_soc}
use Rattle.soc.specs.declared.record.Test.{Test}
use Rattle.soc.specs.declared.record.Module.{Module}
use Rattle.soc.specs.declared.record.Soc.{Soc}
use Rattle.text_lines.specs.LineFields.{given_field, length_field, name_fields, total_fields, options_fields, level_fields, position_fields, tests_fields, power_fields, test_fields}

-- the fields of a module's lines: of its tests from number i on, and of all
unfoldable pub test_lines : Bool → ℕ → ℕ → List Test → List (List (List ℕ))
test_lines power m i [] = []
test_lines power m i (t ∷ ts) = test_fields m i t (cond power (power_fields t) []) ∷ test_lines power m (suc i) ts

unfoldable pub position_lines : Bool → ℕ → Module → List (List (List ℕ))
position_lines xy m d = cond xy (position_fields m d ∷ []) []

unfoldable pub module_lines_of : Bool → Bool → ℕ → Module → List (List (List ℕ))
module_lines_of power xy m d = level_fields m d ∷ position_lines xy m d ++ tests_fields m d ∷ test_lines power m 1 (tests_of d)

-- of the modules from number m on
unfoldable pub module_lines_from : Bool → Bool → ℕ → List Module → List (List (List ℕ))
module_lines_from power xy m [] = []
module_lines_from power xy m (d ∷ ds) = module_lines_of power xy m d ++ module_lines_from power xy (suc m) ds

-- the fields of all lines
unfoldable pub soc_lines : Soc → List (List (List ℕ))
soc_lines s = name_fields s ∷ total_fields s ∷ options_fields s ∷ module_lines_from s.power s.xy 0 (modules_of s)

unfoldable pub written_soc : Soc → List ℕ
written_soc s = written_lines (soc_lines s)

-- lengths, each behind a space
unfoldable pub spaced_lengths : List FlipFlops → List ℕ
spaced_lengths [] = []
spaced_lengths (f ∷ fs) = space ∷ length_field f ++ spaced_lengths fs

-- the end of a test's line: with Power 1 its power
unfoldable pub power_end : Bool → Test → List ℕ
power_end false t = lf ∷ []
power_end true t = bytes " Power " ++ given_field t.power ++ lf ∷ []

-- the counts of each of the modules keep their limits
abbrev pub Countable : List Module → Type 0
Countable ds = (i : ℕ) → i < length ds → ((get_or ds i no_module).chain_count ≤ chains_max) × ((get_or ds i no_module).test_count ≤ tests_max)

-- "SOC writer: 14, 11": what is answered, and what the lent buffer then holds
unfoldable pub write_answer : Soc → List ℕ → Result ℕ Refusal
write_answer s buf = cond (good_soc s) (written (written_soc s) buf) (Err (refused BadSoc 0))

unfoldable pub write_leaves : Soc → List ℕ → List ℕ
write_leaves s buf = cond (good_soc s) (put_front (written_soc s) buf) buf
