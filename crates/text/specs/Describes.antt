-- Which texts describe a record, said without a reader (document 01, "The SOC text"): the lines in their order with the record's own figures, each
-- optional part given, given as -1, or left out where that means the same; and 0 in the places of the record that no line speaks of. Spacing,
-- blank lines and line ends count for nothing, since a text is seen here as the fields of its lines that are not blank.
use Rattle.std.specs.Prelude.{ℕ, suc, ◌≤◌, ◌≡◌, Bool, true, ◌&&◌, List, [], ◌∷◌, ◌++◌, map, ◌⊎◌, ℤ, pos, drop}
use Rattle.fields.specs.Lines.{Line, lines_from}
use Rattle.fields.specs.Names.{name_max}
use Rattle.units.specs.Places.{all_of}
use Rattle.soc.specs.Record.{not_given, modules_of, tests_of}
use Rattle.soc.specs.Rules.{spare_length, spare_test, spare_module}
use Rattle.soc.specs.Rules as rules
use Rattle.soc.specs.declared.record.Test.{Test}
use Rattle.soc.specs.declared.record.Module.{Module}
use Rattle.soc.specs.declared.record.Soc.{Soc}
use Rattle.text_lines.specs.LineFields.{name_fields, total_fields, options_fields, level_fields, position_fields, tests_fields, power_fields, test_fields}

-- what can stand for X, Y or Power in a text: a number from 0 on, or "-1, which means not given"
abbrev pub Sayable : ℤ → Type 0
Sayable z = ((n : ℕ) × (z ≡ pos n)) ⊎ (z ≡ not_given)

-- "with Power 1 optionally `Power` w"
abbrev pub PowerPart : Bool → Test → List (List ℕ) → Type 0
PowerPart power t fs = ((power ≡ true) × Sayable t.power × (fs ≡ power_fields t)) ⊎ ((t.power ≡ not_given) × (fs ≡ []))

-- the line of test i of module m
abbrev pub TestLine : Bool → ℕ → ℕ → Test → List (List ℕ) → Type 0
TestLine power m i t fs = (ps : List (List ℕ)) × PowerPart power t ps × (fs ≡ test_fields m i t ps)

-- "for each test from 1"
pub data TestLines (power : Bool) (m : ℕ) : ℕ → List Test → List (List (List ℕ)) → Type 0 where
  none : {i : ℕ} → TestLines power m i [] []
  more : {i : ℕ} {t : Test} {ts : List Test} {fs : List (List ℕ)} {ls : List (List (List ℕ))} → TestLine power m i t fs → TestLines power m (suc i) ts ls
      → TestLines power m i (t ∷ ts) (fs ∷ ls)

-- "with XY 1, optionally `Module` m `X` x `Y` y"
abbrev pub PositionPart : Bool → ℕ → Module → List (List (List ℕ)) → Type 0
PositionPart xy m d ls =
    ((xy ≡ true) × Sayable d.x × Sayable d.y × (ls ≡ position_fields m d ∷ [])) ⊎ ((d.x ≡ not_given) × (d.y ≡ not_given) × (ls ≡ []))

-- the lines of module m
pub record ModuleLines (power xy : Bool) (m : ℕ) (d : Module) (ls : List (List (List ℕ))) : Type 0 where
  pub position : List (List (List ℕ))
  pub tests : List (List (List ℕ))
  pub position_is : PositionPart xy m d position
  pub tests_are : TestLines power m 1 (tests_of d) tests
  pub lines_are : ls ≡ level_fields m d ∷ position ++ tests_fields m d ∷ tests

-- "for each module m from 0"
pub data ModulesLines (power xy : Bool) : ℕ → List Module → List (List (List ℕ)) → Type 0 where
  none : {m : ℕ} → ModulesLines power xy m [] []
  more : {m : ℕ} {d : Module} {ds : List Module} {ls ms : List (List (List ℕ))} → ModuleLines power xy m d ls → ModulesLines power xy (suc m) ds ms
      → ModulesLines power xy m (d ∷ ds) (ls ++ ms)

-- the spare places of a module in use, behind its chains and behind its tests, are 0
unfoldable pub spare_in : Module → Bool
spare_in d = all_of spare_length (drop d.chain_count d.chains) && all_of spare_test (drop d.test_count d.tests)

-- spare places are 0 (refusal 14): behind the name, which has at most 32 bytes, behind the modules, and within each module in use
pub record Spare (s : Soc) : Type 0 where
  pub room : s.name_len ≤ name_max
  pub name : all_of rules.none (drop s.name_len s.name) ≡ true
  pub modules : all_of spare_module (drop s.module_count s.modules) ≡ true
  pub within : all_of spare_in (modules_of s) ≡ true

-- the lines of a record, whose other places are spare
pub record Describes (s : Soc) (ls : List (List (List ℕ))) : Type 0 where
  pub modules : List (List (List ℕ))
  pub modules_are : ModulesLines s.power s.xy 0 (modules_of s) modules
  pub lines_are : ls ≡ name_fields s ∷ total_fields s ∷ options_fields s ∷ modules
  pub spare : Spare s

abbrev pub fields_in : Line → List (List ℕ)
fields_in l = l.fields

-- the fields of the lines of a text
abbrev pub field_lines : List ℕ → List (List (List ℕ))
field_lines t = map fields_in (lines_from 1 t 0)
