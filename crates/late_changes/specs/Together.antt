-- When the lines of a module stand together in a text (document 02, item 3): one behind the other, and no other line of the text is of
-- that module; and when a part of a text is from a field to a field. A text's lines are seen as their fields, without the blank ones.
use Rattle.std.specs.Prelude.{ℕ, ◌-◌, ◌<◌, ◌≡◌, Bool, true, false, List, [], ◌++◌, get_or}
use Rattle.units.specs.Places.{all_of, any_of}
use Rattle.fields.specs.Fields.{gap}
use Rattle.soc.specs.Rules.{level_rule}
use Rattle.soc.specs.declared.record.Module.{Module}
use Rattle.text_lines.specs.Kinds.{module_due}
use Rattle.module_part.specs.ModulePart.{begun}
use Rattle.module_part.specs.declared.Part.{Part}
use Rattle.text.specs.Describes.{ModuleLines}

-- lines, each with its fields
abbrev pub Lines : Type 0
Lines = List (List (List ℕ))

-- a line of module m is one that begins with "`Module` m"
abbrev pub of_module : ℕ → List (List ℕ) → Bool
of_module m fs = begun (module_due m fs)

-- those of the middle are the lines of module m, and there is one at least
pub record Together (m : ℕ) (lines middle : Lines) : Type 0 where
  pub before : Lines
  pub behind : Lines
  pub lines_are : lines ≡ before ++ (middle ++ behind)
  pub some : middle ≡ [] → ⊥
  pub none_before : any_of (of_module m) before ≡ false
  pub all : all_of (of_module m) middle ≡ true
  pub none_behind : any_of (of_module m) behind ≡ false

-- the lines of module m stand together, and say d
pub record Stands (power xy : Bool) (m : ℕ) (d : Module) (lines : Lines) : Type 0 where
  pub middle : Lines
  pub together : Together m lines middle
  pub are : ModuleLines power xy m d middle

-- the same of an overlay: they say d wherever its level keeps the level rule, which an overlay's own lines do not tell
pub record StandsBut (power xy : Bool) (m : ℕ) (d : Module) (lines : Lines) : Type 0 where
  pub middle : Lines
  pub together : Together m lines middle
  pub are : (last : ℕ) → level_rule m last d.level ≡ true → ModuleLines power xy m d middle

-- "that very part of the text they stand in, first field to last": a byte of a field at its beginning and at its end
pub record Ends (t : List ℕ) (s : Part) : Type 0 where
  pub order : s.from < s.to
  pub first : gap (get_or t s.from 0) ≡ false
  pub last : gap (get_or t (s.to - 1) 0) ≡ false
