-- The parts that lines of a SOC text are made of: fields of one kind, read left to right (document 01, "The SOC text", "Refusal numbers";
-- document 02, item 6).
use Rattle.std.specs.Prelude.{ℕ, Bool, true, false, cond, List, [], ◌∷◌, drop, leb, eqb, ℤ, pos, Result, Ok, Err}
use Prim.Native.String.{String}
use Rattle.std.proofs.Math.Option.{Option, some, none}
use Rattle.fields.specs.Bytes.{bytes, same_bytes}
use Rattle.fields.specs.Fields.{fields_of}
use Rattle.fields.specs.Names.{is_name}
use Rattle.fields.specs.Numbers.{decimal_of}
use Rattle.fields.specs.Readers.{no, got, FieldsGot, Reader, ◌>>◌, key_between, bytes_due}
use Rattle.soc.specs.Record.{not_given}
use Rattle.units.specs.declared.Fault.{Fault}
use Rattle.units.specs.declared.Fault.TheVariants.{WrongForm, WrongFigure, BrokenRule, PlannedPins}

-- a keyword, and then a number from low to high
abbrev pub keyed : String → ℕ → ℕ → Reader ℕ
keyed w low high = key_between (bytes w) low high

-- "Module and test numbers have no limit of their own: a decimal that is not the one due is 5, however long."
unfoldable pub due_is : ℕ → Option ℕ → Reader (Unit {0})
due_is n none fs = no WrongFigure
due_is n (some v) fs = cond (eqb v n) (got tt fs) (no BrokenRule)

unfoldable pub due : ℕ → Reader (Unit {0})
due n [] = no WrongForm
due n (f ∷ fs) = due_is n (decimal_of f) fs

-- a keyword, and then the number that is due
abbrev pub key_due : List ℕ → ℕ → Reader (Unit {0})
key_due w n = bytes_due w >> due n

-- "0/1"; "a wrong .. 0/1 flag" is 3
unfoldable pub flag : Reader Bool
flag [] = no WrongForm
flag (f ∷ fs) = cond (same_bytes f (bytes "0")) (got false fs) (cond (same_bytes f (bytes "1")) (got true fs) (no WrongForm))

abbrev pub key_flag : List ℕ → Reader Bool
key_flag w = bytes_due w >> flag

-- "Only X, Y and Power may be -1, which means not given"
unfoldable pub given_is : ℕ → Option ℕ → Reader ℤ
given_is high none fs = no WrongFigure
given_is high (some v) fs = cond (leb v high) (got (pos v) fs) (no WrongFigure)

-- a number from 0 to high, or -1
unfoldable pub or_not_given : ℕ → Reader ℤ
or_not_given high [] = no WrongForm
or_not_given high (f ∷ fs) = cond (same_bytes f (bytes "-1")) (got not_given fs) (given_is high (decimal_of f) fs)

abbrev pub key_given : List ℕ → ℕ → Reader ℤ
key_given w high = bytes_due w >> or_not_given high

-- "name (1 to 32 letters, digits, `_` or `-`)"; "a wrong .. name" is 3
unfoldable pub name : Reader (List ℕ)
name [] = no WrongForm
name (f ∷ fs) = cond (is_name f) (got f fs) (no WrongForm)

-- a rule that is broken is 5
unfoldable pub rule : Bool → Reader (Unit {0})
rule false fs = no BrokenRule
rule true fs = got tt fs

-- the rule on module 0's pins: broken, it is "17 with the line"
unfoldable pub pins : Bool → Reader (Unit {0})
pins false fs = no PlannedPins
pins true fs = got tt fs

-- is the keyword w next?
unfoldable pub is_next : List ℕ → List (List ℕ) → Bool
is_next w [] = false
is_next w (f ∷ fs) = same_bytes f w

-- what a whole line says; "too many fields on a line" is 3
unfoldable pub closed : {A : Type 0} → FieldsGot A → Result A Fault
closed (no c) = Err c
closed (got a []) = Ok a
closed (got a (f ∷ fs)) = Err WrongForm

abbrev pub whole : {A : Type 0} → Reader A → List (List ℕ) → Result A Fault
whole p fs = closed (p fs)

-- what an answer about a place in a line means: the fault, or what was read and the fields behind the place it gives
abbrev pub part_is : {A : Type 0} → List ℕ → Result (A × ℕ) Fault → FieldsGot A
part_is l (Err c) = no c
part_is l (Ok (a, e)) = got a (fields_of (drop e l))
