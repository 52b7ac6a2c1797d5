-- Laws of lines that are refused: every reader of a line refuses with a number from 3 to 5, or with 17. What it is for a reading to do so,
-- that readings made of such readings do so too, then one law for each part of a line, and one for each kind of line. Assumes nothing.
use Prim.Native.Nat.{ℕ, zero, suc, ◌≤◌}
use mathlib.Core.Path.{◌≡◌, refl, ap, subst}
use mathlib.Core.Bool.{Bool, true, false, cond, ◌&&◌}
use mathlib.Core.List.{List, [], ◌∷◌}
use mathlib.Core.Option.{Option, some, none}
use mathlib.Core.Logic.{◌⊎◌, inl, inr}
use native.Mathlib.Omega.{arith}
use lib.Dec.{eqb, leb}
use lib.IntN.{pos}
use Rattle.units.specs.declared.Fault.{Fault}
use Rattle.units.specs.Refusals.{number_of}
use Rattle.units.specs.declared.Fault.TheVariants.{WrongForm, WrongFigure, BrokenRule, PlannedPins}
use Rattle.std.specs.Prelude.{Err}
use Rattle.units.proofs.TestLaws.{clash}
use Rattle.fields.specs.Bytes.{bytes, same_bytes}
use Rattle.fields.specs.Names.{is_name}
use Rattle.fields.specs.Numbers.{decimal_of}
use Rattle.fields.specs.Readers.{no, got, FieldsGot, Reader, ◌>>=◌, ◌>>◌, after, each, bytes_due, within, between, key_between}
use Rattle.soc.specs.Limits.{modules_max, level_max, terminals_max, chains_max, length_max, tests_max, patterns_max, position_max, power_max}
use Rattle.soc.specs.Record.{not_given}
use Rattle.soc.specs.Rules.{level_rule, pins_rule}
use Rattle.text_lines.specs.Parts.{whole, closed, due, due_is, key_due, flag, key_flag, given_is, or_not_given, key_given, name, rule, pins, is_next}
use Rattle.text_lines.specs.Kinds.{name_part, name_line, total_line, options_part, options_line, module_due, level, terminals, chain_length, lengths_part, chains_part, level_line, pair_rule, position_part, total_tests, tests_part, second_part, second_line, tests_line, power_part, uses, test_due, patterns_part, test_line}
use Rattle.text_lines.specs.declared.level.Terminals.{Terminals}
use Rattle.text_lines.specs.declared.test.Uses.{Uses}

-- what the fields of a line are refused with
abbrev pub LineNumber : ℕ → Type 0
LineNumber c = ((3 ≤ c) × (c ≤ 5)) ⊎ (c ≡ 17)

-- a reading refuses only with such a number
pub record Fair {A : Type 0} (g : FieldsGot A) : Type 0 where
  pub fair : (c : Fault) → g ≡ no c → LineNumber (number_of c)

abbrev pub FairReader : {A : Type 0} → Reader A → Type 0
FairReader p = (fs : List (List ℕ)) → Fair (p fs)

module _ {A : Type 0} where
  pub fair_no : (f : Fault) → LineNumber (number_of f) → Fair {A = A} (no f)
  fair_no f h = record { fair = λ c e. let q : f ≡ c = cc in subst (λ d. LineNumber (number_of d)) q h }

  pub fair_got : (a : A) (fs : List (List ℕ)) → Fair (got a fs)
  fair_got a fs = record { fair = λ c e. clash cc }

  pub fair_if : (t : Bool) {x y : FieldsGot A} → Fair x → Fair y → Fair (cond t x y)
  fair_if true p q = p
  fair_if false p q = q

  pub fair_closed : (g : FieldsGot A) → Fair g → (c : Fault) → closed g ≡ Err c → LineNumber (number_of c)
  unfolding closed
  fair_closed (no n) f c h = let q : n ≡ c = cc in f.fair c (ap no q)
  fair_closed (got a []) f c h = clash cc
  fair_closed (got a (g ∷ gs)) f c h = let q : WrongForm ≡ c = cc in subst (λ d. LineNumber (number_of d)) q (inl (omega arith, omega arith))

pub fair_after : {A B : Type 0} {g : FieldsGot A} {k : A → Reader B} → Fair g → ((a : A) → FairReader (k a)) → Fair (after g k)
unfolding after
fair_after {g = no c} p q = record { fair = λ d h. let e : c ≡ d = cc in p.fair d (ap no e) }
fair_after {g = got a fs} p q = q a fs

pub fair_bind : {A B : Type 0} {p : Reader A} {k : A → Reader B} → FairReader p → ((a : A) → FairReader (k a)) → FairReader (p >>= k)
fair_bind f h fs = fair_after (f fs) h

pub fair_then : {A B : Type 0} {p : Reader A} {q : Reader B} → FairReader p → FairReader q → FairReader (p >> q)
fair_then f h fs = fair_after (f fs) (λ _. h)

pub fair_each : {A : Type 0} (n : ℕ) {p : ℕ → Reader A} → ((i : ℕ) → FairReader (p i)) → (i : ℕ) → FairReader (each n p i)
unfolding each
fair_each zero f i = fair_got []
fair_each (suc n) f i = fair_bind (f i) (λ x. fair_bind (fair_each n f (suc i)) (λ xs. fair_got (x ∷ xs)))

-- the parts of a line

three : {A : Type 0} → Fair {A = A} (no WrongForm)
three = fair_no WrongForm (inl (omega arith, omega arith))

four : {A : Type 0} → Fair {A = A} (no WrongFigure)
four = fair_no WrongFigure (inl (omega arith, omega arith))

five : {A : Type 0} → Fair {A = A} (no BrokenRule)
five = fair_no BrokenRule (inl (omega arith, omega arith))

pub fair_word : (w : List ℕ) → FairReader (bytes_due w)
unfolding bytes_due
fair_word w [] = three
fair_word w (f ∷ fs) = fair_if (same_bytes f w) (fair_got tt fs) three

fair_within : (low high : ℕ) (o : Option ℕ) → FairReader (within low high o)
unfolding within
fair_within low high none fs = four
fair_within low high (some v) fs = fair_if (leb low v && leb v high) (fair_got v fs) four

pub fair_between : (low high : ℕ) → FairReader (between low high)
unfolding between
fair_between low high [] = three
fair_between low high (f ∷ fs) = fair_within low high (decimal_of f) fs

fair_due_is : (n : ℕ) (o : Option ℕ) → FairReader (due_is n o)
unfolding due_is
fair_due_is n none fs = four
fair_due_is n (some v) fs = fair_if (eqb v n) (fair_got tt fs) five

pub fair_due : (n : ℕ) → FairReader (due n)
unfolding due
fair_due n [] = three
fair_due n (f ∷ fs) = fair_due_is n (decimal_of f) fs

pub fair_flag : FairReader flag
unfolding flag
fair_flag [] = three
fair_flag (f ∷ fs) = fair_if (same_bytes f (bytes "0")) (fair_got false fs) (fair_if (same_bytes f (bytes "1")) (fair_got true fs) three)

fair_given_is : (high : ℕ) (o : Option ℕ) → FairReader (given_is high o)
unfolding given_is
fair_given_is high none fs = four
fair_given_is high (some v) fs = fair_if (leb v high) (fair_got (pos v) fs) four

pub fair_given : (high : ℕ) → FairReader (or_not_given high)
unfolding or_not_given
fair_given high [] = three
fair_given high (f ∷ fs) = fair_if (same_bytes f (bytes "-1")) (fair_got not_given fs) (fair_given_is high (decimal_of f) fs)

pub fair_name : FairReader name
unfolding name
fair_name [] = three
fair_name (f ∷ fs) = fair_if (is_name f) (fair_got f fs) three

pub fair_rule : (b : Bool) → FairReader (rule b)
unfolding rule
fair_rule false fs = five
fair_rule true fs = fair_got tt fs

fair_pins : (b : Bool) → FairReader (pins b)
unfolding pins
fair_pins false fs = fair_no PlannedPins (inr refl)
fair_pins true fs = fair_got tt fs

module _ (w : List ℕ) where
  pub fair_keyed : (low high : ℕ) → FairReader (key_between w low high)
  fair_keyed low high = fair_then (fair_word w) (fair_between low high)

  pub fair_key_due : (n : ℕ) → FairReader (key_due w n)
  fair_key_due n = fair_then (fair_word w) (fair_due n)

  pub fair_key_flag : FairReader (key_flag w)
  fair_key_flag = fair_then (fair_word w) fair_flag

  pub fair_key_given : (high : ℕ) → FairReader (key_given w high)
  fair_key_given high = fair_then (fair_word w) (fair_given high)

-- the lines

pub name-refuses : (fs : List (List ℕ)) (c : Fault) → whole name_line fs ≡ Err c → LineNumber (number_of c)
unfolding name_line name_part
name-refuses fs = fair_closed (name_line fs) (fair_then (fair_word (bytes "SocName")) (fair_bind fair_name (λ f. fair_got _)) fs)

pub total-refuses : (fs : List (List ℕ)) (c : Fault) → whole total_line fs ≡ Err c → LineNumber (number_of c)
unfolding total_line
total-refuses fs = fair_closed (total_line fs) (fair_keyed (bytes "TotalModules") 1 modules_max fs)

pub options_refuses : (fs : List (List ℕ)) (c : Fault) → whole options_line fs ≡ Err c → LineNumber (number_of c)
unfolding options_line options_part
options_refuses fs =
    fair_closed (options_line fs) (fair_then (fair_word (bytes "Options")) (fair_bind (fair_key_flag (bytes "Power")) (λ p. fair_bind (fair_key_flag (bytes "XY")) (λ x. fair_got _))) fs)

pub fair_module : (m : ℕ) → FairReader (module_due m)
fair_module m = fair_key_due (bytes "Module") m

fair_level : (m last : ℕ) → FairReader (level m last)
unfolding level
fair_level m last = fair_then (fair_module m) (fair_bind (fair_keyed (bytes "Level") 0 level_max) (λ v. fair_then (fair_rule (level_rule m last v)) (fair_got v)))

pub fair_terminals : FairReader terminals
unfolding terminals
fair_terminals =
    fair_bind (fair_keyed (bytes "Inputs") 0 terminals_max)
    (λ i. fair_bind (fair_keyed (bytes "Outputs") 0 terminals_max) (λ o. fair_bind (fair_keyed (bytes "Bidirs") 0 terminals_max) (λ b. fair_got _)))

fair_length : FairReader chain_length
unfolding chain_length
fair_length = fair_bind (fair_between 1 length_max) (λ n. fair_got _)

fair_lengths : (s v : ℕ) (t : Terminals) → FairReader (lengths_part s v t)
unfolding lengths_part
fair_lengths s v t = fair_bind (fair_each s (λ _. fair_length) 0) (λ ls. fair_got _)

pub fair_chains : (v : ℕ) (t : Terminals) → FairReader (chains_part v t)
unfolding chains_part
fair_chains v t = fair_bind (fair_keyed (bytes "ScanChains") 0 chains_max) (λ s. fair_then (fair_word (bytes ":")) (fair_lengths s v t))

pub level-refuses : (m last : ℕ) (fs : List (List ℕ)) (c : Fault) → whole (level_line m last) fs ≡ Err c → LineNumber (number_of c)
unfolding level_line
level-refuses m last fs = fair_closed (level_line m last fs) (fair_bind (fair_level m last) (λ v. fair_bind fair_terminals (λ t. fair_chains v t)) fs)

fair_position : FairReader position_part
unfolding position_part
fair_position =
    fair_bind (fair_key_given (bytes "X") position_max)
    (λ x. fair_bind (fair_key_given (bytes "Y") position_max) (λ y. fair_then (fair_rule (pair_rule x y)) (fair_got _)))

fair_total_tests : FairReader total_tests
unfolding total_tests
fair_total_tests = fair_keyed (bytes "TotalTests") 0 tests_max

fair_tests : FairReader tests_part
unfolding tests_part
fair_tests = fair_bind fair_total_tests (λ t. fair_got _)

fair_second : (xy : Bool) → FairReader (second_part xy)
unfolding second_part
fair_second false fs = fair_tests fs
fair_second true fs = fair_if (is_next (bytes "X") fs) (fair_position fs) (fair_tests fs)

pub second_refuses : (m : ℕ) (xy : Bool) (fs : List (List ℕ)) (c : Fault) → whole (second_line m xy) fs ≡ Err c → LineNumber (number_of c)
unfolding second_line
second_refuses m xy fs = fair_closed (second_line m xy fs) (fair_then (fair_module m) (fair_second xy) fs)

pub tests-refuses : (m : ℕ) (fs : List (List ℕ)) (c : Fault) → whole (tests_line m) fs ≡ Err c → LineNumber (number_of c)
unfolding tests_line
tests-refuses m fs = fair_closed (tests_line m fs) (fair_then (fair_module m) fair_total_tests fs)

fair_power : (power : Bool) → FairReader (power_part power)
unfolding power_part
fair_power false fs = fair_got not_given fs
fair_power true [] = fair_got not_given []
fair_power true (f ∷ fs) = fair_key_given (bytes "Power") power_max (f ∷ fs)

fair_test_due : (m i : ℕ) → FairReader (test_due m i)
unfolding test_due
fair_test_due m i = fair_then (fair_module m) (fair_key_due (bytes "Test") i)

fair_uses : (m : ℕ) → FairReader (uses m)
unfolding uses
fair_uses m =
    fair_bind (fair_key_flag (bytes "ScanUse"))
    (λ s. fair_bind (fair_key_flag (bytes "TamUse")) (λ t. fair_then (fair_pins (pins_rule m t)) (fair_got _)))

fair_patterns : (power : Bool) (u : Uses) → FairReader (patterns_part power u)
unfolding patterns_part
fair_patterns power u = fair_bind (fair_keyed (bytes "Patterns") 1 patterns_max) (λ p. fair_bind (fair_power power) (λ w. fair_got _))

pub test-refuses : (m i : ℕ) (power : Bool) (fs : List (List ℕ)) (c : Fault) → whole (test_line m i power) fs ≡ Err c → LineNumber (number_of c)
unfolding test_line
test-refuses m i power fs =
    fair_closed (test_line m i power fs) (fair_then (fair_test_due m i) (fair_bind (fair_uses m) (λ u. fair_patterns power u)) fs)
