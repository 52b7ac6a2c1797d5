-- How the fields of a line are read: left to right, up to the first refusal (document 01, "Refusal numbers" and its order).
use Rattle.std.specs.Prelude.{ℕ, zero, suc, cond, ◌&&◌, List, [], ◌∷◌, drop, leb, Result, Ok, Err}
use Prim.Native.String.{String}
use Rattle.std.proofs.Math.Option.{Option, some, none}
use Rattle.fields.specs.Bytes.{bytes, same_bytes}
use Rattle.fields.specs.Fields.{fields_of, field_end}
use Rattle.fields.specs.Numbers.{decimal_of}
use Rattle.units.specs.declared.Fault.{Fault}
use Rattle.units.specs.declared.Fault.TheVariants.{WrongForm, WrongFigure}

-- what reading from s gives: a refusal, or a value and what is left of s
pub data Got (E S A : Type 0) : Type 0 where
  no : E → Got E S A
  got : A → S → Got E S A

abbrev pub Reads : Type 0 → Type 0 → Type 0 → Type 0
Reads E S A = S → Got E S A

-- one reading, and then another that may look at its value; the first refusal stands
unfoldable pub after : {E S A B : Type 0} → Got E S A → (A → Reads E S B) → Got E S B
after (no c) k = no c
after (got a s) k = k a s

infixl 20 ◌>>=◌ ◌>>◌
abbrev pub ◌>>=◌ : {E S A B : Type 0} → Reads E S A → (A → Reads E S B) → Reads E S B
◌>>=◌ p k = λ s. after (p s) k

abbrev pub ◌>>◌ : {E S A B : Type 0} → Reads E S A → Reads E S B → Reads E S B
◌>>◌ p q = λ s. after (p s) (λ _. q)

abbrev pub give : {E S A : Type 0} → A → Reads E S A
give a = λ s. got a s

-- n readings, numbered from i
unfoldable pub each : {E S A : Type 0} → ℕ → (ℕ → Reads E S A) → ℕ → Reads E S (List A)
each zero p i = give []
each (suc n) p i = do
  x ← p i
  xs ← each n p (suc i)
  give (x ∷ xs)

-- of fields of a line; a refusal is its fault
abbrev pub FieldsGot : Type 0 → Type 0
FieldsGot A = Got Fault (List (List ℕ)) A

abbrev pub Reader : Type 0 → Type 0
Reader A = Reads Fault (List (List ℕ)) A

-- "a wrong keyword .. too few .. fields on a line" is 3
unfoldable pub bytes_due : List ℕ → Reader (Unit {0})
bytes_due w [] = no WrongForm
bytes_due w (f ∷ fs) = cond (same_bytes f w) (got tt fs) (no WrongForm)

abbrev pub word : String → Reader (Unit {0})
word w = bytes_due (bytes w)

-- "a number field not decimal or outside its limit" is 4
unfoldable pub within : ℕ → ℕ → Option ℕ → Reader ℕ
within low high none fs = no WrongFigure
within low high (some v) fs = cond (leb low v && leb v high) (got v fs) (no WrongFigure)

-- a number from low to high
unfoldable pub between : ℕ → ℕ → Reader ℕ
between low high [] = no WrongForm
between low high (f ∷ fs) = within low high (decimal_of f) fs

-- the keyword w, and then a number from low to high
abbrev pub key_between : List ℕ → ℕ → ℕ → Reader ℕ
key_between w low high = bytes_due w >> between low high

-- what an answer about a place in a line means: the refusal, or the value and the fields behind the place it gives
abbrev pub past_is : List ℕ → Result ℕ Fault → FieldsGot (Unit {0})
past_is l (Err c) = no c
past_is l (Ok e) = got tt (fields_of (drop e l))

abbrev pub figure_is : List ℕ → Result (ℕ × ℕ) Fault → FieldsGot ℕ
figure_is l (Err c) = no c
figure_is l (Ok (v, e)) = got v (fields_of (drop e l))

-- the answer to a reading whose last field ends at e: the refusal, or the value and the place e
unfoldable pub past_at : ℕ → FieldsGot (Unit {0}) → Result ℕ Fault
past_at e (no c) = Err c
past_at e (got a fs) = Ok e

unfoldable pub figure_at : ℕ → FieldsGot ℕ → Result (ℕ × ℕ) Fault
figure_at e (no c) = Err c
figure_at e (got v fs) = Ok (v, e)

-- the keyword w at a place of the line l: it ends where its field does
unfoldable pub word_answer : List ℕ → ℕ → List ℕ → Result ℕ Fault
word_answer l at w = past_at (field_end l at) (bytes_due w (fields_of (drop at l)))

-- a number from low to high there
unfoldable pub number_answer : List ℕ → ℕ → ℕ → ℕ → Result (ℕ × ℕ) Fault
number_answer l at low high = figure_at (field_end l at) (between low high (fields_of (drop at l)))

-- the keyword w and then such a number, which is the second field
unfoldable pub key_number_answer : List ℕ → ℕ → List ℕ → ℕ → ℕ → Result (ℕ × ℕ) Fault
key_number_answer l at w low high = figure_at (field_end l (field_end l at)) (key_between w low high (fields_of (drop at l)))
