-- What a caller reads from an answer, taken apart as `include/tallowwing.h` says.
use Rattle.std.specs.Prelude.{ℕ, ◌/◌, ◌%◌, ◌≡◌, cond, List, length, leb, Result, Ok, Err}
use Rattle.units.specs.Refusals.{number_of, refused}
use Rattle.units.specs.declared.Fault.TheVariants.{ShortBuffer}
use Rattle.units.specs.declared.Refusal.{Refusal}
use Rattle.pair.specs.declared.read.Meant.TheVariants as meant
use Rattle.pair.specs.declared.read.PairRefusal.{PairRefusal}
use Rattle.pair.specs.declared.shown.Shown.{Shown}
use Rattle.c_interface.specs.Codes.{meant_number}

-- the lowest byte is the refusal's number or 0; what stands above it is the refusal's line, or the figure
abbrev pub Says : {A : Type 0} → ℕ → (A → ℕ) → Result A Refusal → Type 0
Says c figure (Ok a) = (c % 256 ≡ 0) × (c / 256 ≡ figure a)
Says c figure (Err r) = (c % 256 ≡ number_of r.fault) × (c / 256 ≡ r.line)

-- a result as bytes: without the room it is refused so
unfoldable pub roomed_or : {A E : Type 0} → E → (A → List ℕ) → Result A E → List ℕ → Result A E
roomed_or short form (Ok a) buf = cond (leb (length (form a)) (length buf)) (Ok a) (Err short)
roomed_or short form (Err r) buf = Err r

-- without the room 11
abbrev pub roomed : {A : Type 0} → (A → List ℕ) → Result A Refusal → List ℕ → Result A Refusal
roomed form a buf = roomed_or (refused ShortBuffer 0) form a buf

-- of a pair, of a refusal: what stands above the lowest byte is 4 times its line and the text that is meant
pub record PairRefused (c : ℕ) (r : PairRefusal) : Type 0 where
  pub number : c % 256 ≡ number_of r.refusal.fault
  pub line : c / 256 / 4 ≡ r.refusal.line
  pub text : (c / 256) % 4 ≡ meant_number r.meant

-- or it is the figure
abbrev pub PairSays : {A : Type 0} → ℕ → (A → ℕ) → Result A PairRefusal → Type 0
PairSays c figure (Ok a) = (c % 256 ≡ 0) × (c / 256 ≡ figure a)
PairSays c figure (Err r) = PairRefused c r

-- what is refused when the pair is not, 11 among it, is about neither text
abbrev pub pair_roomed : {A : Type 0} → (A → List ℕ) → Result A PairRefusal → List ℕ → Result A PairRefusal
pair_roomed form a buf = roomed_or (record { refusal = refused ShortBuffer 0; meant = meant.Neither }) form a buf

-- of the lines of a module: the place of their first byte, the place behind the last one, and whether they stand in the overlay
pub record PlacesSay (v : ℕ) (s : Shown) : Type 0 where
  pub from : v / 131072 ≡ s.part.from
  pub to : (v / 2) % 65536 ≡ s.part.to
  pub over : v % 2 ≡ cond s.over 1 0
