-- Laws of what the line numbers of a text can do to its reading: lines with the same fields are read alike, and where they are refused
-- the number is the same, 6 with line 0, or from 3 to 5 or 17 with the number of a line. What it is for two readings to be alike, that
-- readings made of such readings are so too, and then one law for each part of a text. Assumes nothing.
use Prim.Native.Nat.{ℕ, zero, suc}
use mathlib.Core.Path.{◌≡◌, refl}
use mathlib.Core.Bool.{Bool}
use mathlib.Core.List.{List, [], ◌∷◌}
use mathlib.Core.Logic.{◌⊎◌, inl, inr}
use native.Mathlib.Omega.{arith}
use Rattle.units.specs.declared.Fault.TheVariants.{WrongForm, EarlyEnd}
use Rattle.std.specs.Prelude.{Result, Ok, Err}
use Rattle.units.specs.declared.Fault.{Fault}
use Rattle.text_reader.specs.declared.block.Body.{Body}
use Rattle.units.proofs.TestLaws.{clash}
use Rattle.units.specs.Refusals.{number_of, refused}
use Rattle.units.specs.declared.Refusal.{Refusal}
use Rattle.fields.specs.Lines.{Line}
use Rattle.fields.specs.Readers.{no, got, Reader, ◌>>=◌, ◌>>◌, after, each}
use Rattle.text_lines.specs.Parts.{whole}
use Rattle.text_lines.specs.Kinds.{name_line, total_line}
use Rattle.text_lines.specs.declared.head.Name.{Name}
use Rattle.text_lines.specs.declared.head.Options.{Options}
use Rattle.text_lines.specs.declared.level.Shape.{Shape}
use Rattle.text_lines.specs.declared.second.SecondLine.{SecondLine}
use Rattle.text_lines.specs.declared.second.SecondLine.TheVariants.{Position, Tests}
use Rattle.text_lines.specs.Kinds.{options_line, level_line, second_line, tests_line, test_line}
use Rattle.text.proofs.LineRefuses.{LineNumber, name-refuses, total-refuses, options_refuses, level-refuses}
use Rattle.text.proofs.LineRefuses.{second_refuses, tests-refuses, test-refuses}
use Rattle.text_reader.specs.Lines.{LinesRead, LinesReader, judged, line, no_more}
use Rattle.text_reader.specs.Reading.{behind, body, tests, module_tests, module_rest, module_lines, modules, behind_name, soc}
use Rattle.text_reader.specs.Reading as reading
use Rattle.text.specs.Numbers.{TextNumber}

-- R is what is known of the numbers of two lines that stand for each other
module _ (R : ℕ → ℕ → Type 0) where
  -- as many lines, in order with the same fields
  pub data SameFields : List Line → List Line → Type 0 where
    none : SameFields [] []
    more : {l m : Line} {ls ms : List Line} → R l.number m.number → l.fields ≡ m.fields → SameFields ls ms
        → SameFields (l ∷ ls) (m ∷ ms)

  pub data Alike {A : Type 0} : LinesRead A → LinesRead A → Type 0 where
    ended : Alike (no (refused EarlyEnd 0)) (no (refused EarlyEnd 0))
    stopped : {c : Fault} {i j : ℕ} → LineNumber (number_of c) → R i j → Alike (no (refused c i)) (no (refused c j))
    going : {a : A} {ls ms : List Line} → SameFields ls ms → Alike (got a ls) (got a ms)

  abbrev pub AlikeReader : {A : Type 0} → LinesReader A → Type 0
  AlikeReader p = (ls ms : List Line) → SameFields ls ms → Alike (p ls) (p ms)

  module _ {A B : Type 0} where
    alike_after : {g h : LinesRead A} {k : A → LinesReader B} → Alike g h → ((a : A) → AlikeReader (k a)) → Alike (after g k) (after h k)
    unfolding after
    alike_after ended f = ended
    alike_after (stopped p r) f = stopped p r
    alike_after (going {a} {ls} {ms} s) f = f a ls ms s

    pub alike_bind : {p : LinesReader A} {k : A → LinesReader B} → AlikeReader p → ((a : A) → AlikeReader (k a)) → AlikeReader (p >>= k)
    alike_bind f h ls ms s = alike_after (f ls ms s) h

    pub alike_then : {p : LinesReader A} {q : LinesReader B} → AlikeReader p → AlikeReader q → AlikeReader (p >> q)
    alike_then f h ls ms s = alike_after (f ls ms s) (λ _. h)

  pub alike_give : {A : Type 0} (a : A) → AlikeReader (got a)
  alike_give a ls ms s = going s

  pub alike_each : {A : Type 0} (n : ℕ) {p : ℕ → LinesReader A} → ((i : ℕ) → AlikeReader (p i)) → (i : ℕ) → AlikeReader (each n p i)
  unfolding each
  alike_each zero f i = alike_give []
  alike_each (suc n) f i = alike_bind (f i) (λ x. alike_bind (alike_each n f (suc i)) (λ xs. alike_give (x ∷ xs)))

  -- a line of which what is refused is refused with 3 to 5 or 17
  alike_judged : {A : Type 0} {i j : ℕ} {ls ms : List Line} → R i j → SameFields ls ms → (w : Result A Fault)
      → ((c : Fault) → w ≡ Err c → LineNumber (number_of c)) → Alike (judged i ls w) (judged j ms w)
  unfolding judged
  alike_judged r s (Err c) h = stopped (h c refl) r
  alike_judged r s (Ok a) h = going s

  pub alike_line : {A : Type 0} (p : Reader A) → ((fs : List (List ℕ)) (c : Fault) → whole p fs ≡ Err c → LineNumber (number_of c))
      → AlikeReader (line p)
  unfolding line
  alike_line p h [] [] none = ended
  alike_line p h [] (m ∷ ms) s = elim s [ ]
  alike_line p h (l ∷ ls) [] s = elim s [ ]
  alike_line p h (l ∷ ls) (m ∷ ms) (more r e s) = rw e (alike_judged r s (whole p m.fields) (h m.fields))

  pub alike_no_more : AlikeReader no_more
  unfolding no_more
  alike_no_more [] [] none = going none
  alike_no_more [] (m ∷ ms) s = elim s [ ]
  alike_no_more (l ∷ ls) [] s = elim s [ ]
  alike_no_more (l ∷ ls) (m ∷ ms) (more r e s) = stopped {c = WrongForm} (inl (omega arith, omega arith)) r

  -- the parts of a text

  alike_behind : (m : ℕ) (s : SecondLine) → AlikeReader (behind m s)
  unfolding behind
  alike_behind m (Tests t) = alike_give _
  alike_behind m (Position x y) = alike_bind (alike_line (tests_line m) (tests-refuses m)) (λ t. alike_give _)

  alike_body : (m : ℕ) (xy : Bool) → AlikeReader (body m xy)
  unfolding body
  alike_body m xy = alike_bind (alike_line (second_line m xy) (second_refuses m xy)) (alike_behind m)

  alike_tests : (t m : ℕ) (power : Bool) → AlikeReader (tests t m power)
  alike_tests t m power = alike_each t (λ i. alike_line (test_line m i power) (test-refuses m i power)) 1

  alike_module_tests : (o : Options) (m : ℕ) (s : Shape) (b : Body) → AlikeReader (module_tests o m s b)
  unfolding module_tests
  alike_module_tests o m s b = alike_bind (alike_tests b.tests m o.power) (λ ts. alike_give _)

  pub alike_module_rest : (o : Options) (m : ℕ) (s : Shape) → AlikeReader (module_rest o m s)
  unfolding module_rest
  alike_module_rest o m s = alike_bind (alike_body m o.xy) (alike_module_tests o m s)

  alike_module : (o : Options) (m last : ℕ) → AlikeReader (module_lines o m last)
  unfolding module_lines
  alike_module o m last = alike_bind (alike_line (level_line m last) (level-refuses m last)) (alike_module_rest o m)

  alike_modules : (o : Options) (n m last : ℕ) → AlikeReader (modules o n m last)
  unfolding modules
  alike_modules o zero m last = alike_give []
  alike_modules o (suc n) m last =
      alike_bind (alike_module o m last) (λ d. alike_bind (alike_modules o n (suc m) d.level) (λ ds. alike_give (d ∷ ds)))

  alike_rest : (name : Name) (n : ℕ) (o : Options) → AlikeReader (reading.rest name n o)
  unfolding reading.rest
  alike_rest name n o = alike_bind (alike_modules o n 0 0) (λ ds. alike_then alike_no_more (alike_give _))

  alike_behind_name : (name : Name) → AlikeReader (behind_name name)
  unfolding behind_name
  alike_behind_name name =
      alike_bind (alike_line total_line total-refuses) (λ n. alike_bind (alike_line options_line options_refuses) (λ o. alike_rest name n o))

  pub alike_soc : AlikeReader soc
  unfolding soc
  alike_soc = alike_bind (alike_line name_line name-refuses) alike_behind_name

-- lines have the same fields as they have themselves
pub same_self : (P : ℕ → Type 0) (ls : List Line) → ((n : ℕ) → P n) → SameFields (λ i j. P i) ls ls
same_self P [] h = none
same_self P (l ∷ ls) h = more (h l.number) refl (same_self P ls h)

-- what a reading that refuses says, of the line too
pub record Refuses (P : ℕ → Type 0) (r : Refusal) : Type 0 where
  pub numbers : (number_of r.fault ≡ 6) ⊎ LineNumber (number_of r.fault)
  pub last : number_of r.fault ≡ 6 → r.line ≡ 0
  pub others : LineNumber (number_of r.fault) → P r.line

not_six : (c : ℕ) → LineNumber c → c ≡ 6 → ⊥
not_six c (inl h) e = omega (arith, h.1, e)
not_six c (inr h) e = omega (arith, h, e)

pub alike_refuses : (P : ℕ → Type 0) {A : Type 0} {g h : LinesRead A} → Alike (λ i j. P i) g h → (r : Refusal) → g ≡ no r → Refuses P r
alike_refuses P ended r e =
    let i : refused EarlyEnd 0 ≡ r = cc in
    rw (← i) (record { numbers = inl refl; last = λ k. refl; others = λ k. absurd (not_six 6 k refl) })
alike_refuses P (stopped {c} {i} p b) r e =
    let k : refused c i ≡ r = cc in
    rw (← k) (record { numbers = inr p; last = λ k. absurd (not_six (number_of c) p k); others = λ k. b })
alike_refuses P (going s) r e = clash cc

pub soc-refuses-so : (P : ℕ → Type 0) (ls : List Line) (r : Refusal) → SameFields (λ i j. P i) ls ls → soc ls ≡ no r → Refuses P r
soc-refuses-so P ls r s e = alike_refuses P (alike_soc (λ i j. P i) ls ls s) r e

-- it is one that a text is refused with
pub refuses-text : (c : ℕ) → (c ≡ 6) ⊎ LineNumber c → TextNumber c
refuses-text c (inl e) = inl (omega arith, omega arith)
refuses-text c (inr (inl h)) = inl (omega (arith, h.0), omega (arith, h.1))
refuses-text c (inr (inr e)) = inr e

pub soc-refuses : (ls : List Line) (r : Refusal) → soc ls ≡ no r → TextNumber (number_of r.fault)
soc-refuses ls r h = refuses-text (number_of r.fault) (soc-refuses-so (λ n. Unit {0}) ls r (same_self (λ n. Unit {0}) ls (λ n. tt)) h).numbers
