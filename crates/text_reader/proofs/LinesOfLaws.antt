-- Laws of the lines that are read: each line of a module begins with its number, and so is of no other; the first lines of a text are of no
-- module. Assumes nothing.
use Prim.Native.Nat.{ℕ, zero, suc}
use mathlib.Core.Path.{◌≡◌, refl, sym, ap, ◌∙◌}
use mathlib.Core.Bool.{Bool, true, false, cond}
use mathlib.Core.List.{List, [], ◌∷◌}
use mathlib.Core.Option.{Option, some, none}
use borrow.Author.Tests.{eqb-true}
use lib.Dec.{eqb}
use Rattle.units.proofs.TestLaws.{clash}
use Rattle.fields.specs.Bytes.{bytes, same_bytes}
use Rattle.fields.specs.Numbers.{decimal_of}
use Rattle.fields.specs.Lines.{Line}
use Rattle.fields.specs.Readers.{no, got, FieldsGot, Reader, after, each, bytes_due}
use Rattle.fields.proofs.BackLaws.{same-bytes_eq}
use Rattle.soc.specs.declared.record.Module.{Module}
use Rattle.soc.specs.declared.record.Test.{Test}
use Rattle.std.specs.Prelude.{Result, Ok, Err}
use Rattle.units.specs.declared.Fault.{Fault}
use Rattle.units.specs.declared.Fault.TheVariants.{WrongForm, BrokenRule}
use Rattle.text_lines.specs.Parts.{closed, whole, due, due_is}
use Rattle.text_lines.specs.Kinds.{name_line, total_line, options_line}
use Rattle.text_lines.specs.declared.head.Name.{Name}
use Rattle.text_lines.specs.declared.head.Options.{Options}
use Rattle.text_lines.specs.declared.level.Shape.{Shape}
use Rattle.text_lines.specs.declared.second.SecondLine.{SecondLine}
use Rattle.text_lines.specs.declared.second.SecondLine.TheVariants.{Tests, Position}
use Rattle.text_lines.specs.Kinds.{module_due, level, level_line, second_line, tests_line, test_due, test_line}
use Rattle.text_reader.specs.Lines.{LinesRead, judged, line}
use Rattle.text_reader.specs.declared.block.Body.{Body}
use Rattle.text_reader.specs.Reading.{behind, body, module_tests, module_rest, module_lines}
use Rattle.text_reader.specs.Marks.{Of, Other, Passes, LinesOf}
use Rattle.text_reader.proofs.CountLaws.{after_gives}

-- the line that was read, and the lines behind it
pub line_first : {A C : Type 0} (r : Reader A) (a : A) (ls ms : List Line) → ((l : Line) → ls ≡ l ∷ ms → whole r l.fields ≡ Ok a → C)
    → line r ls ≡ got a ms → C
unfolding line judged
line_first r a [] ms f h = clash cc
line_first {A = A} {C = C} r a (l ∷ ls) ms f h = go (whole r l.fields) refl h
  where
    go : (w : Result A Fault) → whole r l.fields ≡ w → judged l.number ls w ≡ got a ms → C
    go (Err c) e k = clash cc
    go (Ok b) e k =
        let q : ls ≡ ms = cc in
        let i : b ≡ a = cc in
        f l (ap (λ r. l ∷ r) q) (e ∙ ap Ok i)

-- a line that begins with "`Module` m"

abbrev Begins : ℕ → List (List ℕ) → Type 0
Begins m fs = (gs : List (List ℕ)) × (module_due m fs ≡ got tt gs)

begins-one : {A : Type 0} (m : ℕ) (fs : List (List ℕ)) (k : Unit {0} → Reader A) (a : A) → closed (after (module_due m fs) k) ≡ Ok a
    → Begins m fs
unfolding closed after
begins-one {A} m fs k a h = go (module_due m fs) refl h
  where
    go : (g : FieldsGot (Unit {0})) → module_due m fs ≡ g → closed (after g k) ≡ Ok a → Begins m fs
    go (no c) e h = clash cc
    go (got tt gs) e h = (gs, e)

begins_two : {A B : Type 0} (m : ℕ) (fs : List (List ℕ)) (j : Unit {0} → Reader A) (k : A → Reader B) (b : B)
    → closed (after (after (module_due m fs) j) k) ≡ Ok b → Begins m fs
unfolding closed after
begins_two {A} m fs j k b h = go (module_due m fs) refl h
  where
    go : (g : FieldsGot (Unit {0})) → module_due m fs ≡ g → closed (after (after g j) k) ≡ Ok b → Begins m fs
    go (no c) e h = clash cc
    go (got tt gs) e h = (gs, e)

level-begins : (m last : ℕ) (fs : List (List ℕ)) (s : Shape) → whole (level_line m last) fs ≡ Ok s → Begins m fs
unfolding level_line level
level-begins m last fs s h = begins_two m fs _ _ s h

second_begins : (m : ℕ) (xy : Bool) (fs : List (List ℕ)) (s : SecondLine) → whole (second_line m xy) fs ≡ Ok s → Begins m fs
unfolding second_line
second_begins m xy fs s h = begins-one m fs _ s h

tests-begins : (m : ℕ) (fs : List (List ℕ)) (n : ℕ) → whole (tests_line m) fs ≡ Ok n → Begins m fs
unfolding tests_line
tests-begins m fs n h = begins-one m fs _ n h

test-begins : (m i : ℕ) (power : Bool) (fs : List (List ℕ)) (t : Test) → whole (test_line m i power) fs ≡ Ok t → Begins m fs
unfolding test_line test_due
test-begins m i power fs t h = begins_two m fs _ _ t h

-- lines of one kind

pub passes-one : {P : Line → Type 0} (l : Line) (ls ms : List Line) → ls ≡ l ∷ ms → P l → Passes P ls ms
passes-one l ls ms e p = rw e (Passes.more p Passes.none)

pub passes_both : {P : Line → Type 0} {ls ms ns : List Line} → Passes P ls ms → Passes P ms ns → Passes P ls ns
passes_both Passes.none q = q
passes_both (Passes.more o p) q = Passes.more o (passes_both p q)

pub passes_as : {P Q : Line → Type 0} {ls ms : List Line} → ((l : Line) → P l → Q l) → Passes P ls ms → Passes Q ls ms
passes_as f Passes.none = Passes.none
passes_as f (Passes.more {l = l} o p) = Passes.more (f l o) (passes_as f p)

-- a line that was read passes it
read-passes : {A : Type 0} (m : ℕ) (r : Reader A) → ((fs : List (List ℕ)) (a : A) → whole r fs ≡ Ok a → Begins m fs) → (a : A)
    → (ls ms : List Line) → line r ls ≡ got a ms → Passes (Of m) ls ms
read-passes m r f a ls ms h =
    line_first r a ls ms (λ l e w. passes-one l ls ms e (record { left = (f l.fields a w).0; begins = (f l.fields a w).1 })) h

-- the lines of a module from its second on

given : {P : Line → Type 0} {A : Type 0} (a b : A) (ms ns : List Line) → ◌≡◌ {A = LinesRead A} (got a ms) (got b ns) → Passes P ms ns
given a b ms ns h = let q : ms ≡ ns = cc in rw q Passes.none

behind-passes : (m : ℕ) (b : Body) (s : SecondLine) (ms ns : List Line) → behind m s ms ≡ got b ns → Passes (Of m) ms ns
unfolding behind
behind-passes m b (Tests t) ms ns h = given _ b ms ns h
behind-passes m b (Position x y) ms ns h =
    after_gives _ b ns (line (tests_line m) ms)
    (λ t ks e k. passes_both (read-passes m (tests_line m) (tests-begins m) t ms ks e) (given _ b ks ns k)) h

body-passes : (m : ℕ) (xy : Bool) (b : Body) (ls ns : List Line) → body m xy ls ≡ got b ns → Passes (Of m) ls ns
unfolding body
body-passes m xy b ls ns h =
    after_gives (behind m) b ns (line (second_line m xy) ls)
    (λ s ms e k. passes_both (read-passes m (second_line m xy) (second_begins m xy) s ls ms e) (behind-passes m b s ms ns k)) h

tests-passes : (m : ℕ) (power : Bool) (n i : ℕ) (ts : List Test) (ls ms : List Line)
    → each n (λ j. line (test_line m j power)) i ls ≡ got ts ms
    → Passes (Of m) ls ms
unfolding each
tests-passes m power zero i ts ls ms h = given _ ts ls ms h
tests-passes m power (suc n) i ts ls ms h =
    after_gives _ ts ms (line (test_line m i power) ls)
    (λ t ks e k. passes_both (read-passes m (test_line m i power) (test-begins m i power) t ls ks e)
    (after_gives _ ts ms (each n (λ j. line (test_line m j power)) (suc i) ks)
    (λ us js j r. passes_both (tests-passes m power n (suc i) us ks js j) (given _ ts js ms r)) k)) h

pub rest-passes : (o : Options) (m : ℕ) (s : Shape) (d : Module) (ls ms : List Line) → module_rest o m s ls ≡ got d ms → Passes (Of m) ls ms
unfolding module_rest module_tests
rest-passes o m s d ls ms h =
    after_gives _ d ms (body m o.xy ls)
    (λ b ks e k. passes_both (body-passes m o.xy b ls ks e)
    (after_gives _ d ms (each b.tests (λ j. line (test_line m j o.power)) 1 ks)
    (λ ts js i j. passes_both (tests-passes m o.power b.tests 1 ts ks js i) (given _ d js ms j)) k)) h

-- the lines of a module
pub module_lines_lem : (o : Options) (m last : ℕ) (d : Module) (ls ms : List Line) → module_lines o m last ls ≡ got d ms → LinesOf m ls ms
unfolding module_lines
module_lines_lem o m last d ls ms h = after_gives _ d ms (line (level_line m last) ls) go h
  where
    go : (s : Shape) (ks : List Line) → line (level_line m last) ls ≡ got s ks → module_rest o m s ks ≡ got d ms → LinesOf m ls ms
    go s ks e k = line_first (level_line m last) s ls ks
        (λ l i w.
        record {
          first = l;
          rest = ks;
          lines = i;
          begins = begun l (level-begins m last l.fields s w);
          goes_on = rest-passes o m s d ks ms k;
        })
        e
      where
        begun : (l : Line) → Begins m l.fields → Of m l
        begun l b = record { left = b.0; begins = b.1 }

-- no line is of two modules

due_once : (k m : ℕ) (fs gs hs : List (List ℕ)) → due k fs ≡ got tt gs → due m fs ≡ got tt hs → k ≡ m
unfolding due due_is
due_once k m [] gs hs e h = clash cc
due_once k m (f ∷ fs) gs hs e h = go (decimal_of f) e h
  where
    same : (v : ℕ) (t u : Bool) → eqb v k ≡ t → eqb v m ≡ u → cond {A = FieldsGot (Unit {0})} t (got tt fs) (no BrokenRule) ≡ got tt gs
        → cond {A = FieldsGot (Unit {0})} u (got tt fs) (no BrokenRule) ≡ got tt hs → k ≡ m
    same v true true i j e h = sym (eqb-true v k i) ∙ eqb-true v m j
    same v true false i j e h = clash cc
    same v false u i j e h = clash cc

    go : (o : Option ℕ) → due_is k o fs ≡ got tt gs → due_is m o fs ≡ got tt hs → k ≡ m
    go none e h = clash cc
    go (some v) e h = same v (eqb v k) (eqb v m) refl refl e h

module_once : (k m : ℕ) (fs gs hs : List (List ℕ)) → module_due k fs ≡ got tt gs → module_due m fs ≡ got tt hs → k ≡ m
unfolding after
module_once k m fs gs hs e h = go (bytes_due (bytes "Module") fs) e h
  where
    go : (g : FieldsGot (Unit {0})) → after g (λ _. due k) ≡ got tt gs → after g (λ _. due m) ≡ got tt hs → k ≡ m
    go (no c) e h = clash cc
    go (got u ks) e h = due_once k m ks gs hs e h

pub of_other : (k m : ℕ) (l : Line) → (k ≡ m → ⊥) → Of k l → Other m l
of_other k m l n o hs h = n (module_once k m l.fields o.left hs o.begins h)

-- a line that begins with another word is of no module
pub word_other : {A : Type 0} (m : ℕ) (w : List ℕ) (k : Unit {0} → Reader A) (a : A) (fs gs : List (List ℕ))
    → same_bytes w (bytes "Module") ≡ false
    → closed (after (bytes_due w fs) k) ≡ Ok a → module_due m fs ≡ got tt gs → ⊥
unfolding closed after bytes_due
word_other m w k a [] gs z h e = clash cc
word_other m w k a (f ∷ fs) gs z h e = go (same_bytes f w) refl h
  where
    go : (t : Bool) → same_bytes f w ≡ t → closed (after (cond {A = FieldsGot (Unit {0})} t (got tt fs) (no WrongForm)) k) ≡ Ok a → ⊥
    go false i h = clash cc
    go true i h =
        let q : same_bytes f (bytes "Module") ≡ false = ap (λ x. same_bytes x (bytes "Module")) (same-bytes_eq f w i) ∙ z in
        let j : after (cond {A = FieldsGot (Unit {0})} false (got tt fs) (no WrongForm)) (λ _. due m) ≡ got tt gs = rw q at e in
        clash cc

pub name_other : (m : ℕ) (l : Line) (a : Name) → whole name_line l.fields ≡ Ok a → Other m l
unfolding name_line same_bytes
name_other m l a h gs e = word_other m (bytes "SocName") _ a l.fields gs refl h e

pub total_other : (m : ℕ) (l : Line) (a : ℕ) → whole total_line l.fields ≡ Ok a → Other m l
unfolding total_line same_bytes
total_other m l a h gs e = word_other m (bytes "TotalModules") _ a l.fields gs refl h e

pub options_other : (m : ℕ) (l : Line) (a : Options) → whole options_line l.fields ≡ Ok a → Other m l
unfolding options_line same_bytes
options_other m l a h gs e = word_other m (bytes "Options") _ a l.fields gs refl h e
