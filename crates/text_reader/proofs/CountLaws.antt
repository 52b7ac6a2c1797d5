-- Laws of the counts of a text: a number of modules and a number of tests that were read are within their limits. Assumes nothing.
use Prim.Native.Nat.{ℕ, ◌≤◌}
use mathlib.Core.Path.{◌≡◌, refl}
use mathlib.Core.Bool.{Bool}
use mathlib.Core.List.{List, [], ◌∷◌}
use Rattle.units.proofs.TestLaws.{clash}
use Rattle.fields.specs.Lines.{Line}
use Rattle.fields.specs.Readers.{Got, no, got, Reads, Reader, after}
use Rattle.soc.specs.Limits.{modules_max, tests_max}
use Rattle.soc.specs.Record.{not_given}
use Rattle.text_lines.specs.Kinds.{total_line, second_line, tests_line}
use Rattle.text_lines.specs.declared.second.SecondLine.{SecondLine}
use Rattle.text_lines.specs.declared.second.SecondLine.TheVariants.{Tests, Position}
use Rattle.std.specs.Prelude.{Result, Ok, Err}
use Rattle.units.specs.declared.Fault.{Fault}
use Rattle.text_lines.specs.Parts.{whole}
use Rattle.text_lines.proofs.BoundLaws.{tests-line-within, second_line-within}
use Rattle.text_lines.proofs.HeadLaws.{total-within}
use Rattle.text_reader.specs.Lines.{LinesRead, judged, line}
use Rattle.text_reader.specs.Reading.{behind, body}
use Rattle.text_reader.specs.declared.block.Body.{Body}

-- a value of a line is what the line says
pub line-got : {A C : Type 0} (r : Reader A) (a : A) → ((fs : List (List ℕ)) → whole r fs ≡ Ok a → C) → (ls ms : List Line) → line r ls ≡ got a ms → C
unfolding line judged
line-got r a f [] ms h = clash cc
line-got {A = A} {C = C} r a f (l ∷ ls) ms h = go (whole r l.fields) refl h
  where
    go : (w : Result A Fault) → whole r l.fields ≡ w → judged l.number ls w ≡ got a ms → C
    go (Err c) e k = clash cc
    go (Ok b) e k = f l.fields (cc)

-- a value of two readings is of the second, behind a value of the first
pub after_gives : {E S A B C : Type 0} (k : A → Reads E S B) (b : B) (t : S) → (g : Got E S A) → ((a : A) (s : S) → g ≡ got a s → k a s ≡ got b t → C) → after g k ≡ got b t → C
unfolding after
after_gives k b t (no c) f h = clash cc
after_gives k b t (got a s) f h = f a s refl h

pub total-count : (n : ℕ) (ls ms : List Line) → line total_line ls ≡ got n ms → n ≤ modules_max
total-count n ls ms h = line-got total_line n (λ fs e. (total-within fs n e).1) ls ms h

behind-count : (m : ℕ) (xy : Bool) (b : Body) (ls ms ns : List Line) (s : SecondLine) → line (second_line m xy) ls ≡ got s ms → behind m s ms ≡ got b ns → b.tests ≤ tests_max
unfolding behind
behind-count m xy b ls ms ns (Tests t) e h =
    let k : t ≤ tests_max = line-got (second_line m xy) (Tests t) (second_line-within t m xy) ls ms e in
    let q : record { x = not_given; y = not_given; tests = t } ≡ b = cc in
    rw (← q) k
behind-count m xy b ls ms ns (Position x y) e h = after_gives _ b ns (line (tests_line m) ms) go h
  where
    go : (t : ℕ) (ks : List Line) → line (tests_line m) ms ≡ got t ks → ◌≡◌ {A = LinesRead Body} (got (record { x = x; y = y; tests = t }) ks) (got b ns) → b.tests ≤ tests_max
    go t ks i j =
        let k : t ≤ tests_max = line-got (tests_line m) t (tests-line-within t m) ms ks i in
        let q : record { x = x; y = y; tests = t } ≡ b = cc in
        rw (← q) k

pub body-count : (m : ℕ) (xy : Bool) (b : Body) (ls ns : List Line) → body m xy ls ≡ got b ns → b.tests ≤ tests_max
unfolding body
body-count m xy b ls ns h = after_gives (behind m) b ns (line (second_line m xy) ls) (λ s ms e k. behind-count m xy b ls ms ns s e k) h
