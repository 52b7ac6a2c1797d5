-- Laws of figures that are not given (document 01, "The SOC text"): "Only X, Y and Power may be -1, which means not given, the same as
-- leaving them out." Assumes nothing.
use Prim.Native.Nat.{ℕ}
use mathlib.Core.Path.{◌≡◌, refl, sym, ap, ◌∙◌}
use mathlib.Core.Bool.{true, false}
use mathlib.Core.List.{List, [], ◌∷◌}
use mathlib.Core.Logic.{inl, inr, ◌↔◌}
use lib.ListN.{drop}
use Rattle.std.specs.Prelude.{Result, Ok, Err}
use Rattle.units.specs.declared.Fault.{Fault}
use Rattle.units.proofs.TestLaws.{clash}
use Rattle.fields.specs.Bytes.{bytes, same_bytes}
use Rattle.fields.specs.Lines.{Line}
use Rattle.fields.specs.Readers.{no, got, FieldsGot, after}
use lib.IntN.{ℤ}
use Rattle.soc.specs.Limits.{power_max}
use Rattle.soc.specs.Rules.{good_power}
use Rattle.soc.specs.Record.{not_given}
use Rattle.soc.specs.declared.record.Test.{Test}
use Rattle.text_lines.specs.Parts.{whole, closed, key_due, or_not_given, rule, is_next}
use Rattle.text_lines.specs.Kinds.{second_part, second_line, position_part, tests_part, total_tests, tests_line, test_line}
use Rattle.text_lines.specs.declared.second.SecondLine.{SecondLine}
use Rattle.text_lines.specs.declared.second.SecondLine.TheVariants.{Position, Tests}
use Rattle.text_lines.specs.LineFields.{given_field, power_fields, test_fields}
use Rattle.text_reader.specs.Lines.{judged, line}
use Rattle.text_reader.specs.Reading.{behind, body}
use Rattle.text.specs.Describes.{PowerPart}
use Rattle.text.specs.LeftOut.{position_out, power_out, position_next}
use Rattle.text.proofs.LineBack.{may_be, word_back, due_back, given_back, good-test, test_back, test_back_out}
use Rattle.text.proofs.PartOnly.{key-due_only}
use Rattle.text.proofs.TestOnly.{TestSays, test_only}

position-says : (m : ℕ) → whole (second_line m true) (position_out m) ≡ Ok (Position not_given not_given)
unfolding second_line second_part position_part is_next rule or_not_given same_bytes after closed
position-says m = simp (word_back, due_back)

-- what the count of tests says as the line behind a module's first
abbrev as_second : Result ℕ Fault → Result SecondLine Fault
as_second (Err c) = Err c
as_second (Ok t) = Ok (Tests t)

-- where no `X` comes next, that line is the one behind a position
second_tests : (m : ℕ) (fs : List (List ℕ)) → is_next (bytes "X") (drop 2 fs) ≡ false
    → whole (second_line m true) fs ≡ as_second (whole (tests_line m) fs)
unfolding second_line tests_line second_part tests_part after closed
second_tests m fs h = go (key_due (bytes "Module") m fs) refl
  where
    counted : (g : FieldsGot ℕ) → closed (after g (λ t. got (Tests t))) ≡ as_second (closed g)
    counted (no c) = refl
    counted (got t []) = refl
    counted (got t (f ∷ fs)) = refl

    go : (g : FieldsGot (Unit {0})) → key_due (bytes "Module") m fs ≡ g
        → closed (after g (λ _. second_part true)) ≡ as_second (closed (after g (λ _. total_tests)))
    go (no c) e = refl
    go (got u gs) e =
        let f = key-due_only (bytes "Module") fs gs m u e in
        let d : drop 2 fs ≡ gs = ap (drop 2) f in
        let i : is_next (bytes "X") gs ≡ false = sym (ap (is_next (bytes "X")) d) ∙ h in
        rw i (counted (total_tests gs))

-- the count of tests, with no line before it for a position that is not given
behind_out : (m : ℕ) (ls : List Line) → position_next ls ≡ false → behind m (Position not_given not_given) ls ≡ body m true ls
unfolding behind body line position_next after judged
behind_out m [] h = refl
behind_out m (l ∷ ls) h = rw (second_tests m l.fields h) (go (whole (tests_line m) l.fields))
  where
    go : (w : Result ℕ Fault)
        → after (judged l.number ls w) (λ t. got (record { x = not_given; y = not_given; tests = t }))
        ≡ after (judged l.number ls (as_second w)) (behind m)
    go (Err c) = refl
    go (Ok t) = refl

-- a line that gives X and Y as -1 is read as none, where the next line is not such a line too
pub position-left_out : (m : ℕ) (l : Line) (ls : List Line) → l.fields ≡ position_out m → position_next ls ≡ false
    → body m true (l ∷ ls) ≡ body m true ls
unfolding body line judged after
position-left_out m l ls e h = rw (e, position-says m) (behind_out m ls h)

-- test lines with the same fields have the same figures, up to what stands behind them
same-front : (m i : ℕ) (t u : Test) (xs ys zs : List (List ℕ)) → test_fields m i t xs ≡ test_fields m i u ys
    → (xs ≡ ys) × (test_fields m i t zs ≡ test_fields m i u zs)
unfolding test_fields
same-front m i t u xs ys zs e = (cc, cc)

-- a figure that is written as -1 is not given
minus_out : (z : ℤ) → may_be power_max z ≡ true → bytes "-1" ≡ given_field z → z ≡ not_given
unfolding or_not_given same_bytes
minus_out z h e =
    let p : or_not_given power_max (bytes "-1" ∷ []) ≡ got not_given [] = refl in
    let q : or_not_given power_max (bytes "-1" ∷ []) ≡ got z [] = ap (λ f. or_not_given power_max (f ∷ [])) e ∙ given_back power_max z h [] in
    let r : got z [] ≡ got not_given [] = sym q ∙ p in
    cc

module _ (m i : ℕ) (t u : Test) where
  power_out_lem : TestSays m i true (test_fields m i t power_out) u → u.power ≡ not_given
  unfolding power_fields good_power
  power_out_lem s = go s.behind (same-front m i t u power_out s.last [] s.fields).0
    where
      go : PowerPart true u s.last → power_out ≡ s.last → u.power ≡ not_given
      go (inl (o, y, e)) k = minus_out u.power (good-test m true u s.good).3 cc
      go (inr (e, n)) k = e

  power-none : TestSays m i true (test_fields m i t []) u → u.power ≡ not_given
  unfolding power_fields
  power-none s = go s.behind (same-front m i t u [] s.last [] s.fields).0
    where
      go : PowerPart true u s.last → [] ≡ s.last → u.power ≡ not_given
      go (inl (o, y, e)) k = clash cc
      go (inr (e, n)) k = e

  -- a test that gives Power as -1 is read as one that leaves it out
  pub power-left_out : (whole (test_line m i true) (test_fields m i t power_out) ≡ Ok u)
      ↔ (whole (test_line m i true) (test_fields m i t []) ≡ Ok u)
  unfolding power_fields given_field
  power-left_out = (
    λ h.
        let s = test_only m i true (test_fields m i t power_out) u h in
        rw (same-front m i t u power_out s.last [] s.fields).1 (test_back_out m i true u s.good (power_out_lem s)),
    λ h.
        let s = test_only m i true (test_fields m i t []) u h in
        let p : power_fields u ≡ power_out = ap (λ z. bytes "Power" ∷ given_field z ∷ []) (power-none s) in
        rw ((same-front m i t u [] s.last power_out s.fields).1, ← p) (test_back m i true u s.good),
  )
