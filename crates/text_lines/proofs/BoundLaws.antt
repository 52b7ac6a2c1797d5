-- Laws of the numbers that lines say: a number of tests is within its limit. Assumes nothing.
use Prim.Native.Nat.{ℕ, ◌≤◌}
use native.Mathlib.Omega.{arith}
use mathlib.Core.Path.{◌≡◌, refl}
use mathlib.Core.Bool.{Bool, true, false, cond}
use mathlib.Core.List.{List, [], ◌∷◌}
use lib.IntN.{ℤ}
use Rattle.std.specs.Prelude.{Ok}
use Rattle.units.proofs.TestLaws.{clash}
use Rattle.fields.specs.Bytes.{bytes}
use Rattle.fields.specs.Readers.{no, got, FieldsGot, Reader, after, give}
use Rattle.fields.proofs.ReaderLaws.{key-between-within}
use Rattle.soc.specs.Limits.{tests_max, position_max}
use Rattle.text_lines.specs.Parts.{key_given, rule, is_next, closed, whole}
use Rattle.text_lines.specs.Kinds.{Position, Tests, module_due, pair_rule, position_part, total_tests, tests_part, second_part, second_line, tests_line}

-- what a line says was read, and nothing is left of it
pub closed-got : {A : Type 0} (g : FieldsGot A) (a : A) → closed g ≡ Ok a → g ≡ got a []
unfolding closed
closed-got (no c) a h = clash cc
closed-got (got b []) a h = cc
closed-got (got b (f ∷ fs)) a h = clash cc

-- where two readings say b, the second one does so behind the first
pub after-says : {A B C : Type 0} (k : A → Reader B) (b : B) → ((a : A) (fs : List (List ℕ)) → whole (k a) fs ≡ Ok b → C)
    → (g : FieldsGot A) → closed (after g k) ≡ Ok b → C
unfolding after closed
after-says k b f (no c) h = clash cc
after-says k b f (got a fs) h = f a fs h

module _ (t : ℕ) where
  pub count-within : (fs : List (List ℕ)) → whole total_tests fs ≡ Ok t → t ≤ tests_max
  unfolding total_tests
  count-within fs h = (key-between-within (bytes "TotalTests") 0 tests_max fs t [] (closed-got _ t h)).1

  pub tests-line-within : (m : ℕ) (fs : List (List ℕ)) → whole (tests_line m) fs ≡ Ok t → t ≤ tests_max
  unfolding tests_line
  tests-line-within m fs h = after-says _ t (λ _ gs. count-within gs) (module_due m fs) h

  -- a line that Ok a position says no number of tests
  position-given : {C : Type 0} (x y : ℤ) (fs : List (List ℕ)) → closed (got (Position x y) fs) ≡ Ok (Tests t) → C
  position-given x y fs h =
      let g : got (Position x y) fs ≡ got (Tests t) [] = closed-got _ _ h in
      clash cc

  position-no-tests : {C : Type 0} (fs : List (List ℕ)) → whole position_part fs ≡ Ok (Tests t) → C
  unfolding position_part
  position-no-tests fs h =
      after-says _ _ (λ x gs. after-says _ _ (λ y hs. after-says _ _ (λ _ is. position-given x y is) (rule (pair_rule x y) hs)) (key_given (bytes "Y") position_max gs))
      (key_given (bytes "X") position_max fs) h

  tests-given : (u : ℕ) (fs : List (List ℕ)) → closed (got (Tests u) fs) ≡ Ok (Tests t) → u ≡ t
  tests-given u fs h = let g : got (Tests u) fs ≡ got (Tests t) [] = closed-got _ _ h in cc

  tests-part-within : (fs : List (List ℕ)) → whole tests_part fs ≡ Ok (Tests t) → t ≤ tests_max
  unfolding tests_part after closed total_tests
  tests-part-within fs h = go (total_tests fs) refl h
    where
      go : (g : FieldsGot ℕ) → total_tests fs ≡ g → closed (after g (λ u. give (Tests u))) ≡ Ok (Tests t) → t ≤ tests_max
      go (no c) e k = clash cc
      go (got u gs) e k = omega (arith, tests-given u gs k, key-between-within (bytes "TotalTests") 0 tests_max fs u gs e)

  second_part-within : (xy : Bool) (fs : List (List ℕ)) → whole (second_part xy) fs ≡ Ok (Tests t) → t ≤ tests_max
  unfolding second_part
  second_part-within false fs h = tests-part-within fs h
  second_part-within true fs h = go (is_next (bytes "X") fs) h
    where
      go : (n : Bool) → closed (cond n (position_part fs) (tests_part fs)) ≡ Ok (Tests t) → t ≤ tests_max
      go true e = position-no-tests fs e
      go false e = tests-part-within fs e

  pub second_line-within : (m : ℕ) (xy : Bool) (fs : List (List ℕ)) → whole (second_line m xy) fs ≡ Ok (Tests t) → t ≤ tests_max
  unfolding second_line
  second_line-within m xy fs h = after-says _ _ (λ _ gs. second_part-within xy gs) (module_due m fs) h
