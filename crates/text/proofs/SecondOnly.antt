-- Laws of the lines behind a module's first that are read (document 01, "The SOC text": `X` and `Y`, `TotalTests`): what a reading that
-- gives figures says of the fields and of the figures. Assumes nothing.
use Prim.Native.Nat.{ℕ, ◌≤◌}
use mathlib.Core.Path.{◌≡◌, refl}
use mathlib.Core.Bool.{Bool, true, false, cond, not, ◌&&◌, ◌||◌, false≢true}
use mathlib.Core.List.{List, [], ◌∷◌}
use mathlib.Core.Logic.{◌⊎◌, inl, inr}
use native.Mathlib.Omega.{arith}
use lib.IntN.{ℤ}
use Rattle.std.specs.Prelude.{Ok}
use Rattle.fields.specs.Bytes.{bytes}
use Rattle.fields.specs.Readers.{got, FieldsGot}
use Rattle.fields.specs.WrittenLines.{decimal}
use Rattle.units.proofs.TestLaws.{clash}
use Rattle.soc.specs.Limits.{tests_max, position_max}
use Rattle.soc.specs.Rules.{is_not_given, up_to, good_position}
use Rattle.text_lines.specs.Parts.{whole, is_next}
use Rattle.text_lines.specs.Kinds.{pair_rule, position_part, total_tests, tests_part, second_part, second_line, tests_line}
use Rattle.text_lines.specs.declared.second.SecondLine.{SecondLine}
use Rattle.text_lines.specs.declared.second.SecondLine.TheVariants.{Position, Tests}
use Rattle.text_lines.specs.LineFields.{given_field, module_fields}
use Rattle.text.proofs.LineBack.{may_be}
use Rattle.text.proofs.PartOnly.{closed_only, after_only, rule_only, keyed_only, key-due_only, key-given_only}

-- X and Y

neither_or_both : (a b u v : Bool) → (a || u) ≡ true → (b || v) ≡ true → cond a b (not b) ≡ true → (a && b || u && v) ≡ true
neither_or_both true true u v p q h = refl
neither_or_both true false u v p q h = absurd (false≢true h)
neither_or_both false true u v p q h = absurd (false≢true h)
neither_or_both false false u v p q h = simp (p, q)

position-good : (x y : ℤ) → may_be position_max x ≡ true → may_be position_max y ≡ true → pair_rule x y ≡ true → good_position true x y ≡ true
unfolding good_position
position-good x y p q h = neither_or_both (is_not_given x) (is_not_given y) (up_to position_max x) (up_to position_max y) p q h

record PositionPart (fs : List (List ℕ)) (r : SecondLine) : Type 0 where
  x : ℤ
  y : ℤ
  is : r ≡ Position x y
  fields : fs ≡ bytes "X" ∷ given_field x ∷ bytes "Y" ∷ given_field y ∷ []
  good : good_position true x y ≡ true

position-part : (fs : List (List ℕ)) (r : SecondLine) → position_part fs ≡ got r [] → PositionPart fs r
unfolding position_part
position-part fs r h =
    let a = after_only h in
    let b = after_only a.second in
    let c = after_only b.second in
    let x = key-given_only (bytes "X") fs a.left position_max a.value a.first in
    let y = key-given_only (bytes "Y") a.left b.left position_max b.value b.first in
    let p = rule_only (pair_rule a.value b.value) b.left c.left c.value c.first in
    record { x = a.value; y = b.value; is = cc; fields = cc; good = position-good a.value b.value x.may y.may p.0 }

record TestsPart (fs : List (List ℕ)) (r : SecondLine) : Type 0 where
  count : ℕ
  is : r ≡ Tests count
  fields : fs ≡ bytes "TotalTests" ∷ decimal count ∷ []
  most : count ≤ tests_max

tests-part : (fs : List (List ℕ)) (r : SecondLine) → tests_part fs ≡ got r [] → TestsPart fs r
unfolding tests_part total_tests
tests-part fs r h =
    let a = after_only h in
    let k = keyed_only (bytes "TotalTests") fs a.left 0 tests_max a.value a.first in
    record { count = a.value; is = cc; fields = cc; most = k.most }

-- with XY 1 a position, or else the count of tests
second_part_lem : (xy : Bool) (fs : List (List ℕ)) (r : SecondLine) → second_part xy fs ≡ got r [] → ((xy ≡ true) × PositionPart fs r) ⊎ TestsPart fs r
unfolding second_part
second_part_lem false fs r h = inr (tests-part fs r h)
second_part_lem true fs r h = go (is_next (bytes "X") fs) h
  where
    go : (t : Bool) → cond {A = FieldsGot SecondLine} t (position_part fs) (tests_part fs) ≡ got r [] → (◌≡◌ {A = Bool} true true × PositionPart fs r) ⊎ TestsPart fs r
    go true h = inl (refl, position-part fs r h)
    go false h = inr (tests-part fs r h)

-- the line behind it

pub record PositionSays (m : ℕ) (xy : Bool) (fs : List (List ℕ)) (x y : ℤ) : Type 0 where
  pub option : xy ≡ true
  pub fields : fs ≡ module_fields m (bytes "X" ∷ given_field x ∷ bytes "Y" ∷ given_field y ∷ [])
  pub good : good_position true x y ≡ true

pub record TestsSay (m : ℕ) (fs : List (List ℕ)) (t : ℕ) : Type 0 where
  pub fields : fs ≡ module_fields m (bytes "TotalTests" ∷ decimal t ∷ [])
  pub most : t ≤ tests_max

pub second_only_position : (m : ℕ) (xy : Bool) (fs : List (List ℕ)) (x y : ℤ) → whole (second_line m xy) fs ≡ Ok (Position x y) → PositionSays m xy fs x y
unfolding second_line
second_only_position m xy fs x y h =
    let a = after_only (closed_only (second_line m xy fs) (Position x y) h) in
    go a.left (key-due_only (bytes "Module") fs a.left m a.value a.first) (second_part_lem xy a.left (Position x y) a.second)
  where
    go : (gs : List (List ℕ)) → fs ≡ module_fields m gs → ((xy ≡ true) × PositionPart gs (Position x y)) ⊎ TestsPart gs (Position x y) → PositionSays m xy fs x y
    go gs e (inl (o, p)) =
        let i : p.x ≡ x = cc in
        let j : p.y ≡ y = cc in
        record { option = o; fields = cc; good = rw (i, j) at p.good }
    go gs e (inr p) = let q = p.is in clash cc

pub second_only_tests : (m : ℕ) (xy : Bool) (fs : List (List ℕ)) (t : ℕ) → whole (second_line m xy) fs ≡ Ok (Tests t) → TestsSay m fs t
unfolding second_line
second_only_tests m xy fs t h =
    let a = after_only (closed_only (second_line m xy fs) (Tests t) h) in
    go a.left (key-due_only (bytes "Module") fs a.left m a.value a.first) (second_part_lem xy a.left (Tests t) a.second)
  where
    go : (gs : List (List ℕ)) → fs ≡ module_fields m gs → ((xy ≡ true) × PositionPart gs (Tests t)) ⊎ TestsPart gs (Tests t) → TestsSay m fs t
    go gs e (inl (o, p)) = let q = p.is in clash cc
    go gs e (inr p) =
        let i : p.count ≡ t = cc in
        record { fields = cc; most = omega (arith, p.most) }

pub tests_only : (m : ℕ) (fs : List (List ℕ)) (t : ℕ) → whole (tests_line m) fs ≡ Ok t → TestsSay m fs t
unfolding tests_line total_tests
tests_only m fs t h =
    let a = after_only (closed_only (tests_line m fs) t h) in
    let d = key-due_only (bytes "Module") fs a.left m a.value a.first in
    let k = keyed_only (bytes "TotalTests") a.left [] 0 tests_max t a.second in
    record { fields = cc; most = k.most }
