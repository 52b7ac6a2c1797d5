-- Laws of lines that are read back: the fields of a line with a good record's figures are read as those figures. One law for each part of a
-- line, and then one for each kind of line. Assumes nothing.
use Prim.Native.Nat.{ℕ, suc, ◌-◌, ◌≤◌}
use mathlib.Core.Path.{◌≡◌, refl, sym, ap, ◌∙◌}
use mathlib.Core.Bool.{Bool, true, false, cond, not, ◌&&◌, ◌||◌, false≢true, true≢false, or-false}
use mathlib.Core.List.{List, [], ◌∷◌, map}
use mathlib.Core.Logic.{inl, inr}
use native.Mathlib.Omega.{arith}
use borrow.Author.Tests.{eqb-true, eq-eqb, leb-true, le-leb}
use lib.Dec.{leb}
use lib.IntN.{ℤ, pos, negsuc}
use lib.Seq.{length-take-le}
use lib.ListN.{length, take, drop, replicate, length-take, length-drop, take-append-drop}
use Rattle.std.specs.Prelude.{Ok}
use Rattle.units.specs.declared.FlipFlops.{FlipFlops}
use Rattle.fields.specs.Bytes.{bytes, same_bytes}
use Rattle.fields.specs.Names.{name_max, is_name}
use Rattle.fields.specs.Readers.{got, after, each, bytes_due, within, between}
use Rattle.fields.specs.WrittenLines.{decimal}
use Rattle.fields.proofs.BackLaws.{same-bytes_refl, same-bytes_eq}
use Rattle.units.proofs.TestLaws.{and_both, within_true}
use Rattle.fields.proofs.WrittenLaws.{all_digits, decimal_back, decimal_plain}
use Rattle.soc.specs.Limits.{modules_max, level_max, terminals_max, chains_max, length_max, tests_max, patterns_max, position_max, power_max}
use Rattle.units.specs.Places.{padded, all_of, filled}
use Rattle.soc.specs.Record.{name_of, chains_of, flip_flops, not_given}
use Rattle.soc.specs.Rules.{none, is_not_given, up_to, good_length, spare_length, good_power, good_position, pins_rule, good_test, level_rule, good_terminals, good_chains, good_name}
use Rattle.soc.specs.declared.record.Test.{Test}
use Rattle.soc.specs.declared.record.Module.{Module}
use Rattle.soc.specs.declared.record.Soc.{Soc}
use Rattle.text_lines.specs.Parts.{whole, closed, due, due_is, flag, given_is, or_not_given, name, rule, pins, is_next}
use Rattle.text_lines.specs.Kinds.{name_part, name_line, total_line, options_part, options_line, level, terminals, chain_length, lengths_part, chains_part, level_line, pair_rule, position_part, total_tests, tests_part, second_part, second_line, tests_line, power_part, uses, test_due, patterns_part, test_line}
use Rattle.text_lines.specs.declared.second.SecondLine.TheVariants.{Position, Tests}
use Rattle.text_lines.specs.LineFields.{flag_field, given_field, length_field, name_fields, total_fields, options_fields, level_fields, position_fields, tests_fields, power_fields, test_fields}
use Rattle.text.specs.Describes.{Sayable}

-- the parts of a line

pub word_back : (w : List ℕ) (fs : List (List ℕ)) → bytes_due w (w ∷ fs) ≡ got tt fs
unfolding bytes_due
word_back w fs = simp (same-bytes_refl w)

pub between_back : (low high n : ℕ) → low ≤ n → n ≤ high → (fs : List (List ℕ)) → between low high (decimal n ∷ fs) ≡ got n fs
unfolding between within
between_back low high n h k fs = simp (decimal_back n, within_true low n high h k)

pub up_to_back : (high n : ℕ) → leb n high ≡ true → (fs : List (List ℕ)) → between 0 high (decimal n ∷ fs) ≡ got n fs
up_to_back high n h fs = between_back 0 high n (omega arith) (leb-true n high h) fs

pub due_back : (n : ℕ) (fs : List (List ℕ)) → due n (decimal n ∷ fs) ≡ got tt fs
unfolding due due_is
due_back n fs = simp (decimal_back n, eq-eqb n n refl)

pub flag_back : (b : Bool) (fs : List (List ℕ)) → flag (flag_field b ∷ fs) ≡ got b fs
unfolding flag flag_field same_bytes
flag_back false fs = refl
flag_back true fs = refl

pub named_back : (f : List ℕ) → is_name f ≡ true → (fs : List (List ℕ)) → name (f ∷ fs) ≡ got f fs
unfolding name
named_back f h fs = rw h

-- a figure that is not given
pub not_given_lem : (z : ℤ) → is_not_given z ≡ true → z ≡ not_given
not_given_lem (pos n) h = absurd (false≢true h)
not_given_lem (negsuc n) h = ap negsuc (eqb-true n 0 h)

-- digits are not what says so
not_minus : (l : List ℕ) → all_digits l ≡ true → same_bytes l (bytes "-1") ≡ false
unfolding all_digits
not_minus l h = go (same_bytes l (bytes "-1")) refl
  where
    go : (t : Bool) → same_bytes l (bytes "-1") ≡ t → t ≡ false
    go true e = absurd (false≢true (ap all_digits (sym (same-bytes_eq l (bytes "-1") e)) ∙ h))
    go false e = refl

-- not given, or from 0 to high
abbrev pub may_be : ℕ → ℤ → Bool
may_be high z = is_not_given z || up_to high z

-- such a figure has a form in a text
pub may_say : (high : ℕ) (z : ℤ) → may_be high z ≡ true → Sayable z
may_say high (pos n) h = inl (n, refl)
may_say high (negsuc n) h = inr (not_given_lem (negsuc n) (simp or-false at h))

pub given_back : (high : ℕ) (z : ℤ) → may_be high z ≡ true → (fs : List (List ℕ)) → or_not_given high (given_field z ∷ fs) ≡ got z fs
unfolding or_not_given given_is given_field same_bytes
given_back high (pos n) h fs = simp (not_minus (decimal n) (decimal_plain n), decimal_back n, h)
given_back high (negsuc n) h fs = ap (λ k. got (negsuc k) fs) (sym (eqb-true n 0 (simp or-false at h)))

-- what is given is not "not given"
given_not : (high : ℕ) (z : ℤ) → up_to high z ≡ true → is_not_given z ≡ false
given_not high (pos n) h = refl
given_not high (negsuc n) h = absurd (false≢true h)

both_or_neither : (a b u v : Bool) → (u ≡ true → a ≡ false) → (v ≡ true → b ≡ false) → (a && b || u && v) ≡ true → ((a || u) ≡ true) × ((b || v) ≡ true) × (cond a b (not b) ≡ true)
both_or_neither true true u v p q h = (refl, refl, refl)
both_or_neither true false u v p q h = absurd (true≢false (p (and_both u v h).0))
both_or_neither false true u v p q h = absurd (true≢false (q (and_both u v h).1))
both_or_neither false false u v p q h = let k = and_both u v h in (k.0, k.1, refl)

pub good-position : (x y : ℤ) → good_position true x y ≡ true → (may_be position_max x ≡ true) × (may_be position_max y ≡ true) × (pair_rule x y ≡ true)
unfolding good_position
good-position x y h = both_or_neither (is_not_given x) (is_not_given y) (up_to position_max x) (up_to position_max y) (given_not position_max x) (given_not position_max y) h

pub position-says : (x y : ℤ) → good_position true x y ≡ true → Sayable x × Sayable y
position-says x y h = let p = good-position x y h in (may_say position_max x p.0, may_say position_max y p.1)

pub length_back : (f : FlipFlops) → good_length f ≡ true → (fs : List (List ℕ)) → chain_length (length_field f ∷ fs) ≡ got f fs
unfolding chain_length length_field after
length_back f h fs =
    let p = and_both (leb 1 f.0) (leb f.0 length_max) h in
    rw (between_back 1 length_max f.0 (leb-true 1 f.0 p.0) (leb-true f.0 length_max p.1) fs)

pub lengths_back : (ls : List FlipFlops) (n i : ℕ) → length ls ≡ n → all_of good_length ls ≡ true → each n (λ _. chain_length) i (map length_field ls) ≡ got ls []
unfolding each all_of after
lengths_back [] n i e h = rw (sym e)
lengths_back (l ∷ ls) n i e h =
    let p = and_both (good_length l) (all_of good_length ls) h in
    rw (sym e, length_back l p.0 (map length_field ls), lengths_back ls (length ls) (suc i) refl p.1)

-- spare places are those that `padded` makes
pub all-spare : {A : Type 0} (p : A → Bool) (z : A) → ((x : A) → p x ≡ true → x ≡ z) → (l : List A) → all_of p l ≡ true → l ≡ replicate (length l) z
unfolding all_of
all-spare p z s [] h = refl
all-spare p z s (x ∷ l) h =
    let q = and_both (p x) (all_of p l) h in
    let a : x ≡ z = s x q.0 in
    let b : l ≡ replicate (length l) z = all-spare p z s l q.1 in
    cc

pub padded_back : {A : Type 0} (p : A → Bool) (z : A) → ((x : A) → p x ≡ true → x ≡ z) → (n i : ℕ) (l : List A) → length l ≡ n → i ≤ n → all_of p (drop i l) ≡ true → padded n z (take i l) ≡ l
unfolding padded
padded_back p z s n i l e h g =
    let m : n - length (take i l) ≡ length (drop i l) = simp (length-take, length-drop) (omega arith) in
    rw (m, ← all-spare p z s (drop i l) g) (take-append-drop i l)

pub spare-length : (f : FlipFlops) → spare_length f ≡ true → f ≡ flip_flops 0
spare-length f h = ap flip_flops (eqb-true f.0 0 h)

-- the lines

pub name_back : (s : Soc) → length s.name ≡ name_max → good_name s ≡ true → whole name_line (name_fields s) ≡ Ok (record { len = s.name_len; bytes = s.name })
unfolding name_line name_part name_fields good_name after closed
name_back s e h =
    let p = and_both (leb s.name_len name_max) (is_name (name_of s) && all_of none (drop s.name_len s.name)) h in
    let q = and_both (is_name (name_of s)) (all_of none (drop s.name_len s.name)) p.1 in
    let k : s.name_len ≤ name_max = leb-true s.name_len name_max p.0 in
    let n : length (name_of s) ≡ s.name_len = length-take-le s.name_len s.name (omega arith) in
    let r : padded name_max 0 (name_of s) ≡ s.name = padded_back none 0 (λ x. eqb-true x 0) name_max s.name_len s.name e k q.1 in
    simp (word_back, named_back (name_of s) q.0, n, r)

pub total_back : (s : Soc) → 1 ≤ s.module_count → s.module_count ≤ modules_max → whole total_line (total_fields s) ≡ Ok s.module_count
unfolding total_line total_fields after closed
total_back s h k = simp (word_back, between_back 1 modules_max s.module_count h k)

pub options_back : (s : Soc) → whole options_line (options_fields s) ≡ Ok (record { power = s.power; xy = s.xy })
unfolding options_line options_part options_fields after closed
options_back s = simp (word_back, flag_back)

pub level_back : (m last : ℕ) (d : Module) → length d.chains ≡ chains_max → leb d.level level_max ≡ true → level_rule m last d.level ≡ true → good_terminals d ≡ true → good_chains d ≡ true
    → whole (level_line m last) (level_fields m d)
    ≡ Ok (record {
      level = d.level;
      terminals = record { inputs = d.inputs; outputs = d.outputs; bidirs = d.bidirs };
      chains = record { count = d.chain_count; lengths = d.chains };
    })
unfolding level_line level rule terminals chains_part lengths_part level_fields good_terminals good_chains after closed
level_back m last d e v l t h =
    let a = and_both (leb d.inputs terminals_max) (leb d.outputs terminals_max && leb d.bidirs terminals_max) t in
    let b = and_both (leb d.outputs terminals_max) (leb d.bidirs terminals_max) a.1 in
    let p = and_both (leb d.chain_count chains_max) (filled d.chain_count good_length spare_length d.chains) h in
    let q = and_both (all_of good_length (chains_of d)) (all_of spare_length (drop d.chain_count d.chains)) p.1 in
    let k : d.chain_count ≤ chains_max = leb-true d.chain_count chains_max p.0 in
    let n : length (chains_of d) ≡ d.chain_count = length-take-le d.chain_count d.chains (omega arith) in
    let r : padded chains_max (flip_flops 0) (chains_of d) ≡ d.chains =
    padded_back spare_length (flip_flops 0) spare-length chains_max d.chain_count d.chains e k q.1 in
    simp (
      word_back,
      due_back,
      up_to_back level_max d.level v,
      l,
      up_to_back terminals_max d.inputs a.0,
      up_to_back terminals_max d.outputs b.0,
      up_to_back terminals_max d.bidirs b.1,
      up_to_back chains_max d.chain_count p.0,
      lengths_back (chains_of d) d.chain_count 0 n q.0,
      r,
    )

pub position_back : (m : ℕ) (d : Module) → good_position true d.x d.y ≡ true → whole (second_line m true) (position_fields m d) ≡ Ok (Position d.x d.y)
unfolding second_line second_part position_part is_next rule position_fields same_bytes after closed
position_back m d h =
    let p = good-position d.x d.y h in
    simp (word_back, due_back, given_back position_max d.x p.0, given_back position_max d.y p.1, p.2)

pub tests_back : (m : ℕ) (d : Module) → d.test_count ≤ tests_max → whole (tests_line m) (tests_fields m d) ≡ Ok d.test_count
unfolding tests_line total_tests tests_fields after closed
tests_back m d h = simp (word_back, due_back, up_to_back tests_max d.test_count (le-leb d.test_count tests_max h))

second_tests : (xy : Bool) (fs : List (List ℕ)) → second_part xy (bytes "TotalTests" ∷ fs) ≡ tests_part (bytes "TotalTests" ∷ fs)
unfolding second_part is_next same_bytes
second_tests false fs = refl
second_tests true fs = refl

pub second_back : (m : ℕ) (xy : Bool) (d : Module) → d.test_count ≤ tests_max → whole (second_line m xy) (tests_fields m d) ≡ Ok (Tests d.test_count)
unfolding second_line tests_part total_tests tests_fields after closed
second_back m xy d h = simp (word_back, due_back, second_tests, up_to_back tests_max d.test_count (le-leb d.test_count tests_max h))

pub good-test : (m : ℕ) (power : Bool) (t : Test) → good_test m power t ≡ true
    → (pins_rule m t.tam_use ≡ true) × (1 ≤ t.patterns) × (t.patterns ≤ patterns_max) × (good_power power t.power ≡ true)
unfolding good_test
good-test m power t h =
    let r = and_both (pins_rule m t.tam_use) (leb 1 t.patterns && (leb t.patterns patterns_max && good_power power t.power)) h in
    let p = and_both (leb 1 t.patterns) (leb t.patterns patterns_max && good_power power t.power) r.1 in
    let q = and_both (leb t.patterns patterns_max) (good_power power t.power) p.1 in
    (r.0, leb-true 1 t.patterns p.0, leb-true t.patterns patterns_max q.0, q.1)

pub power-says : (m : ℕ) (t : Test) → good_test m true t ≡ true → Sayable t.power
unfolding good_power
power-says m t h = may_say power_max t.power (good-test m true t h).3

-- what a test line's power field, or its end, says of it
test-power : (m i : ℕ) (power : Bool) (t : Test) (ps : List (List ℕ)) → good_test m power t ≡ true → power_part power ps ≡ got t.power [] → whole (test_line m i power) (test_fields m i t ps) ≡ Ok t
unfolding test_line test_due uses pins patterns_part test_fields after closed
test-power m i power t ps h e =
    let g = good-test m power t h in
    simp (word_back, due_back, flag_back, g.0, between_back 1 patterns_max t.patterns g.1 g.2, e)

power_out_lem : (power : Bool) → power_part power [] ≡ got not_given []
unfolding power_part
power_out_lem false = refl
power_out_lem true = refl

pub test_back_out : (m i : ℕ) (power : Bool) (t : Test) → good_test m power t ≡ true → t.power ≡ not_given → whole (test_line m i power) (test_fields m i t []) ≡ Ok t
test_back_out m i power t h e = test-power m i power t [] h (power_out_lem power ∙ ap (λ w. got w []) (sym e))

pub test_back : (m i : ℕ) (power : Bool) (t : Test) → good_test m power t ≡ true → whole (test_line m i power) (test_fields m i t (cond power (power_fields t) [])) ≡ Ok t
unfolding power_part power_fields good_power after
test_back m i false t h = test_back_out m i false t h (not_given_lem t.power (simp or-false at (good-test m false t h).3))
test_back m i true t h =
    test-power m i true t (power_fields t) h (simp (word_back, given_back power_max t.power (good-test m true t h).3))
