-- Laws of the written form: its lines describe the record, their fields can stand in a text, and the text has these lines and no byte that a
-- text may not have. Assumes nothing.
use Prim.Native.Nat.{ℕ, suc}
use mathlib.Core.Path.{◌≡◌, refl, ap, ◌∙◌}
use mathlib.Core.Bool.{Bool, true, false, cond, not, ◌&&◌, or-false, false≢true}
use mathlib.Core.List.{List, [], ◌∷◌, ◌++◌, map}
use mathlib.Core.Logic.{inl, inr}
use native.Mathlib.Omega.{arith}
use lib.Dec.{leb}
use lib.IntN.{ℤ, pos, negsuc}
use lib.ListN.{drop}
use Rattle.std.specs.Prelude.{None}
use Rattle.units.specs.declared.FlipFlops.{FlipFlops}
use Rattle.fields.specs.Bytes.{bad_byte}
use Rattle.fields.specs.Fields.{blank}
use Rattle.fields.specs.Lines.{lines_of, numbered, lines_from}
use Rattle.fields.specs.Names.{name_max, is_name}
use Rattle.fields.specs.Numbers.{more}
use Rattle.fields.specs.WrittenLines.{decimal, joined, written_lines}
use Rattle.fields.proofs.FormLaws.{printable, printables, bad_written, numbered-written, joined_printable, decimal_printable, name_printable}
use Rattle.units.proofs.TestLaws.{and_both}
use Rattle.fields.proofs.WrittenLaws.{no_gap, plain_field, plain_fields, decimal_field, name_field}
use Rattle.units.specs.Places.{all_of}
use Rattle.soc.specs.Record.{name_of, modules_of, tests_of}
use Rattle.soc.specs.Rules.{none, good_power, good_position, good_test, good_module, good_modules, good_name, good_soc}
use Rattle.soc.specs.declared.record.Test.{Test}
use Rattle.soc.specs.declared.record.Module.{Module}
use Rattle.soc.specs.declared.record.Soc.{Soc}
use Rattle.text_lines.specs.LineFields.{flag_field, given_field, length_field, name_fields, total_fields, options_fields, level_fields, position_fields, tests_fields, power_fields, test_fields}
use Rattle.text.proofs.LineBack.{not_given_lem, good-test, power-says, position-says}
use Rattle.text.specs.Describes.{PowerPart, TestLines, PositionPart, ModuleLines, ModulesLines, Describes, fields_in, field_lines}
use Rattle.text_writer.specs.WrittenSoc.{test_lines, position_lines, module_lines_of, module_lines_from, soc_lines, written_soc}
use Rattle.text.proofs.SparePlaces.{good-soc, good-spare}
use Rattle.soc.proofs.GoodSocLaws.{module_figures, soc-figures}

-- the lines of the written form describe the record

power_described : (m : ℕ) (power : Bool) (t : Test) → good_test m power t ≡ true → PowerPart power t (cond power (power_fields t) [])
unfolding good_power
power_described m false t h = inr (not_given_lem t.power (simp or-false at (good-test m false t h).3), refl)
power_described m true t h = inl (refl, power-says m t h, refl)

pub tests_described : (power : Bool) (m i : ℕ) (ts : List Test) → all_of (good_test m power) ts ≡ true → TestLines power m i ts (test_lines power m i ts)
unfolding test_lines all_of
tests_described power m i [] h = TestLines.none
tests_described power m i (t ∷ ts) h =
    let q = and_both (good_test m power t) (all_of (good_test m power) ts) h in
    TestLines.more (cond power (power_fields t) [], power_described m power t q.0, refl) (tests_described power m (suc i) ts q.1)

pub position_described : (xy : Bool) (m : ℕ) (d : Module) → good_position xy d.x d.y ≡ true → PositionPart xy m d (position_lines xy m d)
unfolding position_lines good_position
position_described false m d h =
    let q = and_both _ _ (simp or-false at h) in
    inr (not_given_lem d.x q.0, not_given_lem d.y q.1, refl)
position_described true m d h = let p = position-says d.x d.y h in inl (refl, p.0, p.1, refl)

module_described : (power xy : Bool) (m last : ℕ) (d : Module) → good_module power xy m last d ≡ true → ModuleLines power xy m d (module_lines_of power xy m d)
unfolding module_lines_of
module_described power xy m last d h =
    let g = module_figures power xy m last d h in
    record {
      position = position_lines xy m d;
      tests = test_lines power m 1 (tests_of d);
      position_is = position_described xy m d g.position;
      tests_are = tests_described power m 1 (tests_of d) g.tests;
      lines_are = refl;
    }

modules_described : (power xy : Bool) (m last : ℕ) (ds : List Module) → good_modules power xy m last ds ≡ true → ModulesLines power xy m ds (module_lines_from power xy m ds)
unfolding good_modules module_lines_from
modules_described power xy m last [] h = ModulesLines.none
modules_described power xy m last (d ∷ ds) h =
    let q = and_both (good_module power xy m last d) (good_modules power xy (suc m) d.level ds) h in
    ModulesLines.more (module_described power xy m last d q.0) (modules_described power xy (suc m) d.level ds q.1)

pub written_describes : (s : Soc) → good_soc s ≡ true → Describes s (soc_lines s)
unfolding soc_lines
written_describes s h = record {
  modules = module_lines_from s.power s.xy 0 (modules_of s);
  modules_are = modules_described s.power s.xy 0 0 (modules_of s) (soc-figures s h).modules;
  lines_are = refl;
  spare = good-spare s h;
}

-- the fields of the lines can stand in a text

-- a field that can stand in a text: not empty, of printable bytes, none of which is a gap
unfoldable pub text_field : List ℕ → Bool
text_field f = plain_field f && printable f

-- a line of such fields, of which there is one at least
unfoldable pub text_line : List (List ℕ) → Bool
text_line fs = not (blank fs) && all_of text_field fs

pub decimal-text : (n : ℕ) → text_field (decimal n) ≡ true
unfolding text_field
decimal-text n = simp (decimal_field n, decimal_printable n)

pub flag-text : (b : Bool) → text_field (flag_field b) ≡ true
unfolding text_field flag_field plain_field more no_gap printable
flag-text false = refl
flag-text true = refl

pub given-text : (z : ℤ) → text_field (given_field z) ≡ true
unfolding text_field given_field plain_field more no_gap printable
given-text (pos n) = decimal-text n
given-text (negsuc n) = refl

lengths-text : (fs : List FlipFlops) → all_of text_field (map length_field fs) ≡ true
unfolding all_of length_field
lengths-text [] = refl
lengths-text (f ∷ fs) = simp (decimal-text f.0, lengths-text fs)

name-text : (s : Soc) → good_name s ≡ true → text_line (name_fields s) ≡ true
unfolding text_line name_fields text_field plain_field more no_gap printable blank all_of good_name
name-text s h =
    let p = and_both (leb s.name_len name_max) (is_name (name_of s) && all_of none (drop s.name_len s.name)) h in
    let q = and_both (is_name (name_of s)) (all_of none (drop s.name_len s.name)) p.1 in
    simp (name_field (name_of s) q.0, name_printable (name_of s) q.0)

total-text : (s : Soc) → text_line (total_fields s) ≡ true
unfolding text_line total_fields text_field plain_field more no_gap printable blank all_of
total-text s = simp decimal-text

pub options_text : (s : Soc) → text_line (options_fields s) ≡ true
unfolding text_line options_fields text_field plain_field more no_gap printable blank all_of
options_text s = simp flag-text

level-text : (m : ℕ) (d : Module) → text_line (level_fields m d) ≡ true
unfolding text_line level_fields text_field plain_field more no_gap printable blank all_of
level-text m d = simp (decimal-text, lengths-text)

position-text : (m : ℕ) (d : Module) → text_line (position_fields m d) ≡ true
unfolding text_line position_fields text_field plain_field more no_gap printable blank all_of
position-text m d = simp (decimal-text, given-text)

tests-text : (m : ℕ) (d : Module) → text_line (tests_fields m d) ≡ true
unfolding text_line tests_fields text_field plain_field more no_gap printable blank all_of
tests-text m d = simp decimal-text

test-text : (power : Bool) (m i : ℕ) (t : Test) → text_line (test_fields m i t (cond power (power_fields t) [])) ≡ true
unfolding text_line test_fields power_fields text_field plain_field more no_gap printable blank all_of
test-text false m i t = simp (decimal-text, flag-text)
test-text true m i t = simp (decimal-text, flag-text, given-text)

-- the lines one behind the other
pub all_append : {A : Type 0} (p : A → Bool) (a b : List A) → all_of p a ≡ true → all_of p b ≡ true → all_of p (a ++ b) ≡ true
unfolding all_of
all_append p [] b h k = k
all_append p (x ∷ a) b h k = let q = and_both (p x) (all_of p a) h in simp (q.0, all_append p a b q.1 k)

test-lines-text : (power : Bool) (m i : ℕ) (ts : List Test) → all_of text_line (test_lines power m i ts) ≡ true
unfolding test_lines all_of
test-lines-text power m i [] = refl
test-lines-text power m i (t ∷ ts) = simp (test-text power m i t, test-lines-text power m (suc i) ts)

position-lines-text : (xy : Bool) (m : ℕ) (d : Module) → all_of text_line (position_lines xy m d) ≡ true
unfolding position_lines all_of
position-lines-text false m d = refl
position-lines-text true m d = simp (position-text m d)

pub module_lines-text : (power xy : Bool) (m : ℕ) (d : Module) → all_of text_line (module_lines_of power xy m d) ≡ true
unfolding module_lines_of all_of
module_lines-text power xy m d =
    let t : all_of text_line (tests_fields m d ∷ test_lines power m 1 (tests_of d)) ≡ true = simp (tests-text m d, test-lines-text power m 1 (tests_of d)) in
    simp (level-text m d, all_append text_line (position_lines xy m d) (tests_fields m d ∷ test_lines power m 1 (tests_of d)) (position-lines-text xy m d) t)

module_lines-from-text : (power xy : Bool) (m : ℕ) (ds : List Module) → all_of text_line (module_lines_from power xy m ds) ≡ true
unfolding module_lines_from all_of
module_lines-from-text power xy m [] = refl
module_lines-from-text power xy m (d ∷ ds) =
    all_append text_line (module_lines_of power xy m d) (module_lines_from power xy (suc m) ds) (module_lines-text power xy m d) (module_lines-from-text power xy (suc m) ds)

pub written_plain : (s : Soc) → good_soc s ≡ true → all_of text_line (soc_lines s) ≡ true
unfolding soc_lines all_of
written_plain s h =
    simp (name-text s (good-soc s h).name, total-text s, options_text s, module_lines-from-text s.power s.xy 0 (modules_of s))

-- a text that is written of such lines has these lines, and no byte that it may not have

text-fields : (fs : List (List ℕ)) → all_of text_field fs ≡ true → (plain_fields fs ≡ true) × (printables fs ≡ true)
unfolding all_of text_field plain_fields printables
text-fields [] h = (refl, refl)
text-fields (f ∷ fs) h =
    let a = and_both (text_field f) (all_of text_field fs) h in
    let b = and_both (plain_field f) (printable f) a.0 in
    let q = text-fields fs a.1 in
    (simp (b.0, q.0), simp (b.1, q.1))

-- the parts of what a line in a text is
record TextLine (fs : List (List ℕ)) : Type 0 where
  some : fs ≡ [] → ⊥
  plain : plain_fields fs ≡ true
  prints : printables fs ≡ true

text-line : (fs : List (List ℕ)) → text_line fs ≡ true → TextLine fs
unfolding text_line blank
text-line [] h = absurd (false≢true h)
text-line (f ∷ fs) h =
    let q = text-fields (f ∷ fs) h in
    record { some = λ e. let z : ◌≡◌ {A = ℕ} 0 1 = cc in omega arith; plain = q.0; prints = q.1 }

pub written-fields-from : (n : ℕ) (ls : List (List (List ℕ))) → all_of text_line ls ≡ true → map fields_in (lines_from n (written_lines ls) 0) ≡ ls
unfolding written_lines all_of lines_of numbered
written-fields-from n [] h = refl
written-fields-from n (l ∷ ls) h =
    let q = and_both (text_line l) (all_of text_line ls) h in
    let t = text-line l q.0 in
    ap (map fields_in) (numbered-written n l (written_lines ls) t.plain t.prints t.some) ∙ ap (λ r. l ∷ r) (written-fields-from (suc n) ls q.1)

pub written-fields : (ls : List (List (List ℕ))) → all_of text_line ls ≡ true → field_lines (written_lines ls) ≡ ls
written-fields = written-fields-from 1

pub written-allowed-from : (n : ℕ) (ls : List (List (List ℕ))) → all_of text_line ls ≡ true → bad_byte n (written_lines ls) ≡ None
unfolding written_lines all_of bad_byte
written-allowed-from n [] h = refl
written-allowed-from n (l ∷ ls) h =
    let q = and_both (text_line l) (all_of text_line ls) h in
    let t = text-line l q.0 in
    bad_written n (joined l) (written_lines ls) (joined_printable l t.prints) ∙ written-allowed-from (suc n) ls q.1

pub written-allowed : (s : Soc) → good_soc s ≡ true → bad_byte 1 (written_soc s) ≡ None
unfolding written_soc
written-allowed s h = written-allowed-from 1 (soc_lines s) (written_plain s h)

-- the text that is written describes the record
pub written_read : (s : Soc) → good_soc s ≡ true → Describes s (field_lines (written_soc s))
unfolding written_soc
written_read s h = rw (written-fields (soc_lines s) (written_plain s h)) (written_describes s h)
