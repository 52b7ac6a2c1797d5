-- Laws of runs in the written form: of lengths, of a module's tests, of the modules. What is due of a run is the text of its next
-- element, and that of the others behind it. Assumes nothing.
use Prim.Native.Nat.{ℕ, suc, ◌+◌, ◌≤◌, ◌<◌}
use mathlib.Core.Path.{◌≡◌, ap, ◌∙◌}
use mathlib.Core.Bool.{Bool, cond}
use mathlib.Core.List.{List, [], ◌∷◌, ◌++◌, append_assoc}
use native.Mathlib.Omega.{arith}
use native.Mathlib.Numerals.{add-one}
use lib.ListN.{length, get_or, drop, drop_of_length-le}
use lib.Seq.{drop-cons}
use Rattle.units.specs.declared.FlipFlops.{FlipFlops}
use Rattle.fields.specs.Bytes.{bytes}
use Rattle.fields.specs.WrittenLines.{decimal, written_lines}
use Rattle.fields.proofs.LinesWritten.{written-append}
use Rattle.soc.specs.Record.{modules_of, tests_of}
use Rattle.soc.specs.declared.record.Test.{Test}
use Rattle.soc.specs.declared.record.Module.{Module}
use Rattle.soc.specs.declared.record.Soc.{Soc}
use Rattle.text_lines.specs.LineFields.{length_field, name_fields, total_fields, options_fields, level_fields, tests_fields, power_fields, test_fields}
use Rattle.text_writer.specs.WrittenSoc.{test_lines, position_lines, module_lines_of, module_lines_from, soc_lines, written_soc, spaced_lengths}

-- the next of a list before the others, and at the end none
module _ {A : Type 0} (l : List A) (i : ℕ) where
  rest_more : (z : A) → i < length l → drop i l ≡ get_or l i z ∷ drop (i + 1) l
  rest_more z h = drop-cons l i z h ∙ rw add-one

  pub rest-none : length l ≤ i → drop i l ≡ []
  rest-none h = drop_of_length-le l {i = i} h

pub spaced_more : (l : List FlipFlops) (i : ℕ) (z : FlipFlops) → i < length l → spaced_lengths (drop i l) ≡ bytes " " ++ decimal (get_or l i z).0 ++ spaced_lengths (drop (i + 1) l)
unfolding spaced_lengths length_field
spaced_more l i z h = ap spaced_lengths (rest_more l i z h)

-- the text of tests, the first of which has number i
module _ (power : Bool) (m : ℕ) where
  abbrev pub tests_text : ℕ → List Test → List ℕ
  tests_text i ts = written_lines (test_lines power m i ts)

  abbrev pub test_text : ℕ → Test → List ℕ
  test_text i t = written_lines (test_fields m i t (cond power (power_fields t) []) ∷ [])

  pub tests-more : (l : List Test) (i : ℕ) (z : Test) → i < length l
      → tests_text (i + 1) (drop i l) ≡ test_text (i + 1) (get_or l i z) ++ tests_text (i + 1 + 1) (drop (i + 1) l)
  unfolding test_lines
  tests-more l i z h =
      let t = get_or l i z in
      let n : suc (i + 1) ≡ i + 1 + 1 = omega arith in
      ap (tests_text (i + 1)) (rest_more l i z h)
      ∙ written-append (test_fields m (i + 1) t _ ∷ []) (test_lines power m (suc (i + 1)) (drop (i + 1) l))
      ∙ ap (λ j. test_text (i + 1) t ++ tests_text j (drop (i + 1) l)) n

-- the text of modules, the first of which has number m
module _ (power xy : Bool) where
  abbrev pub modules_text : ℕ → List Module → List ℕ
  modules_text m ds = written_lines (module_lines_from power xy m ds)

  pub modules-more : (l : List Module) (i : ℕ) (z : Module) → i < length l
      → modules_text i (drop i l) ≡ written_lines (module_lines_of power xy i (get_or l i z)) ++ modules_text (i + 1) (drop (i + 1) l)
  unfolding module_lines_from
  modules-more l i z h =
      let d = get_or l i z in
      let n : suc i ≡ i + 1 = omega arith in
      ap (modules_text i) (rest_more l i z h)
      ∙ written-append (module_lines_of power xy i d) (module_lines_from power xy (suc i) (drop (i + 1) l))
      ∙ ap (λ j. written_lines (module_lines_of power xy i d) ++ modules_text j (drop (i + 1) l)) n

-- the text of a module, and of the whole record, part by part
pub module_text : (power xy : Bool) (m : ℕ) (d : Module) → written_lines (module_lines_of power xy m d)
    ≡ written_lines (level_fields m d ∷ []) ++ (written_lines (position_lines xy m d) ++ (written_lines (tests_fields m d ∷ []) ++ tests_text power m 1 (tests_of d)))
unfolding module_lines_of
module_text power xy m d =
    written-append (level_fields m d ∷ position_lines xy m d) (tests_fields m d ∷ test_lines power m 1 (tests_of d))
    ∙ ap (λ t. t ++ written_lines (tests_fields m d ∷ test_lines power m 1 (tests_of d))) (written-append (level_fields m d ∷ []) (position_lines xy m d))
    ∙ append_assoc (written_lines (level_fields m d ∷ [])) (written_lines (position_lines xy m d)) (written_lines (tests_fields m d ∷ test_lines power m 1 (tests_of d)))
    ∙ ap (λ t. written_lines (level_fields m d ∷ []) ++ (written_lines (position_lines xy m d) ++ t)) (written-append (tests_fields m d ∷ []) (test_lines power m 1 (tests_of d)))

pub soc-text : (s : Soc) → written_soc s ≡ written_lines (name_fields s ∷ total_fields s ∷ options_fields s ∷ []) ++ modules_text s.power s.xy 0 (modules_of s)
unfolding written_soc soc_lines
soc-text s = written-append (name_fields s ∷ total_fields s ∷ options_fields s ∷ []) (module_lines_from s.power s.xy 0 (modules_of s))
