-- Laws of the text of each line, as the code puts it part by part. Assumes nothing.
use Prim.Native.Nat.{ℕ}
use mathlib.Core.Path.{◌≡◌, refl, sym, ap, ◌∙◌}
use mathlib.Core.Bool.{Bool, true, false, cond}
use mathlib.Core.List.{List, [], ◌∷◌, ◌++◌, map, append_assoc}
use Rattle.units.specs.declared.FlipFlops.{FlipFlops}
use Rattle.fields.specs.Bytes.{bytes, lf, space}
use Rattle.fields.specs.WrittenLines.{decimal, joined, written_lines}
use Rattle.soc.specs.Record.{name_of, chains_of}
use Rattle.soc.specs.declared.record.Test.{Test}
use Rattle.soc.specs.declared.record.Module.{Module}
use Rattle.soc.specs.declared.record.Soc.{Soc}
use Rattle.text_lines.specs.LineFields.{flag_field, given_field, length_field, name_fields, total_fields, options_fields, level_fields, position_fields, tests_fields, power_fields, test_fields}
use Rattle.text_writer.specs.WrittenSoc.{position_lines, spaced_lengths, power_end}

-- fields parted by single spaces, with t behind the last
unfoldable joined_with : List (List ℕ) → List ℕ → List ℕ
joined_with [] t = t
joined_with (f ∷ []) t = f ++ t
joined_with (f ∷ g ∷ fs) t = f ++ space ∷ joined_with (g ∷ fs) t

joined_with_lem : (fs : List (List ℕ)) (t : List ℕ) → joined fs ++ t ≡ joined_with fs t
unfolding joined joined_with
joined_with_lem [] t = refl
joined_with_lem (f ∷ []) t = refl
joined_with_lem (f ∷ g ∷ fs) t = append_assoc f (space ∷ joined (g ∷ fs)) t ∙ ap (λ l. f ++ space ∷ l) (joined_with_lem (g ∷ fs) t)

-- lines, with each part behind the other
unfoldable lines_in_parts : List (List (List ℕ)) → List ℕ
lines_in_parts [] = []
lines_in_parts (l ∷ ls) = joined_with l (lf ∷ lines_in_parts ls)

lines_in_parts_lem : (ls : List (List (List ℕ))) → written_lines ls ≡ lines_in_parts ls
unfolding written_lines lines_in_parts
lines_in_parts_lem [] = refl
lines_in_parts_lem (l ∷ ls) = ap (λ t. joined l ++ lf ∷ t) (lines_in_parts_lem ls) ∙ joined_with_lem l (lf ∷ lines_in_parts ls)

-- lengths behind a field
lengths_with : (f : List ℕ) (fs : List FlipFlops) (t : List ℕ) → joined_with (f ∷ map length_field fs) t ≡ f ++ (spaced_lengths fs ++ t)
unfolding spaced_lengths joined_with
lengths_with f [] t = refl
lengths_with f (g ∷ fs) t = ap (λ l. f ++ space ∷ l) (lengths_with (length_field g) fs t ∙ sym (append_assoc (length_field g) (spaced_lengths fs) t))

pub head_text : (s : Soc) → written_lines (name_fields s ∷ total_fields s ∷ options_fields s ∷ [])
    ≡ bytes "SocName " ++ (name_of s ++ ((lf ∷ bytes "TotalModules " ++ decimal s.module_count) ++ ((lf ∷ bytes "Options Power " ++ flag_field s.power) ++ ((bytes " XY " ++ flag_field s.xy) ++ lf ∷ []))))
unfolding name_fields total_fields options_fields lines_in_parts joined_with
head_text s = lines_in_parts_lem (name_fields s ∷ total_fields s ∷ options_fields s ∷ [])

-- a level line up to its chains, with l behind it
abbrev level_head : ℕ → Module → List ℕ → List ℕ
level_head m d l =
    (bytes "Module " ++ decimal m)
    ++ ((bytes " Level " ++ decimal d.level)
    ++ ((bytes " Inputs " ++ decimal d.inputs)
    ++ ((bytes " Outputs " ++ decimal d.outputs)
    ++ ((bytes " Bidirs " ++ decimal d.bidirs) ++ ((bytes " ScanChains " ++ decimal d.chain_count) ++ l)))))

pub level-text : (m : ℕ) (d : Module) → written_lines (level_fields m d ∷ []) ≡ level_head m d (bytes " :" ++ (spaced_lengths (chains_of d) ++ lf ∷ []))
unfolding level_fields lines_in_parts joined_with
level-text m d = lines_in_parts_lem (level_fields m d ∷ []) ∙ ap (λ l. level_head m d (space ∷ l)) (lengths_with (bytes ":") (chains_of d) (lf ∷ []))

module _ (xy : Bool) (m : ℕ) (d : Module) where
  pub position-none : xy ≡ false → written_lines (position_lines xy m d) ≡ []
  unfolding position_lines written_lines
  position-none e = rw e

  pub position-text : xy ≡ true → written_lines (position_lines xy m d) ≡ (bytes "Module " ++ decimal m) ++ ((bytes " X " ++ given_field d.x) ++ ((bytes " Y " ++ given_field d.y) ++ lf ∷ []))
  unfolding position_lines position_fields lines_in_parts joined_with
  position-text e = rw e (lines_in_parts_lem (position_fields m d ∷ []))

pub tests-text : (m : ℕ) (d : Module) → written_lines (tests_fields m d ∷ []) ≡ (bytes "Module " ++ decimal m) ++ ((bytes " TotalTests " ++ decimal d.test_count) ++ lf ∷ [])
unfolding tests_fields lines_in_parts joined_with
tests-text m d = lines_in_parts_lem (tests_fields m d ∷ [])

pub power-none : (power : Bool) (t : Test) → power ≡ false → power_end power t ≡ lf ∷ []
unfolding power_end
power-none power t e = rw e

pub power-text : (power : Bool) (t : Test) → power ≡ true → power_end power t ≡ (bytes " Power " ++ given_field t.power) ++ lf ∷ []
unfolding power_end
power-text power t e = rw e

pub test-text : (m i : ℕ) (t : Test) (power : Bool) → written_lines (test_fields m i t (cond power (power_fields t) []) ∷ [])
    ≡ (bytes "Module " ++ decimal m)
    ++ ((bytes " Test " ++ decimal i)
    ++ ((bytes " ScanUse " ++ flag_field t.scan_use)
    ++ ((bytes " TamUse " ++ flag_field t.tam_use) ++ ((bytes " Patterns " ++ decimal t.patterns) ++ power_end power t))))
unfolding test_fields power_fields power_end lines_in_parts joined_with
test-text m i t true = lines_in_parts_lem (test_fields m i t (power_fields t) ∷ [])
test-text m i t false = lines_in_parts_lem (test_fields m i t [] ∷ [])
