-- Law of module 0 (document 02, item 6): "17 with the line, once TamUse has passed 3 on that line and before Patterns is looked at". So a
-- test line of module 0 with TamUse 1 is refused with 17 whatever stands behind the flag, and where nothing does. Assumes nothing.
use Prim.Native.Nat.{ℕ}
use mathlib.Core.Path.{◌≡◌}
use mathlib.Core.Bool.{Bool, true}
use mathlib.Core.List.{List, ◌∷◌}
use Rattle.units.specs.declared.Fault.TheVariants.{PlannedPins}
use Rattle.std.specs.Prelude.{Err}
use Rattle.fields.specs.Bytes.{bytes}
use Rattle.fields.specs.Readers.{after}
use Rattle.fields.specs.WrittenLines.{decimal}
use Rattle.soc.specs.Rules.{pins_rule}
use Rattle.text_lines.specs.Parts.{whole, closed, pins}
use Rattle.text_lines.specs.Kinds.{uses, test_due, test_line}
use Rattle.text_lines.specs.LineFields.{flag_field, module_fields}
use Rattle.text.proofs.LineBack.{word_back, due_back, flag_back}

pub pins-first : (i : ℕ) (scan power : Bool) (behind : List (List ℕ))
    → whole (test_line 0 i power)
    (module_fields 0 (bytes "Test" ∷ decimal i ∷ bytes "ScanUse" ∷ flag_field scan ∷ bytes "TamUse" ∷ flag_field true ∷ behind))
    ≡ Err PlannedPins
unfolding test_line test_due uses pins pins_rule after closed
pins-first i scan power behind = simp (word_back, due_back, flag_back)
