-- `text_lines::test::power_at` meets its contract. The definition looks at the option and at whether a field is left as the code does. Assumes nothing.
use Prim.Native.Nat.{ℕ}
use mathlib.Core.Path.{◌≡◌, refl, sym, ◌∙◌}
use mathlib.Core.Bool.{Bool, true, false, true≢false, false≢true}
use mathlib.Core.List.{List, [], ◌∷◌}
use Rattle.fields.specs.Bytes.{bytes}
use Rattle.fields.specs.Fields.{blank}
use Rattle.fields.specs.Readers.{got}
use Rattle.soc.specs.Limits.{power_max}
use Rattle.soc.specs.Record.{not_given}
use Rattle.text_lines.specs.Parts.{key_given}
use Rattle.text_lines.specs.Kinds.{power_part}
use Rattle.text_lines.proofs.test.power_at.Goals.{then-not-power-via-then-not-power, then-not-power-via-else-not-power+then-is_blank}
use Rattle.text_lines.proofs.test.power_at.Goals as goal

power-off : (power : Bool) (fs : List (List ℕ)) → power ≡ false → power_part power fs ≡ got not_given fs
unfolding power_part
power-off power fs h = simp h

power-end : (power : Bool) (fs : List (List ℕ)) → blank fs ≡ true → power_part power fs ≡ got not_given fs
unfolding blank power_part
power-end false fs h = refl
power-end true [] h = refl
power-end true (f ∷ fs) h = absurd (false≢true h)

power-more : (power : Bool) (fs : List (List ℕ)) → power ≡ true → blank fs ≡ false → power_part power fs ≡ key_given (bytes "Power") power_max fs
unfolding blank power_part
power-more false fs e h = absurd (false≢true e)
power-more true [] e h = absurd (true≢false h)
power-more true (f ∷ fs) e h = refl

pub returns-then-not-power : goal.returns-then-not-power
returns-then-not-power c = elim c.then-not-power.branch [
  | then-not-power-via-then-not-power w ↦ sym (power-off c.args.power _ w.if-not-power.true)
  | then-not-power-via-else-not-power+then-is_blank w ↦ sym (power-end c.args.power _ (sym w.is_blank.ensures ∙ w.if-is_blank.true))
]

pub returns : goal.returns
returns c = c.key_given.ensures ∙ sym (power-more c.args.power _ c.if-not-power.false (sym c.is_blank.ensures ∙ c.if-is_blank.false))
