-- `c_forms::soc_read::are_soc_flags` meets its contract: its tests are those of `soc_flags`, of the options and of each module. Assumes
-- nothing.
use borrow.Author.Rules.{rules}
use Prim.Native.Nat.{◌+◌, ◌*◌}
use mathlib.Core.Path.{refl, sym, ◌∙◌}
use Rattle.std.proofs.lemmas.Iterator.{YieldsList-from_range}
use Rattle.std.proofs.lemmas.Iterator.Search.{all_from_yields_List}
use Rattle.units.proofs.TestLaws.{and_stops, and_goes}
use Rattle.soc.specs.Limits.{modules_max}
use Rattle.c_forms.specs.SocForm.{module_length, modules_from, module_flags, soc_flags}
use Rattle.c_forms.proofs.MadeLaws.{tested_rows}
use Rattle.c_forms.proofs.soc_read.are_soc_flags.Goals as goal

pub returns-then-are_flags : goal.returns-then-are_flags
unfolding soc_flags
returns-then-are_flags c = let b = c.args.b.now in
    all_from_yields_List (λ i. module_flags b (modules_from + module_length * i)) _ _ _ c.all.ensures.ran
    (YieldsList-from_range 0 modules_max modules_max refl refl) (λ x t q k. search rules)
    ∙ tested_rows (module_flags b) module_length modules_from modules_max
    ∙ sym (and_goes _ _ (sym c.are_flags.ensures ∙ c.if-are_flags.true))

pub returns-else-are_flags : goal.returns-else-are_flags
unfolding soc_flags
returns-else-are_flags c = c.if-are_flags.false ∙ sym (and_stops _ _ (sym c.are_flags.ensures ∙ c.if-are_flags.false))
