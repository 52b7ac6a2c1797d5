-- `c_forms::soc_read::are_module_flags` meets its contract: its test is that of `module_flags` at each row. Assumes nothing.
use borrow.Author.Rules.{rules}
use Prim.Native.Nat.{◌+◌, ◌*◌}
use mathlib.Core.Path.{refl, ◌∙◌}
use Rattle.std.proofs.lemmas.Iterator.{YieldsList-from_range}
use Rattle.std.proofs.lemmas.Iterator.Search.{all_from_yields_List}
use Rattle.soc.specs.Limits.{tests_max}
use Rattle.c_forms.specs.SocForm.{test_length, tests_from, flags_at, module_flags}
use Rattle.c_forms.proofs.MadeLaws.{tested_rows}
use Rattle.c_forms.proofs.soc_read.are_module_flags.Goals as goal

pub returns : goal.returns
unfolding module_flags
returns c = let b = c.args.b.now in
    let from = c.args.at + tests_from in
    all_from_yields_List (λ i. flags_at b (from + test_length * i)) _ _ _ c.all.ensures.ran (YieldsList-from_range 0 tests_max tests_max refl refl)
    (λ x t q k. search rules)
    ∙ tested_rows (flags_at b) test_length from tests_max
