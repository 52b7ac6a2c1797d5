-- What may be asked of the wrapper layer (document 01, "Refusal numbers"; document 02, item 5): "Layout and time: 14, 7, 13.", and "c
-- outside 1 to 4 is 16, after 8 for plans and after 7 for times".
use Rattle.std.specs.Prelude.{ℕ, cond, ◌&&◌, get_or, leb, ltb, Result, Err}
use Rattle.units.specs.Refusals.{refused}
use Rattle.units.specs.declared.Fault.{Fault}
use Rattle.units.specs.declared.Fault.TheVariants.{Width, NotThere, BadSoc, Capture}
use Rattle.units.specs.declared.Refusal.{Refusal}
use Rattle.soc.specs.Record.{no_module}
use Rattle.soc.specs.Rules.{good_soc}
use Rattle.soc.specs.declared.record.Module.{Module}
use Rattle.soc.specs.declared.record.Soc.{Soc}
use Rattle.wrapper_fit.specs.Maxima.{width_max, capture_max}

-- module m of an SOC, from 0
abbrev pub module_at : Soc → ℕ → Module
module_at s m = get_or s.modules m no_module

-- a module, where nothing is refused; else the refusal's fault
unfoldable pub asked_module : {A : Type 0} → Soc → ℕ → ℕ → ℕ → (Fault → A) → (Module → A) → A
asked_module s m w c refuses finds =
    cond (good_soc s)
    (cond (leb 1 w && leb w width_max)
    (cond (leb 1 c && leb c capture_max) (cond (ltb m s.module_count) (finds (module_at s m)) (refuses NotThere)) (refuses Capture))
    (refuses Width))
    (refuses BadSoc)

-- what is asked of a record stands in no line of a text
abbrev pub refused_here : {A : Type 0} → Fault → Result A Refusal
refused_here f = Err (refused f 0)
