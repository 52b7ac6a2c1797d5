-- When an overlay fits a base, said without a test (document 02, item 3): "15 .. when name or options differ from the base, a module isn't in
-- the base, or its level differs".
use Rattle.std.specs.Prelude.{ℕ, ◌<◌, ◌≡◌, true, false, List, get_or}
use Rattle.soc.specs.Limits.{modules_max}
use Rattle.soc.specs.Record.{no_module}
use Rattle.soc.specs.declared.record.Module.{Module}
use Rattle.soc.specs.declared.record.Soc.{Soc}
use Rattle.overlay.specs.declared.read.Overlay.{Overlay}

pub record Fits (s : Soc) (o : Overlay) : Type 0 where
  pub len : s.name_len ≡ o.name_len
  pub name : s.name ≡ o.name
  pub power : s.power ≡ o.power
  pub xy : s.xy ≡ o.xy
  pub blocks : (m : ℕ) → m < modules_max → get_or o.has m false ≡ true
      → (m < s.module_count) × ((get_or o.modules m no_module).level ≡ (get_or s.modules m no_module).level)

-- a base with other modules
abbrev pub with_modules : Soc → List Module → Soc
with_modules s ms =
    record {
      name_len = s.name_len;
      name = s.name;
      power = s.power;
      xy = s.xy;
      module_count = s.module_count;
      modules = ms;
    }
