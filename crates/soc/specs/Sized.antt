-- Arrays have their declared lengths: every value that code holds has them, and the laws of records as values say so.
use Rattle.std.specs.Prelude.{◌≡◌, ℕ, ◌<◌, length, get_or}
use Rattle.fields.specs.Names.{name_max}
use Rattle.soc.specs.Limits.{modules_max, chains_max, tests_max}
use Rattle.soc.specs.Record.{no_module}
use Rattle.soc.specs.declared.record.Module.{Module}
use Rattle.soc.specs.declared.record.Soc.{Soc}

pub record SizedModule (d : Module) : Type 0 where
  pub chains : length d.chains ≡ chains_max
  pub tests : length d.tests ≡ tests_max

pub record Sized (s : Soc) : Type 0 where
  pub name : length s.name ≡ name_max
  pub modules : length s.modules ≡ modules_max
  pub each : (i : ℕ) → i < modules_max → SizedModule (get_or s.modules i no_module)
