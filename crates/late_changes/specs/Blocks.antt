-- What is known of the modules of an overlay that was read.
use Rattle.std.specs.Prelude.{ℕ, ◌≡◌, Bool, true, false, List, length, get_or}
use Rattle.soc.specs.Limits.{modules_max}
use Rattle.soc.specs.Record.{no_module}
use Rattle.soc.specs.Rules.{level_rule, good_module}
use Rattle.soc.specs.Sized.{SizedModule}
use Rattle.soc.specs.declared.record.Module.{Module}

-- module m keeps the limits and rules of the text wherever its level keeps the level rule, which an overlay's own lines do not tell
pub record GoodBut (power xy : Bool) (m : ℕ) (d : Module) : Type 0 where
  pub good : (last : ℕ) → level_rule m last d.level ≡ true → good_module power xy m last d ≡ true
  pub sized : (last : ℕ) → level_rule m last d.level ≡ true → SizedModule d

-- each module that the places have
pub record GoodPlaces (power xy : Bool) (has : List Bool) (modules : List Module) : Type 0 where
  pub has_length : length has ≡ modules_max
  pub modules_length : length modules ≡ modules_max
  pub each : (m : ℕ) → get_or has m false ≡ true → GoodBut power xy m (get_or modules m no_module)
