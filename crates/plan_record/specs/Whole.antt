-- Arrays have their declared lengths: every plan record that code holds has them, and the laws of records as values say so.
use Rattle.std.specs.Prelude.{◌≡◌, length}
use Rattle.plan_record.specs.Record.{bus_places, module_places}
use Rattle.plan_record.specs.declared.record.BusPlan.{BusPlan}

pub record Whole (p : BusPlan) : Type 0 where
  pub buses : length p.buses ≡ bus_places
  pub modules : length p.modules ≡ module_places
