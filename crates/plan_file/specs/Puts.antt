-- What the writers of records ask: figures that fit a byte, and counts that keep their places.
use Rattle.std.specs.Prelude.{ℕ, ◌≤◌, ◌<◌, get_or}
use Rattle.plan_record.specs.Record.{bus_places, module_places, no_bus, no_placed}
use Rattle.plan_record.specs.declared.record.Bus.{Bus}
use Rattle.plan_record.specs.declared.record.PlacedModule.{PlacedModule}
use Rattle.plan_record.specs.declared.record.BusPlan.{BusPlan}

pub record SmallModule (m : PlacedModule) : Type 0 where
  pub number : m.number < 256
  pub bus : m.bus < 256
  pub wires : m.wires.0 < 256

abbrev pub SmallBus : Bus → Type 0
SmallBus b = b.width.0 < 256

pub record SmallTrailer (p : BusPlan) : Type 0 where
  pub wires : p.wires.0 < 256
  pub limit : p.limit < 256
  pub buses : p.bus_count ≤ bus_places
  pub modules : p.module_count ≤ module_places

pub record Small (p : BusPlan) : Type 0 where
  pub trailer : SmallTrailer p
  pub placed : (i : ℕ) → i < p.module_count → SmallModule (get_or p.modules i no_placed)
  pub width : (b : ℕ) → b < p.bus_count → SmallBus (get_or p.buses b no_bus)
