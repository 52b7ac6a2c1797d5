-- Figures that fit their words, 4 bytes or 8, in a plan record and in a SOC record: where they do, the bytes say all of the record, and a
-- good record's figures do.
use Rattle.std.specs.Prelude.{ℕ, ◌<◌, length, get_or}
use Rattle.std.specs.Int.{w32}
use Rattle.std.proofs.Common.{SFits}
use Rattle.units.specs.declared.FlipFlops.{FlipFlops}
use Rattle.soc.specs.Record.{flip_flops, no_test, no_module}
use Rattle.soc.specs.declared.record.Test.{Test}
use Rattle.soc.specs.declared.record.Module.{Module}
use Rattle.soc.specs.declared.record.Soc.{Soc}
use Rattle.plan_record.specs.Record.{no_bus, no_placed}
use Rattle.plan_record.specs.declared.record.Bus.{Bus}
use Rattle.plan_record.specs.declared.record.PlacedModule.{PlacedModule}
use Rattle.plan_record.specs.declared.record.BusPlan.{BusPlan}

-- a figure of 4 bytes, and one of 8
abbrev pub Fits4 : ℕ → Type 0
Fits4 v = v < 4294967296

abbrev pub Fits8 : ℕ → Type 0
Fits8 v = v < 18446744073709551616

pub record FitBus (b : Bus) : Type 0 where
  pub width : Fits4 b.width.0
  pub busy : Fits8 b.busy.0

pub record FitPlaced (m : PlacedModule) : Type 0 where
  pub number : Fits4 m.number
  pub bus : Fits4 m.bus
  pub wires : Fits4 m.wires.0
  pub cycles : Fits8 m.cycles.0
  pub start : Fits8 m.start.0

pub record FitPlan (p : BusPlan) : Type 0 where
  pub wires : Fits4 p.wires.0
  pub limit : Fits4 p.limit
  pub bus_count : Fits4 p.bus_count
  pub module_count : Fits4 p.module_count
  pub time : Fits8 p.time.0
  pub buses : (i : ℕ) → i < length p.buses → FitBus (get_or p.buses i no_bus)
  pub modules : (i : ℕ) → i < length p.modules → FitPlaced (get_or p.modules i no_placed)

pub record FitTest (t : Test) : Type 0 where
  pub patterns : Fits4 t.patterns
  pub power : SFits w32 t.power

abbrev pub FitLength : FlipFlops → Type 0
FitLength f = Fits4 f.0

pub record FitModule (d : Module) : Type 0 where
  pub level : Fits4 d.level
  pub inputs : Fits4 d.inputs
  pub outputs : Fits4 d.outputs
  pub bidirs : Fits4 d.bidirs
  pub chain_count : Fits4 d.chain_count
  pub chains : (i : ℕ) → i < length d.chains → FitLength (get_or d.chains i (flip_flops 0))
  pub x : SFits w32 d.x
  pub y : SFits w32 d.y
  pub test_count : Fits4 d.test_count
  pub tests : (i : ℕ) → i < length d.tests → FitTest (get_or d.tests i no_test)

pub record FitSoc (s : Soc) : Type 0 where
  pub name_len : Fits4 s.name_len
  pub module_count : Fits4 s.module_count
  pub modules : (i : ℕ) → i < length s.modules → FitModule (get_or s.modules i no_module)
