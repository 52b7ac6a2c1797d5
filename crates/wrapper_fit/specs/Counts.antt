-- A count of wires and a count of cycles, as answers and records hold them (document 01, "The job").
use Rattle.std.specs.Prelude.{ℕ}
use Rattle.units.specs.declared.Wires.{Wires}
use Rattle.units.specs.declared.Cycles.{Cycles}

abbrev pub wires : ℕ → Wires
wires n = record { 0 = n }

abbrev pub cycles : ℕ → Cycles
cycles n = record { 0 = n }
