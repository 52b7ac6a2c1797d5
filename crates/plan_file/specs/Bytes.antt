-- The bytes of a plan file (document 01, "The plan file"; document 02, item 1).
use Rattle.std.specs.Prelude.{ℕ, ◌+◌, ◌*◌, List, ◌∷◌, ◌++◌}
use Rattle.little_endian.specs.Little.{little}
use Rattle.little_endian.specs.Rows.{each}
use Rattle.plan_record.specs.declared.record.Bus.{Bus}
use Rattle.plan_record.specs.declared.record.PlacedModule.{PlacedModule}
use Rattle.plan_record.specs.declared.record.BusPlan.{BusPlan}
use Rattle.plan_record.specs.Record.{bus_places, module_places, buses_of, modules_of}

-- "Little-endian, 12-byte records." Of modules: "the module record grows to 20 bytes"
abbrev pub module_stride : ℕ
module_stride = 20

abbrev pub bus_stride : ℕ
bus_stride = 12

-- "the trailer, the last 16 bytes"
abbrev pub trailer_length : ℕ
trailer_length = 16

-- how long the file of so many modules and buses is: the length that "fits exactly"
abbrev pub file_length : ℕ → ℕ → ℕ
file_length modules buses = module_stride * modules + bus_stride * buses + trailer_length

-- the longest file: 292 bytes, where document 01 has "At most 196 bytes."
abbrev pub file_max : ℕ
file_max = module_stride * module_places + bus_stride * bus_places + trailer_length

-- "number, bus, wires, zero (a byte each), cycles (8 bytes)", and "start (8) after cycles"
unfoldable pub module_bytes : PlacedModule → List ℕ
module_bytes m = m.number ∷ m.bus ∷ m.wires.0 ∷ 0 ∷ (little 8 m.cycles.0 ++ little 8 m.start.0)

-- "width, three zeros, busy (8)"
unfoldable pub bus_bytes : Bus → List ℕ
bus_bytes b = b.width.0 ∷ 0 ∷ 0 ∷ 0 ∷ little 8 b.busy.0

-- "offset of the first module record (2, always 0), of the first bus record (2), W, B, buses, modules (a byte each), time (8)"
unfoldable pub trailer_bytes : BusPlan → List ℕ
trailer_bytes p =
    little 2 0
    ++ little 2 (module_stride * p.module_count)
    ++ p.wires.0 ∷ p.limit ∷ p.bus_count ∷ p.module_count ∷ little 8 p.time.0

-- "Per planned module, ascending .. Then per bus .. Then the trailer, the last 16 bytes"
unfoldable pub file_bytes : BusPlan → List ℕ
file_bytes p = each module_bytes (modules_of p) ++ each bus_bytes (buses_of p) ++ trailer_bytes p
