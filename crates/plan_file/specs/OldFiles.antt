-- Plan files as they were before a module's start stood in them (document 01, "The plan file"): document 02, item 1, has "a file of the old
-- 12-byte records is 12".
use Rattle.std.specs.Prelude.{ℕ, ◌+◌, ◌*◌, ◌≤◌, ◌≡◌, List, length}
use Rattle.plan_file.specs.Bytes.{bus_stride, trailer_length}
use Rattle.plan_file.specs.Files.{module_count, bus_count}

-- "Little-endian, 12-byte records.", of modules too
abbrev pub old_stride : ℕ
old_stride = 12

-- what every good file of that form keeps: "the trailer, the last 16 bytes", "modules 1 to 12" and "the length fits exactly"
pub record IsOld (f : List ℕ) : Type 0 where
  pub long : trailer_length ≤ length f
  pub some : 1 ≤ module_count f
  pub exact : length f ≡ old_stride * module_count f + bus_stride * bus_count f + trailer_length
