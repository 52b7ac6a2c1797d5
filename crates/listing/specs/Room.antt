-- How much room printed lines need: a figure has at most 20 digits and a name at most 32 bytes.
use Rattle.std.specs.Prelude.{ℕ, ◌+◌, ◌*◌}
use Rattle.plan_record.specs.Record.{bus_places, module_places}

-- the line of a refusal, `wires .. time ..`, `soc ..` before it, a bus, a module
abbrev pub refusal_room : ℕ
refusal_room = 55

abbrev pub count_room : ℕ
count_room = 80

abbrev pub name_room : ℕ
name_room = 37

abbrev pub bus_room : ℕ
bus_room = 78

abbrev pub module_room : ℕ
module_room = 135

-- the lines behind the first, and all of them
abbrev pub rest_room : ℕ
rest_room = bus_places * bus_room + module_places * module_room

abbrev pub plan_room : ℕ
plan_room = name_room + count_room + rest_room
