-- Plan files written and read (document 01, "The plan file" and "Refusal numbers"; document 02, item 1): "Plan file writer: 12, 11."
use Rattle.std.specs.Prelude.{ℕ, ◌+◌, ◌-◌, ◌*◌, Bool, cond, ◌&&◌, List, length, leb, eqb, Result, Ok, Err}
use Rattle.units.specs.Refusals.{refused}
use Rattle.units.specs.declared.Fault.TheVariants.{BadPlan}
use Rattle.units.specs.declared.Refusal.{Refusal}
use Rattle.units.specs.Places.{all_of, padded}
use Rattle.little_endian.specs.Little.{byte, number_at}
use Rattle.little_endian.specs.Rows.{rows}
use Rattle.buffer.specs.Puts.{put_front}
use Rattle.buffer.specs.WriterAnswers.{written}
use Rattle.wrapper_fit.specs.Counts.{wires, cycles}
use Rattle.plan_record.specs.Record.{bus_places, module_places, no_bus, no_placed}
use Rattle.plan_record.specs.declared.record.Bus.{Bus}
use Rattle.plan_record.specs.declared.record.PlacedModule.{PlacedModule}
use Rattle.plan_record.specs.declared.record.BusPlan.{BusPlan}
use Rattle.plan_record.specs.Good.{good_plan}
use Rattle.plan_file.specs.Bytes.{module_stride, bus_stride, trailer_length, file_length, file_bytes}

-- what the writer answers, which is how many bytes were written, and what the lent buffer then holds
unfoldable pub write_answer : BusPlan → List ℕ → Result ℕ Refusal
write_answer p buf = cond (good_plan p) (written (file_bytes p) buf) (Err (refused BadPlan 0))

unfoldable pub write_leaves : BusPlan → List ℕ → List ℕ
write_leaves p buf = cond (good_plan p) (put_front (file_bytes p) buf) buf

-- the record at a place: "number, bus, wires, zero (a byte each), cycles (8 bytes)" with "start (8) after cycles", and "width, three zeros,
-- busy (8)"
abbrev pub module_at : List ℕ → ℕ → PlacedModule
module_at f at =
    record {
      number = byte f at;
      bus = byte f (at + 1);
      wires = wires (byte f (at + 2));
      cycles = cycles (number_at 8 f (at + 4));
      start = cycles (number_at 8 f (at + 12));
    }

abbrev pub bus_at : List ℕ → ℕ → Bus
bus_at f at = record { width = wires (byte f at); busy = cycles (number_at 8 f (at + 4)) }

-- "the trailer, the last 16 bytes, which points back"
abbrev pub trailer : List ℕ → ℕ
trailer f = length f - trailer_length

abbrev pub module_count : List ℕ → ℕ
module_count f = byte f (trailer f + 7)

abbrev pub bus_count : List ℕ → ℕ
bus_count f = byte f (trailer f + 6)

-- the place of the first bus record, behind the records of the modules
abbrev pub bus_offset : List ℕ → ℕ
bus_offset f = module_stride * module_count f

-- what a file says
unfoldable pub plan_in : List ℕ → BusPlan
plan_in f =
    record {
      wires = wires (byte f (trailer f + 4));
      limit = byte f (trailer f + 5);
      bus_count = bus_count f;
      buses = padded bus_places no_bus (rows (bus_at f) bus_stride (bus_count f) (bus_offset f));
      module_count = module_count f;
      modules = padded module_places no_placed (rows (module_at f) module_stride (module_count f) 0);
      time = cycles (number_at 8 f (trailer f + 8));
    }

-- "zero bytes are 0": of the record at a place, and of n records from a place on
unfoldable pub zero_module : List ℕ → ℕ → Bool
zero_module f at = eqb (byte f (at + 3)) 0

unfoldable pub zero_bus : List ℕ → ℕ → Bool
zero_bus f at = eqb (byte f (at + 1)) 0 && (eqb (byte f (at + 2)) 0 && eqb (byte f (at + 3)) 0)

abbrev pub zero_modules : List ℕ → ℕ → Bool
zero_modules f n = all_of (zero_module f) (rows (λ at. at) module_stride n 0)

abbrev pub zero_buses : List ℕ → ℕ → ℕ → Bool
zero_buses f n from = all_of (zero_bus f) (rows (λ at. at) bus_stride n from)

-- "the length fits exactly": the trailer is there, the counts keep their limits, and the records and the trailer are all
unfoldable pub good_length : List ℕ → Bool
good_length f =
    leb trailer_length (length f)
    && (leb (module_count f) module_places
    && (leb (bus_count f) bus_places && eqb (length f) (file_length (module_count f) (bus_count f))))

-- the offsets of the first module record, "always 0", and of the first bus record: "bus offset 20 × modules"
unfoldable pub good_offsets : List ℕ → Bool
good_offsets f = eqb (number_at 2 f (trailer f)) 0 && eqb (number_at 2 f (trailer f + 2)) (bus_offset f)

-- a good file: by `good_plan` it "has exactly these starts"
unfoldable pub good_file : List ℕ → Bool
good_file f =
    good_length f
    && (good_plan (plan_in f) && (zero_modules f (module_count f) && (zero_buses f (bus_count f) (bus_offset f) && good_offsets f)))

-- what the reader answers
unfoldable pub read_answer : List ℕ → Result BusPlan Refusal
read_answer f = cond (good_file f) (Ok (plan_in f)) (Err (refused BadPlan 0))
