-- A plan record as bytes: 1,212 of them. Each bus and each planned module has its place, spare ones included.
use Rattle.std.specs.Prelude.{ℕ, ◌+◌, ◌*◌, cond, List, [], ◌∷◌, ◌++◌, length, eqb}
use Rattle.little_endian.specs.Rows.{each, rows}
use Rattle.wrapper_fit.specs.Counts.{wires, cycles}
use Rattle.plan_record.specs.Record.{bus_places, module_places, no_plan}
use Rattle.plan_record.specs.declared.record.Bus.{Bus}
use Rattle.plan_record.specs.declared.record.PlacedModule.{PlacedModule}
use Rattle.plan_record.specs.declared.record.BusPlan.{BusPlan}
use Rattle.c_forms.specs.Words.{word_length, long_length, word, long, long_at, words, word_at}

-- how many bytes a bus has: 12
abbrev pub bus_stride : ℕ
bus_stride = word_length + long_length

-- in a planned module, where its cycles begin, and its start, and how many bytes it has: 12, 20 and 28
abbrev pub cycles_from : ℕ
cycles_from = word_length * 3

abbrev pub start_from : ℕ
start_from = cycles_from + long_length

abbrev pub placed_stride : ℕ
placed_stride = start_from + long_length

-- in a record, where its time begins, its buses and its planned modules, and how many bytes it has: 16, 24, 120 and 1,212
abbrev pub time_from : ℕ
time_from = word_length * 4

abbrev pub buses_from : ℕ
buses_from = time_from + long_length

abbrev pub placed_from : ℕ
placed_from = buses_from + bus_stride * bus_places

abbrev pub plan_length : ℕ
plan_length = placed_from + placed_stride * module_places

-- width, busy
unfoldable pub bus_bytes : Bus → List ℕ
bus_bytes b = word b.width.0 ++ long b.busy.0

abbrev pub bus_at : List ℕ → ℕ → Bus
bus_at b at = record { width = wires (word_at b at 0); busy = cycles (long_at b (at + word_length)) }

-- number, bus, wires, cycles, start
abbrev pub placed_words : PlacedModule → List ℕ
placed_words m = m.number ∷ m.bus ∷ m.wires.0 ∷ []

unfoldable pub placed_bytes : PlacedModule → List ℕ
placed_bytes m = words (placed_words m) ++ long m.cycles.0 ++ long m.start.0

abbrev pub placed_at : List ℕ → ℕ → PlacedModule
placed_at b at =
    record {
      number = word_at b at 0;
      bus = word_at b at 1;
      wires = wires (word_at b at 2);
      cycles = cycles (long_at b (at + cycles_from));
      start = cycles (long_at b (at + start_from));
    }

-- W, B, number of buses, number of modules, time; the buses; the planned modules
abbrev pub count_words : BusPlan → List ℕ
count_words p = p.wires.0 ∷ p.limit ∷ p.bus_count ∷ p.module_count ∷ []

unfoldable pub count_bytes : BusPlan → List ℕ
count_bytes p = words (count_words p) ++ long p.time.0

unfoldable pub plan_bytes : BusPlan → List ℕ
plan_bytes p = count_bytes p ++ each bus_bytes p.buses ++ each placed_bytes p.modules

unfoldable pub plan_at : List ℕ → BusPlan
plan_at b =
    record {
      wires = wires (word_at b 0 0);
      limit = word_at b 0 1;
      bus_count = word_at b 0 2;
      buses = rows (bus_at b) bus_stride bus_places buses_from;
      module_count = word_at b 0 3;
      modules = rows (placed_at b) placed_stride module_places placed_from;
      time = cycles (long_at b time_from);
    }

-- bytes of another length are no record, and the plan that says nothing stands for them: it is not good (12)
unfoldable pub plan_in : List ℕ → BusPlan
plan_in b = cond (eqb (length b) plan_length) (plan_at b) no_plan
