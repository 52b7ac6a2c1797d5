-- What the tables of times hold (document 01, "The plan" over "The wrapper rule"): a row for each planned module, with a place for each
-- width.
use Rattle.std.specs.Prelude.{ℕ, ◌+◌, ◌-◌, ◌*◌, ◌≤◌, ◌<◌, ◌≡◌, true, length, get_or}
use Rattle.soc.specs.Rules.{good_soc}
use Rattle.soc.specs.Planned.{planned_of, planned_is}
use Rattle.soc.specs.declared.planned.Planned.{Planned}
use Rattle.soc.specs.declared.record.Soc.{Soc}
use Rattle.wrapper_fit.specs.Counts.{wires, cycles}
use Rattle.wrapper_fit.specs.Maxima.{width_max, capture_max}
use Rattle.wrapper_times.specs.declared.times.Times.{Times}
use Rattle.plan_record.specs.Record.{module_places}
use Rattle.plan_search.specs.Search.{row_places}
use Rattle.plan.specs.PlanAnswers.{time_in, wires_in}
use Rattle.plan.specs.declared.tables.Tables.{Tables}

-- the places of a table
abbrev pub table_places : ℕ
table_places = module_places * row_places

-- tables can be made: p has the planned modules of a good SOC, no more than a plan record has places for, W is a width, and c is a number of capture
-- cycles
pub record Plannable (c : ℕ) (s : Soc) (p : Planned) (W : ℕ) : Type 0 where
  pub good : good_soc s ≡ true
  pub numbers : p ≡ planned_is (planned_of s)
  pub most : length (planned_of s) ≤ module_places
  pub low : 1 ≤ W
  pub narrow : W ≤ width_max
  pub captures : 1 ≤ c
  pub capturing : c ≤ capture_max

-- the times of a module stand in the places of module k, and the places of the others are as they were
pub record TimesStand (t : Tables) (k : ℕ) (times : Times) (r : Tables) : Type 0 where
  pub cycles_here : (w : ℕ) → w < row_places → get_or r.cycles (k * row_places + w) 0 ≡ (get_or times.cycles w (cycles 0)).0
  pub wires_here : (w : ℕ) → w < row_places → get_or r.wires (k * row_places + w) 0 ≡ (get_or times.wires w (wires 0)).0
  pub cycles_else : (j : ℕ) → (j < k * row_places → get_or r.cycles j 0 ≡ get_or t.cycles j 0)
      × (k * row_places + row_places ≤ j → get_or r.cycles j 0 ≡ get_or t.cycles j 0)
  pub wires_else : (j : ℕ) → (j < k * row_places → get_or r.wires j 0 ≡ get_or t.wires j 0)
      × (k * row_places + row_places ≤ j → get_or r.wires j 0 ≡ get_or t.wires j 0)

-- the times and wires of the first n planned modules stand in their places, width by width up to W, and 0 in all others
pub record TablesAre (c : ℕ) (s : Soc) (W n : ℕ) (t : Tables) : Type 0 where
  pub cycles_are : (i w : ℕ) → i < n → 1 ≤ w → w ≤ W → get_or t.cycles (i * row_places + (w - 1)) 0 ≡ time_in c s i w
  pub wires_are : (i w : ℕ) → i < n → 1 ≤ w → w ≤ W → get_or t.wires (i * row_places + (w - 1)) 0 ≡ wires_in c s i w
  pub past : (i j : ℕ) → i < n → W ≤ j → j < row_places → get_or t.cycles (i * row_places + j) 0 ≡ 0
  pub spare : (j : ℕ) → n * row_places ≤ j → get_or t.cycles j 0 ≡ 0
