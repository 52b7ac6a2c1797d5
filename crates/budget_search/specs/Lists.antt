-- The search over the lists of widths: what has to be where one is begun.
use Rattle.std.specs.Prelude.{ℕ, suc, ◌*◌, ◌≤◌, List, length, take}
use Rattle.budget_search.specs.Steps.{buses_max}
use Rattle.plan_search.specs.Search.{row_places}
use Rattle.budget_search.specs.Place.{AreWidths}

-- widths before place `at` are set; the next is at least low, and left wires are left
pub record Begun (at low left : ℕ) (ws : List ℕ) : Type 0 where
  pub at_most : suc at ≤ length ws
  pub few : length ws ≤ buses_max
  pub front : AreWidths (take at ws)
  pub some : 1 ≤ low
  pub low_most : low ≤ 2 * row_places
  pub narrow : left ≤ row_places
