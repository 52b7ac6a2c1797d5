-- `plan::tables::with_times` meets its contract. The loop's invariant: the first `j` times and wires stand in the places of module `k`, and nothing
-- else has changed. Assumes nothing.
use Prim.Native.Nat.{ℕ, ◌+◌, ◌*◌, ◌≤◌, ◌<◌}
use mathlib.Core.Path.{◌≡◌}
use mathlib.Core.List.{List}
use lib.ListN.{length, get_or}
use Rattle.wrapper_fit.specs.Counts as counts
use Rattle.plan_search.specs.Search.{row_places}
use Rattle.plan.specs.Tables.{table_places}
use Rattle.plan.proofs.tables.with_times.Given as goal

-- the first j values of xs stand from `at` on in what was old, and nothing else has changed
pub record Stands {A : Type 0} (f : A → ℕ) (z : A) (at j : ℕ) (xs : List A) (old new : List ℕ) : Type 0 where
  pub long : length new ≡ table_places
  pub here : (w : ℕ) → w < j → get_or new (at + w) 0 ≡ f (get_or xs w z)
  pub front : (i : ℕ) → i < at → get_or new i 0 ≡ get_or old i 0
  pub behind : (i : ℕ) → at + j ≤ i → get_or new i 0 ≡ get_or old i 0

abbrev pub invariant-loop-j : goal.invariant-loop-j
invariant-loop-j l = Stands (λ c. c.0) (counts.cycles 0) (l.k * row_places) l.j l.times.cycles l.fn.t.cycles l.t.cycles
    × Stands (λ c. c.0) (counts.wires 0) (l.k * row_places) l.j l.times.wires l.fn.t.wires l.t.wires
