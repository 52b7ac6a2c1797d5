-- The search with a spending limit (document 02, item 7), for any times and any number of buses and modules: "It goes through bus counts,
-- width lists and bus numbers in the order of plans: placing a module tries each bus in turn, and each try goes on to place the next
-- module." Nothing of how code holds it: busy figures and bus numbers are lists that are handed on.
use Rattle.std.specs.Prelude.{ℕ, zero, suc, ◌+◌, min, Bool, false, true, cond, List, [], ◌∷◌, ◌++◌, length, get_or, set, replicate, leb, ltb}
use Rattle.plan_rules.specs.Plans.{Plan, largest}
use Rattle.plan_rules.specs.Listed.{plan, width_lists}

-- "the best plan so far", and its time
pub data Best : Type 0 where
  unknown : Best
  known : ℕ → Plan → Best

-- "The best plan so far and the tries spent go along through the whole search": and whether a try was due with the budget spent
pub record Sought : Type 0 where
  pub best : Best
  pub stopped : Bool
  pub tries : ℕ

-- "no longer below the best time known; while no plan is known nothing is dropped"
unfoldable pub reached : Best → ℕ → Bool
reached Best.unknown t = false
reached (Best.known best p) t = leb best t

-- "A completed placement becomes the best plan exactly when none is known or its time is lower."
abbrev pub keep : Sought → ℕ → Plan → Sought
keep s t p = cond (reached s.best t) s (record { best = Best.known t p; stopped = s.stopped; tries = s.tries })

-- "A try counts as one."
abbrev pub counted : Sought → Sought
counted s = record { best = s.best; stopped = s.stopped; tries = s.tries + 1 }

-- "The search stops where a try is due and the budget is spent."
abbrev pub halted : Sought → Sought
halted s = record { best = s.best; stopped = true; tries = s.tries }

-- f at each of j numbers from b on, in turn
unfoldable pub each : ℕ → ℕ → (ℕ → Sought → Sought) → Sought → Sought
each zero b f s = s
each (suc j) b f s = each j (b + 1) f (f b s)

-- the busy figure of bus b, from 0, with module i added
abbrev pub busy_with : (ℕ → ℕ → ℕ) → List ℕ → ℕ → List ℕ → ℕ → ℕ
busy_with time ws i l b = get_or l b 0 + time i (get_or ws b 0)

-- one try of a bus: it is "dropped when its bus's busy figure is no longer below the best time known", else it "goes on"
abbrev pub tried : ℕ → ℕ → (Sought → Sought) → Sought → Sought
tried budget busy on s = cond (ltb s.tries budget) (cond (reached s.best busy) (counted s) (on (counted s))) (halted s)

-- "placing a module tries each bus in turn": k modules from module i on, on buses of widths ws with busy figures l; bs are the bus numbers of the
-- modules before
unfoldable pub placed : (ℕ → ℕ → ℕ) → List ℕ → ℕ → ℕ → ℕ → List ℕ → List ℕ → Sought → Sought
placed time ws budget zero i l bs s = keep s (largest l) (plan ws bs)
placed time ws budget (suc k) i l bs s =
    each (length ws) 0 (λ b. tried budget (busy_with time ws i l b) (λ r. placed time ws budget k (i + 1) (set l b (busy_with time ws i l b)) (bs ++ (b + 1) ∷ []) r)) s

-- n modules on buses of these widths, all free
abbrev pub placed_on : (ℕ → ℕ → ℕ) → ℕ → ℕ → List ℕ → Sought → Sought
placed_on time budget n ws s = placed time ws budget n 0 (replicate (length ws) 0) [] s

-- width lists, one behind the other
unfoldable pub on_lists : (ℕ → ℕ → ℕ) → ℕ → ℕ → List (List ℕ) → Sought → Sought
on_lists time budget n [] s = s
on_lists time budget n (ws ∷ wss) s = on_lists time budget n wss (placed_on time budget n ws s)

-- k bus counts from c on
unfoldable pub on_counts : (ℕ → ℕ → ℕ) → ℕ → ℕ → ℕ → ℕ → ℕ → Sought → Sought
on_counts time W budget n zero c s = s
on_counts time W budget n (suc k) c s = on_counts time W budget n k (suc c) (on_lists time budget n (width_lists c 1 W) s)

abbrev pub begin : Sought
begin = record { best = Best.unknown; stopped = false; tries = 0 }

-- the whole search for W wires, limit B and n planned modules
unfoldable pub searched : (ℕ → ℕ → ℕ) → ℕ → ℕ → ℕ → ℕ → Sought
searched time W B n budget = on_counts time W budget n (min B W) 1 begin
