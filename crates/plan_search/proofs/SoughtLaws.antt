-- Laws of `Sought`: the first list of least time, over one list, over lists that are skipped, and over lists that are joined. Assumes
-- nothing.
use Prim.Native.Nat.{ℕ, ◌+◌, ◌-◌, ◌≤◌, ◌<◌}
use mathlib.Core.Path.{◌≡◌, refl, sym, ap, ◌∙◌}
use mathlib.Core.Logic.{⊎_elim}
use mathlib.Core.List.{List, [], ◌∷◌, ◌++◌}
use native.Mathlib.Omega.{arith}
use native.Mathlib.Nat.{eq-or-lt_of_le}
use lib.ListN.{length, drop, length-append, length-drop}
use lib.Seq.{take-append_seam}
use borrow.Author.Tests.{lt-ltb, le-ltb}
use Rattle.plan_rules.specs.Plans.{time_of}
use Rattle.plan_rules.specs.Least.{least_on, Kept, keep, keep_lists}
use Rattle.plan_rules.proofs.FirstLaws.{least_le, keep_append, keep_le}
use Rattle.plan_search.specs.Search.{table_time}
use Rattle.plan_search.specs.Least.{Reaches}
use Rattle.plan_search.specs.Lists.{kept, Rooms, Sought}

-- a time below best was sought, and is not found
pub not_found : (t ws : List ℕ) (n best r : ℕ) → 1 ≤ best → best ≤ r → Reaches (least_on (table_time t) n ws best) (best - 1) r
    → least_on (table_time t) n ws best ≡ best
not_found t ws n best r some h q = omega (arith, q.exact (omega arith), least_le (time_of (table_time t)) n ws best)

-- nothing is enough but the least itself
pub found-exact : {least r : ℕ} → Reaches least 0 r → r ≡ least
found-exact {least} {r} q = ⊎_elim (λ z. omega (arith, q.lower, z)) (λ l. q.exact l) (eq-or-lt_of_le (zero_le r))
  where
    zero_le : (n : ℕ) → 0 ≤ n
    zero_le n = omega arith

-- the least time on buses of the widths ws was sought
module _ {t ws found : List ℕ} {n best r : ℕ} (rooms : Rooms (length ws) found) (least : r ≡ least_on (table_time t) n ws best) where
  -- it is less: the widths are kept
  pub sought_less : (found' : List ℕ) → r < best → found' ≡ length ws ∷ ws ++ drop (length ws + 1) found
      → Sought t n (ws ∷ []) best found r found'
  unfolding keep_lists keep
  sought_less found' h e =
      let places = rooms.places in
      let l : length found' ≡ length found = ap length e ∙ simp (length-append, length-drop) (omega arith) in
      let b = lt-ltb r best h in
      record {
        is = rw (← least, b, e, take-append_seam ws (drop (length ws + 1) found));
        count = rw l (rw e rooms.places);
        same_room = l;
      }

  -- it is not
  pub sought-same : best ≤ r → Sought t n (ws ∷ []) best found r found
  unfolding keep_lists keep
  sought-same h =
      let e : r ≡ best = omega (arith, least, least_le (time_of (table_time t)) n ws best) in
      let b = le-ltb r best h in
      record { is = rw (← least, b, e); count = rooms.count; same_room = refl }

-- the lists are skipped
pub sought-none : {t found : List ℕ} {n c best : ℕ} (wss : List (List ℕ)) → Rooms c found
    → keep_lists (least_on (table_time t) n) (kept best found) wss ≡ kept best found
    → Sought t n wss best found best found
sought-none wss rooms e = record { is = sym e; count = rooms.count; same_room = refl }

-- other lists were sought behind these
pub sought-append : {t found found' found'' : List ℕ} {n best best' best'' : ℕ} (vss wss : List (List ℕ))
    → Sought t n vss best found best' found' → Sought t n wss best' found' best'' found'' → Sought t n (vss ++ wss) best found best'' found''
sought-append {t} {found = found} {n = n} {best = best} vss wss a b = record {
  is = b.is ∙ ap (λ (k : Kept). keep_lists (least_on (table_time t) n) k wss) a.is ∙ sym (keep_append (least_on (table_time t) n) (kept best found) vss wss);
  count = b.count;
  same_room = b.same_room ∙ a.same_room;
}

-- what is found takes no more than what was known
pub sought_le : {t found found' : List ℕ} {n best best' : ℕ} (wss : List (List ℕ)) → Sought t n wss best found best' found' → best' ≤ best
sought_le {t} {found = found} {n = n} {best = best} wss s =
    let e = ap (λ (k : Kept). k.time) s.is in
    omega (arith, e, keep_le (least_on (table_time t) n) (kept best found) wss)

-- the lists may be named otherwise
pub sought_as : {t found found' : List ℕ} {n best best' : ℕ} {wss wss' : List (List ℕ)} → wss' ≡ wss
    → Sought t n wss best found best' found' → Sought t n wss' best found best' found'
sought_as e s = rw e s

-- the buffer has places for the widths of the search that follows
pub sought-rooms : {t found found' : List ℕ} {n c c' best best' : ℕ} (wss : List (List ℕ)) → Rooms c found → c' ≡ c
    → Sought t n wss best found best' found' → Rooms c' found'
sought-rooms wss rooms e s = record { places = omega (arith, rooms.places, s.same_room); count = s.count }
