-- Laws of the answer: it is that of what record and buffer hold, and what was sought can be read from it. Assumes nothing.
use Prim.Native.Nat.{ℕ, ◌≤◌, ◌<◌, min}
use mathlib.Core.Path.{◌≡◌, refl, sym}
use mathlib.Core.Bool.{Bool, true, false}
use mathlib.Core.List.{List}
use native.Mathlib.Omega.{arith}
use lib.ListN.{length, get_or, take, drop, length-drop}
use lib.Seq.{length-take-le}
use borrow.Author.Tests.{lt-ltb, le-ltb}
use Rattle.units.specs.Places.{padded}
use Rattle.units.proofs.PlaceLaws.{padded-take}
use Rattle.plan_rules.specs.Plans.{Plan}
use Rattle.budget_rules.specs.Tries.{Best}
use Rattle.budget_search.specs.declared.steps.Progress.{Progress}
use Rattle.budget_search.specs.Steps.{buses_max, modules_max, no_time, stops, plan_in, held_in}
use Rattle.budget_search.specs.Place.{Rooms}
use Rattle.budget_search.specs.Within.{none_found, spent_by, spent_of, sought_in}

module _ (n budget : ℕ) (s : Progress) (best : List ℕ) where
  pub spent_unknown : no_time ≤ s.best
      → spent_of (held_in n budget s best)
      ≡ record {
        known = false;
        stopped = stops budget s;
        tries = min budget s.tries;
        found = none_found;
      }
  unfolding spent_by
  spent_unknown h = rw (le-ltb s.best no_time h)

  pub spent_known : {ws bs : List ℕ} → s.best < no_time → Rooms best
      → ws ≡ padded buses_max 0 (plan_in n best).widths → bs ≡ padded modules_max 0 (plan_in n best).buses
      → spent_of (held_in n budget s best)
      ≡ record {
        known = true;
        stopped = stops budget s;
        tries = min budget s.tries;
        found = record { count = get_or best 0 0; widths = ws; buses = bs; time = record { 0 = s.best } };
      }
  unfolding spent_by
  spent_known h r w b =
      let c : length (take (get_or best 0 0) (drop 1 best)) ≡ get_or best 0 0 =
      length-take-le (get_or best 0 0) (drop 1 best) (simp length-drop (omega (arith, r.places, r.count))) in
      rw (lt-ltb s.best no_time h, w, b, c)

-- what an answer for n modules holds is what was sought
pub spent_back : (n : ℕ) (b : Best) (stopped : Bool) (tries : ℕ) → ((t : ℕ) (p : Plan) → b ≡ Best.known t p → length p.buses ≡ n)
    → sought_in n (spent_by b stopped tries) ≡ record { best = b; stopped = stopped; tries = tries }
unfolding spent_by
spent_back n Best.unknown stopped tries h = refl
spent_back n (Best.known t p) stopped tries h =
    let e : n ≡ length p.buses = sym (h t p refl) in
    rw (padded-take buses_max 0 p.widths, e, padded-take modules_max 0 p.buses)
