-- Laws of the search over the bus counts: what holds as the count rises (`Counted`), and the answer. Assumes nothing.
use Prim.Native.Nat.{ℕ, suc, ◌+◌, ◌-◌, ◌≤◌, ◌<◌, min}
use mathlib.Core.Path.{◌≡◌, sym, ap, ◌∙◌}
use mathlib.Core.List.{List, ◌++◌, map, map-id}
use native.Mathlib.Omega.{arith}
use native.Mathlib.Numerals.{add-one}
use lib.ListN.{length, take, drop}
use lib.Seq.{length-take-le, length_front}
use borrow.Author.Tests.{le-ltb}
use Rattle.plan_rules.specs.Listed.{width_lists}
use Rattle.budget_rules.specs.Tries.{Sought, on_lists, on_counts, searched}
use Rattle.budget_search.specs.declared.steps.Progress.{Progress}
use Rattle.budget_search.specs.Steps.{buses_max, no_time, held_in}
use Rattle.plan_search.specs.Search.{table_time}
use Rattle.budget_search.specs.Place.{Rooms}
use Rattle.budget_search.specs.Within.{Limits}

module _ (t : List ℕ) (W B n budget : ℕ) where
  -- the lists of at least c widths were not yet searched
  pub record Counted (widths best : List ℕ) (r : Progress) (most c : ℕ) : Type 0 where
    pub from : 1 ≤ c
    pub upto : c ≤ most + 1
    pub most_is : most ≡ min B W
    pub widths_room : length widths ≡ buses_max
    pub rooms : Rooms best
    pub is : searched (table_time t) W B n budget ≡ on_counts (table_time t) W budget n (most + 1 - c) c (held_in n budget r best)

  pub counted-first : {widths best : List ℕ} {most : ℕ} → most ≡ min B W → length widths ≡ buses_max → Rooms best
      → Counted widths best (record { best = no_time; tries = 0 }) most 1
  unfolding searched
  counted-first {most = most} m w r = record {
    from = omega arith;
    upto = omega arith;
    most_is = m;
    widths_room = w;
    rooms = r;
    is =
        let z : most + 1 - 1 ≡ min B W = omega arith in
        let none : min budget 0 ≡ 0 = omega arith in
        rw (z, le-ltb budget 0 (omega arith), none);
  }

  module _ {widths best : List ℕ} {r : Progress} {most c : ℕ} (s : Counted widths best r most c) where
    -- all were searched
    pub counted-last : most < c → held_in n budget r best ≡ searched (table_time t) W B n budget
    unfolding on_counts
    counted-last h = let z : most + 1 - c ≡ 0 = omega arith in sym (s.is ∙ rw z)

    module _ (l : Limits t W B n budget) (h : c ≤ most) where
      few : c ≤ buses_max
      few = omega (arith, s.most_is, l.limit)

      lent : length (take c widths) ≡ c
      lent = length-take-le c widths (omega (arith, s.widths_room, few))

      counts_step : (q : Sought)
          → on_counts (table_time t) W budget n (most + 1 - c) c q
          ≡ on_counts (table_time t) W budget n (most + 1 - (c + 1)) (c + 1) (on_lists (table_time t) budget n (width_lists c 1 W) q)
      unfolding on_counts
      counts_step q = let e : most + 1 - c ≡ suc (most + 1 - (c + 1)) = omega arith in rw (e, add-one c)

      -- the lists of c widths were searched
      pub counted_next : (widths' : List ℕ) {best' : List ℕ} {r' : Progress} → length widths' ≡ length (take c widths) → Rooms best'
          → held_in n budget r' best' ≡ on_lists (table_time t) budget n
          (map (λ ws. take 0 (take c widths) ++ ws) (width_lists (length (take c widths) - 0) 1 W)) (held_in n budget r best)
          → Counted (widths' ++ drop c widths) best' r' most (c + 1)
      counted_next widths' {best'} {r'} e m q =
          let z : length (take c widths) - 0 ≡ c = omega (arith, lent) in
          let is' : held_in n budget r' best' ≡ on_lists (table_time t) budget n (width_lists c 1 W) (held_in n budget r best) =
          q ∙ rw (z, map-id) in
          record {
            from = omega arith;
            upto = omega arith;
            most_is = s.most_is;
            widths_room = length_front widths widths' c e ∙ s.widths_room;
            rooms = m;
            is = s.is ∙ counts_step (held_in n budget r best)
                ∙ ap (on_counts (table_time t) W budget n (most + 1 - (c + 1)) (c + 1)) (sym is');
          }
