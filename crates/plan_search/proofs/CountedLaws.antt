-- Laws of the search over all lists of widths, by the number of buses: what holds as it rises (`Counted`), and what a part that was
-- lent leaves in the whole. Assumes nothing.
use Prim.Native.Nat.{ℕ, suc, ◌+◌, ◌-◌, ◌*◌, ◌/◌, ◌≤◌, ◌<◌, min}
use mathlib.Core.Path.{◌≡◌, refl, sym, ap, ◌∙◌}
use mathlib.Core.List.{List, [], ◌++◌, map-id}
use native.Mathlib.Omega.{arith}
use native.Mathlib.Nat.{mul_comm, le-div_iff_mul-le, div-lt_iff_lt-mul, div-le_self}
use native.Mathlib.Numerals.{add-one}
use lib.ListN.{length, get_or, take, drop}
use lib.Seq.{length-take-le, length_front}
use Rattle.plan_rules.specs.Plans.{largest}
use Rattle.plan_rules.specs.Listed.{upward, width_lists}
use Rattle.plan_rules.specs.Least.{least_on, Kept, keep_lists, all_lists}
use Rattle.plan_rules.specs.Widths.{none}
use Rattle.plan_rules.proofs.FirstLaws.{keep_append}
use Rattle.plan_search.specs.Search.{search_buses, row_places, table_time, best_max}
use Rattle.plan_search.specs.Lists.{kept, Rooms, group, Group, Sought, Listing}
use Rattle.plan_search.proofs.ListLaws.{lists_group}
use Rattle.plan_search.proofs.SoughtLaws.{sought_le}

-- the whole group of c widths
module _ (ws : List ℕ) (W c : ℕ) (long : length ws ≡ c) (some : 1 ≤ c) (fits : c ≤ W) where
  share_le : c * (W / c) ≤ W
  share_le = omega (arith, (le-div_iff_mul-le some).0 (le_self (W / c)), mul_comm (W / c) c)
    where
      le_self : (n : ℕ) → n ≤ n
      le_self n = omega arith

  pub group-all : c ≤ search_buses → W ≤ row_places → Group 0 1 (W / c) W ws
  unfolding largest
  group-all few narrow = record {
    at_most = omega arith;
    few = omega arith;
    front = none;
    front_most = omega arith;
    some = omega arith;
    upward = (le-div_iff_mul-le some).1 (omega arith);
    share = let z : length ws - 0 ≡ c = omega arith in rw z share_le;
    last = λ e. let o : c ≡ 1 = omega arith in rw o (omega arith);
    narrow = narrow;
  }

  -- it has all lists of c widths
  pub group_lists : group (take 0 ws) (length ws - (0 + 1)) 1 (W / c) W ≡ width_lists c 1 W
  group_lists =
      let k : length ws - (0 + 1) ≡ c - 1 = omega arith in
      let e : suc (c - 1) ≡ c = omega arith in
      rw k (sym (lists_group [] (c - 1) 1 W (W / c) (omega arith) (div-le_self W c) (λ z. let o : c ≡ 1 = omega arith in rw o (omega arith))
      (λ w h. rw e (omega (arith, (div-lt_iff_lt-mul some).0 h, mul_comm w c)))) ∙ rw (map-id, e))

module _ (t : List ℕ) (W B n best₀ : ℕ) (found₀ : List ℕ) where
  abbrev least : List ℕ → ℕ → ℕ
  least = least_on (table_time t) n

  abbrev lists_with : ℕ → List (List ℕ)
  lists_with c = width_lists c 1 W

  -- the lists of at least c widths were not yet searched
  pub record Counted (widths found : List ℕ) (r c : ℕ) : Type 0 where
    pub from : 1 ≤ c
    pub widths_room : length widths ≡ search_buses
    pub found_room : length found ≡ length found₀
    pub count : get_or found 0 0 < length found
    pub small : r ≤ best_max
    pub is : keep_lists least (kept best₀ found₀) (all_lists W B) ≡ keep_lists least (kept r found) (upward (min B W - (c - 1)) c lists_with)

  module _ (l : Listing t W B n best₀ found₀) where
    pub counted-first : (widths : List ℕ) → length widths ≡ search_buses → Counted widths found₀ best₀ 1
    unfolding all_lists
    counted-first widths e = record {
      from = omega arith;
      widths_room = e;
      found_room = refl;
      count = l.rooms.count;
      small = l.small;
      is = let z : min B W - (1 - 1) ≡ min B W = omega arith in rw z;
    }

    module _ {widths found : List ℕ} {r c : ℕ} (s : Counted widths found r c) where
      -- all were searched
      pub counted-last : min B W < c → kept r found ≡ keep_lists least (kept best₀ found₀) (all_lists W B)
      unfolding upward keep_lists
      counted-last h =
          let f = s.from in
          let e : min B W - (c - 1) ≡ 0 = omega arith in
          sym (s.is ∙ rw e)

      module _ (h : c ≤ min B W) where
        widths_lent : length (take c widths) ≡ c
        widths_lent = length-take-le c widths (omega (arith, s.widths_room, l.limit))

        lists_step : upward (min B W - (c - 1)) c lists_with ≡ lists_with c ++ upward (min B W - (c + 1 - 1)) (c + 1) lists_with
        unfolding upward
        lists_step =
            let e : min B W - (c - 1) ≡ suc (min B W - (c + 1 - 1)) = omega (arith, s.from) in
            rw (e, add-one c)

        pub group_lent : Group 0 1 (W / c) W (take c widths)
        group_lent = group-all (take c widths) W c widths_lent s.from (omega arith) (omega (arith, l.limit)) l.narrow

        pub rooms_lent : Rooms (length (take c widths)) found
        rooms_lent = record { places = omega (arith, widths_lent, s.found_room, l.rooms.places, l.limit); count = s.count }

        -- the lists of c widths were searched
        pub counted_next : (widths' found' : List ℕ) (r' : ℕ) → length widths' ≡ length (take c widths)
            → Sought t n (group (take 0 (take c widths)) (length (take c widths) - (0 + 1)) 1 (W / c) W) r found r' found' → Counted
            (widths' ++ drop c widths) found' r' (c + 1)
        counted_next widths' found' r' e q = record {
          from = omega arith;
          widths_room = length_front widths widths' c e ∙ s.widths_room;
          found_room = q.same_room ∙ s.found_room;
          count = q.count;
          small = omega (arith, s.small, sought_le _ q);
          is =
              s.is ∙ ap (keep_lists least (kept r found)) lists_step
              ∙ keep_append least (kept r found) (lists_with c) later
              ∙ ap (λ (m : Kept). keep_lists least m later) (sym sought);
        }
          where
            later : List (List ℕ)
            later = upward (min B W - (c + 1 - 1)) (c + 1) lists_with

            sought : kept r' found' ≡ keep_lists least (kept r found) (lists_with c)
            sought = rw (group_lists (take c widths) W c widths_lent s.from (omega arith)) at q.is
