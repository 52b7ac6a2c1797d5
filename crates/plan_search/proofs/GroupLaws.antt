-- Laws of groups of width lists: what the widest of a group is, when all of a group may be skipped, and how a group falls into others.
-- Assumes nothing.
use Prim.Native.Nat.{ℕ, suc, ◌+◌, ◌-◌, ◌*◌, ◌/◌, ◌≤◌, ◌<◌}
use mathlib.Core.Path.{◌≡◌, refl, sym, ap, ◌∙◌, subst}
use mathlib.Core.Logic.{⊎_elim}
use mathlib.Core.List.Memᴰ
use mathlib.Core.List.{List, [], ◌∷◌, ◌++◌, map, append_assoc, append-nil, Memᴰ}
use native.Mathlib.Omega.{arith}
use native.Mathlib.Numerals.{add-one}
use native.Mathlib.Nat.{eq-or-lt_of_le, suc-mul, mul_comm, mul-le-mul_left, le-div_iff_mul-le, div-lt_iff_lt-mul, div-le_self}
use lib.ListN.{length, take, set, length-append, length-set}
use lib.Seq.{take-suc-set, take_all, take_at, length-take-le}
use Rattle.plan_rules.specs.Plans.{largest}
use Rattle.plan_rules.specs.Listed.{upward, width_lists}
use Rattle.plan_rules.specs.Least.{least_on, Kept, keep_lists}
use Rattle.plan_rules.specs.Widths.{Rising, none, more, Wider, wider, widest}
use Rattle.plan_rules.proofs.ListLaws.{upward_of}
use Rattle.plan_rules.proofs.ListedLaws.{widths_sound}
use Rattle.plan_rules.proofs.BusyLaws.{largest-append}
use Rattle.plan_rules.proofs.FirstLaws.{keep-none}
use Rattle.plan_rules.proofs.WiderLaws.{wider-behind, wider-none, widest-wider, length-widest, widest-most, widest-rising, rising-behind}
use Rattle.plan_search.specs.Search.{row_places, table_time, IsTable, AreWidths}
use Rattle.plan_search.specs.Lists.{starting_with, group, Group}
use Rattle.plan_rules.proofs.WidthListLaws.{upward-append, width_lists-one}
use Rattle.plan_search.proofs.ListLaws.{lists_group}

share_of : (k m high left : ℕ) → m ≤ high → k * high ≤ left → k * m ≤ left
share_of k m high left h s = omega (arith, mul-le-mul_left k h)

-- the widths that are set, and one more behind them
module _ {ws : List ℕ} {at low high left : ℕ} (g : Group at low high left ws) where
  front_length : length (take at ws) ≡ at
  front_length = length-take-le at ws (omega (arith, g.at_most))

  pub high-left : high ≤ left
  high-left =
      let e : length ws - at ≡ suc (length ws - (at + 1)) = omega (arith, g.at_most) in
      omega (arith, rw e at g.share, suc-mul (length ws - (at + 1)) high)

  -- the widest that a list of the group can be
  abbrev pub wide : List ℕ
  wide = take at ws ++ high ∷ widest (length ws - (at + 1)) low (left - low)

  behind-share : (length ws - (at + 1)) * high ≤ left - low
  behind-share =
      let e : length ws - at ≡ suc (length ws - (at + 1)) = omega (arith, g.at_most) in
      let s = rw e at g.share in
      omega (arith, s, suc-mul (length ws - (at + 1)) high, g.upward)

  behind-room : (length ws - (at + 1)) * low ≤ left - low
  behind-room = share_of (length ws - (at + 1)) low high (left - low) g.upward behind-share

  pub wide-length : length wide ≡ length ws
  wide-length = simp (length-append, front_length, length-widest) (omega (arith, g.at_most))

  pub wide-front : take at wide ≡ take at ws
  wide-front = take_at (take at ws) (high ∷ widest (length ws - (at + 1)) low (left - low)) at front_length

  pub wide-widths : AreWidths wide
  unfolding largest
  wide-widths =
      let k = length ws - (at + 1) in
      let r : Rising low (high ∷ widest k low (left - low)) = more g.upward (widest-rising k low (left - low) high behind-share behind-room) in
      record {
        some = rw wide-length (omega (arith, g.at_most));
        few = rw wide-length g.few;
        rising = rising-behind 1 low (take at ws) (high ∷ widest k low (left - low)) g.front g.front_most g.some r;
        narrow = omega (
          arith,
          largest-append (take at ws) (high ∷ widest k low (left - low)),
          g.front_most,
          high-left,
          g.upward,
          widest-most k low (left - low),
          g.narrow,
        );
      }

  -- every list of the group has buses no wider than that
  group-wider : (vs : List ℕ) → Memᴰ vs (group (take at ws) (length ws - (at + 1)) low high left) → Wider row_places vs wide
  unfolding starting_with
  group-wider vs m =
      let k = length ws - (at + 1) in
      let u = upward_of (suc high - low) low (starting_with (take at ws) k left) vs m in
      let w = u.0 in
      let x = Memᴰ.of_map (λ us. (take at ws ++ w ∷ []) ++ us) (width_lists k w (left - w)) u.3 in
      let r = widths_sound k w (left - w) x.0 x.1 in
      let some : 1 ≤ w = omega (arith, u.1, g.some) in
      let fits : w ≤ high = omega (arith, u.1, u.2, g.upward) in
      let narrow : high ≤ row_places = omega (arith, high-left, g.narrow) in
      let behind : Wider row_places x.0 (widest k low (left - low)) =
      widest-wider row_places k low (left - low) w x.0 r.count r.rising (omega (arith, r.wires, u.1)) u.1 g.some
      (omega (arith, g.narrow)) in
      let front : largest (take at ws) ≤ row_places = omega (arith, g.front_most, g.upward) in
      let e : take at ws ++ w ∷ x.0 ≡ vs = sym (append_assoc (take at ws) (w ∷ []) x.0) ∙ x.2 in
      subst (λ (ys : List ℕ). Wider row_places ys wide) e
      (wider-behind row_places 1 (take at ws) (omega arith) g.front front (wider some fits narrow behind))

  -- so where nothing less is found on it, all of them may be skipped
  pub group-none : {t : List ℕ} {n : ℕ} → IsTable t n → (k : Kept) → least_on (table_time t) n wide k.time ≡ k.time
      → keep_lists (least_on (table_time t) n) k (group (take at ws) (length ws - (at + 1)) low high left) ≡ k
  group-none {t} {n} table k e =
      keep-none (least_on (table_time t) n) k (group (take at ws) (length ws - (at + 1)) low high left)
      (λ vs m. wider-none (table_time t) n row_places table.falls (group-wider vs m) k.time e)

-- a group of widths that begin alike
pub group_as : (ws vs : List ℕ) (at low high left : ℕ) → take at vs ≡ take at ws → length vs ≡ length ws
    → group (take at ws) (length ws - (at + 1)) low high left ≡ group (take at vs) (length vs - (at + 1)) low high left
group_as ws vs at low high left e f = rw (e, f)

-- a group falls into two
pub group_split : (pre : List ℕ) (k low middle high left : ℕ) → low ≤ middle → middle < high
    → group pre k low high left ≡ group pre k low middle left ++ group pre k (middle + 1) high left
group_split pre k low middle high left l h =
    let e : suc high - low ≡ suc middle - low + (suc high - (middle + 1)) = omega arith in
    let i : low + (suc middle - low) ≡ middle + 1 = omega arith in
    ap (λ n. upward n low (starting_with pre k left)) e
    ∙ upward-append (starting_with pre k left) (suc middle - low) (suc high - (middle + 1)) low ∙ rw i

-- one more width is set
module _ {ws : List ℕ} {at low left : ℕ} (g : Group at low low left ws) where
  abbrev next : List ℕ
  next = set ws at low

  next-front : take (at + 1) next ≡ take at ws ++ low ∷ []
  next-front = rw (add-one at) (take-suc-set ws at low (omega (arith, g.at_most)))

  module _ (less : suc at < length ws) where
    -- how wide the next bus can be
    abbrev behind : ℕ
    behind = (left - low) / (length ws - (at + 1))

    some-behind : 0 < length ws - (at + 1)
    some-behind = omega arith

    pub group-next : Group (at + 1) low behind (left - low) next
    unfolding largest
    group-next =
        let p = some-behind in
        let room = behind-room g in
        let same : low ≤ low = omega arith in
        let r : Rising low (low ∷ []) = more same none in
        let c : length next - (at + 1) ≡ length ws - (at + 1) = rw length-set in
        record {
          at_most = simp length-set (omega arith);
          few = simp length-set g.few;
          front = rw next-front (rising-behind 1 low (take at ws) (low ∷ []) g.front g.front_most g.some r);
          front_most = rw next-front (omega (arith, largest-append (take at ws) (low ∷ []), g.front_most));
          some = g.some;
          upward = (le-div_iff_mul-le p).1 (omega (arith, room, mul_comm low (length ws - (at + 1))));
          share = rw c (omega (arith, (le-div_iff_mul-le p).0 (le_self behind), mul_comm behind (length ws - (at + 1))));
          last = λ e.
              let f : suc (at + 1) ≡ length ws = e ∙ length-set ws at low in
              let o : length ws - (at + 1) ≡ 1 = omega arith in
              rw o (omega arith);
          narrow = omega (arith, g.narrow);
        }
      where
        le_self : (n : ℕ) → n ≤ n
        le_self n = omega arith

    -- and the group is that of the widths behind it
    pub group-one : group (take at ws) (length ws - (at + 1)) low low left
        ≡ group (take (at + 1) next) (length next - (at + 1 + 1)) low behind (left - low)
    unfolding starting_with upward
    group-one =
        let p = some-behind in
        let o : suc low - low ≡ 1 = omega arith in
        let k : length ws - (at + 1) ≡ suc (length next - (at + 1 + 1)) = rw length-set (omega arith) in
        rw o (append-nil (starting_with (take at ws) (length ws - (at + 1)) left low)
        ∙ ap (λ m. map (λ us. (take at ws ++ low ∷ []) ++ us) (width_lists m low (left - low))) k
        ∙ rw (← next-front)
        (lists_group (take (at + 1) next) (length next - (at + 1 + 1)) low (left - low) behind g.some (div-le_self (left - low) (length ws - (at + 1)))
        (λ z. let w : length ws - (at + 1) ≡ 1 = omega arith in rw w (omega arith))
        (λ w h. rw (← k) (omega (arith, (div-lt_iff_lt-mul p).0 h, mul_comm w (length ws - (at + 1)))))))

-- the last width takes what is left
module _ {ws : List ℕ} {at low high left : ℕ} (g : Group at low high left ws) (last : suc at ≡ length ws) where
  last-is : set ws at left ≡ take at ws ++ left ∷ []
  last-is = sym (take_all (suc at) (set ws at left) (simp length-set (omega arith))) ∙ take-suc-set ws at left (omega arith)

  last_fits : low ≤ left
  last_fits = omega (arith, g.upward, g.last last)

  pub last-widths : AreWidths (set ws at left)
  unfolding largest
  last-widths =
      let r : Rising low (left ∷ []) = more last_fits none in
      record {
        some = simp length-set (omega arith);
        few = simp length-set g.few;
        rising = rw last-is (rising-behind 1 low (take at ws) (left ∷ []) g.front g.front_most g.some r);
        narrow = rw last-is (omega (arith, largest-append (take at ws) (left ∷ []), g.front_most, last_fits, g.narrow));
      }

  pub group-last : group (take at ws) (length ws - (at + 1)) low high left ≡ set ws at left ∷ []
  group-last =
      let z : length ws - (at + 1) ≡ 0 = omega arith in
      let e : high ≡ left = g.last last in
      rw (z, e, last-is)
      (sym (lists_group (take at ws) 0 low left left g.some (omega arith) (λ f. refl) (λ w h. omega arith)) ∙ rw (width_lists-one low left last_fits))

-- the halves of a group, in other widths that begin alike
module _ {ws vs : List ℕ} {at low high left : ℕ} (g : Group at low high left ws) (less : suc at < length ws) (apart : low ≡ high → ⊥)
    (same_count : length vs ≡ length ws) (same-front : take at vs ≡ take at ws) where
  pub group_upper : Group at ((low + high) / 2 + 1) high left vs
  group_upper = record {
    at_most = rw same_count g.at_most;
    few = rw same_count g.few;
    front = rw same-front g.front;
    front_most = rw same-front (omega (arith, g.front_most, g.upward));
    some = omega arith;
    upward = omega (arith, g.upward, apart_lt);
    share = rw same_count g.share;
    last = λ e. absurd (omega arith);
    narrow = g.narrow;
  }
    where
      apart_lt : low < high
      apart_lt = ⊎_elim (λ e. absurd (apart e)) (λ l. l) (eq-or-lt_of_le g.upward)

-- while the widest are set: the places before j are, and what is left for those from j on where each before took low
pub record Widened (ws : List ℕ) (low left i : ℕ) (vs : List ℕ) (rest j : ℕ) : Type 0 where
  pub upto : j ≤ length ws
  pub same_length : length vs ≡ length ws
  pub room : (length ws - j) * low ≤ rest
  pub is : take j vs ++ widest (length ws - j) low rest ≡ take i ws ++ widest (length ws - i) low left

module _ {ws : List ℕ} {low left i : ℕ} {vs : List ℕ} {rest j : ℕ} (w : Widened ws low left i vs rest j) where
  pub widened-next : j < length ws → Widened ws low left i (set vs j (rest / (length ws - j))) (rest - low) (j + 1)
  unfolding widest
  widened-next h =
      let e : length ws - j ≡ suc (length ws - (j + 1)) = omega arith in
      let v = rest / (length ws - j) in
      let f : take (j + 1) (set vs j v) ≡ take j vs ++ v ∷ [] = rw (add-one j) (take-suc-set vs j v (omega (arith, w.same_length))) in
      let q : widest (length ws - j) low rest ≡ v ∷ widest (length ws - (j + 1)) low (rest - low) = rw e in
      record {
        upto = omega arith;
        same_length = length-set vs j v ∙ w.same_length;
        room = omega (arith, rw e at w.room, suc-mul (length ws - (j + 1)) low);
        is = rw f (append_assoc (take j vs) (v ∷ []) (widest (length ws - (j + 1)) low (rest - low))) ∙ ap (λ l. take j vs ++ l) (sym q) ∙ w.is;
      }

  pub widened-all : length ws ≤ j → vs ≡ take i ws ++ widest (length ws - i) low left
  unfolding widest
  widened-all h =
      let z : length ws - j ≡ 0 = omega arith in
      sym (append-nil vs) ∙ rw (z, take_all j vs (omega (arith, w.same_length))) at w.is

module _ {ws : List ℕ} {at low high left : ℕ} (g : Group at low high left ws) where
  -- all are set
  pub widened-wide : {vs : List ℕ} → vs ≡ take (at + 1) (set ws at high) ++ widest (length (set ws at high) - (at + 1)) low (left - low)
      → vs ≡ wide g
  widened-wide e =
      let f : take (at + 1) (set ws at high) ≡ take at ws ++ high ∷ [] = rw (add-one at) (take-suc-set ws at high (omega (arith, g.at_most))) in
      e ∙ rw (f, length-set) (append_assoc (take at ws) (high ∷ []) (widest (length ws - (at + 1)) low (left - low)))
