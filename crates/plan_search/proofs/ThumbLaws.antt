-- Laws of the rule of thumb: the loads of some placement of the first modules, and buses of equal width with one that has the rest. Assumes
-- nothing.
use Prim.Native.Nat.{ℕ, suc, ◌+◌, ◌-◌, ◌*◌, ◌≤◌, ◌<◌, max}
use mathlib.Core.Path.{◌≡◌, refl, sym, ap, ◌∙◌}
use mathlib.Core.List.{List, [], ◌∷◌, ◌++◌, Memᴰ}
use mathlib.Core.Logic.{⊎_elim}
use native.Mathlib.Omega.{arith}
use native.Mathlib.Nat.{eq-or-lt_of_le}
use lib.ListN.{length, get_or, take, set, replicate, length-append, length-set, get_or-append}
use lib.ListN.{length-replicate}
use lib.Seq.{take-suc-set, take-set-lt, get_or-take, get_or_at, length-take-le}
use Rattle.plan_rules.specs.Plans.{largest, time_of}
use Rattle.plan_rules.specs.Listed.{placements, plan}
use Rattle.plan_rules.specs.Least.{Reached}
use Rattle.plan_rules.specs.Widths.{even}
use Rattle.plan_rules.proofs.BusyLaws.{length-busies, busies-none, busies-one, busies-most, largest-zeros, largest-set}
use Rattle.plan_rules.proofs.ListedLaws.{Placed, placements_sound, placements_complete}
use Rattle.plan_rules.proofs.WiderLaws.{even-plan}
use Rattle.plan_search.specs.Search.{search_buses, time_bound, table_time}
use Rattle.plan_search.specs.Thumb.{AreBuses, Partly, Placeable}
use Rattle.plan_search.proofs.LentLaws.{take-replicate}

module _ (t ws : List ℕ) (i : ℕ) (loads : List ℕ) (p : Partly t ws i loads) where
  pub partly_length : length loads ≡ length ws
  partly_length = ap length p.loads_are ∙ length-busies (table_time t) 1 ws p.buses

  pub partly_most : ((j w : ℕ) → table_time t j w ≤ time_bound) → (b : ℕ) → get_or loads b 0 ≤ i * time_bound
  partly_most h b =
      let l = (placements_sound i (length ws) p.buses p.listed).placed in
      rw p.loads_are (rw l at (busies-most (table_time t) time_bound h 1 b ws p.buses))

-- the first i of n modules are placed: the loads are in the front of an array, and the largest of them is beside it
pub record Thumbed (t ws : List ℕ) (n i : ℕ) (loads : List ℕ) (top : ℕ) : Type 0 where
  pub so_far : i ≤ n
  pub room : length loads ≡ search_buses
  pub partly : Partly t ws i (take (length ws) loads)
  pub top_is : top ≡ largest (take (length ws) loads)

no-modules : (c : ℕ) → Memᴰ [] (placements 0 c)
unfolding placements
no-modules c = Memᴰ.head refl

pub thumbed_none : (t ws : List ℕ) (n : ℕ) → AreBuses ws → Thumbed t ws n 0 (replicate search_buses 0) 0
thumbed_none t ws n u =
    let e = take-replicate (length ws) search_buses 0 u.few in
    record {
      so_far = omega arith;
      room = refl;
      partly = record { buses = []; listed = no-modules (length ws); loads_are = e ∙ sym (busies-none (table_time t) 1 ws) };
      top_is = sym (ap largest e ∙ largest-zeros (length ws));
    }

-- one more module has a bus
placed-last : (n c b : ℕ) (bs : List ℕ) → Placed n c bs → b < c → Placed (n + 1) c (bs ++ (b + 1) ∷ [])
placed-last n c b bs p h = record { placed = length-append bs ((b + 1) ∷ []) ∙ ap (λ (k : ℕ). k + 1) p.placed; low = low; high = high }
  where
    here : (i : ℕ) → i ≡ n → get_or (bs ++ (b + 1) ∷ []) i 0 ≡ b + 1
    here i e = get_or_at bs (b + 1) [] 0 i (p.placed ∙ sym e)

    there : (i : ℕ) → i < n → get_or (bs ++ (b + 1) ∷ []) i 0 ≡ get_or bs i 0
    there i k = get_or-append bs ((b + 1) ∷ []) 0 i (omega (arith, p.placed))

    low : (i : ℕ) → i < n + 1 → 1 ≤ get_or (bs ++ (b + 1) ∷ []) i 0
    low i k =
        let m : i ≤ n = omega arith in
        ⊎_elim (λ e. rw (here i e) (omega arith)) (λ l. rw (there i l) (p.low i l)) (eq-or-lt_of_le m)

    high : (i : ℕ) → i < n + 1 → get_or (bs ++ (b + 1) ∷ []) i 0 ≤ c
    high i k =
        let m : i ≤ n = omega arith in
        ⊎_elim (λ e. rw (here i e) (omega arith)) (λ l. rw (there i l) (p.high i l)) (eq-or-lt_of_le m)

module _ (t ws : List ℕ) (i b x : ℕ) (loads : List ℕ) (p : Partly t ws i loads) (h : b < length ws)
    (e : x ≡ table_time t i (get_or ws b 0)) where
  partly_more : Partly t ws (i + 1) (set loads b (get_or loads b 0 + x))
  partly_more =
      let q = placements_sound i (length ws) p.buses p.listed in
      let one = busies-one (table_time t) 1 b ws p.buses (b + 1) h (omega arith) in
      record {
        buses = p.buses ++ (b + 1) ∷ [];
        listed = placements_complete (i + 1) (length ws) (p.buses ++ (b + 1) ∷ []) (placed-last i (length ws) b p.buses q h);
        loads_are = rw (e, p.loads_are) (sym (rw q.placed at one));
      }

module _ (t ws : List ℕ) (n i : ℕ) (loads : List ℕ) (top : ℕ) where
  -- no load is so large that a sum overflows
  pub thumbed_most : Thumbed t ws n i loads top → ((j w : ℕ) → table_time t j w ≤ time_bound) → (b : ℕ) → b < length ws
      → get_or loads b 0 ≤ i * time_bound
  thumbed_most d m b h = rw (get_or-take (length ws) loads b 0 h) at (partly_most t ws i (take (length ws) loads) d.partly m b)

  -- one more module goes to the bus at place b
  pub thumbed_more : (b x next : ℕ) → length ws ≤ search_buses → Thumbed t ws n i loads top → i < n → b < length ws
      → x ≡ table_time t i (get_or ws b 0) → next ≡ max top (get_or loads b 0 + x)
      → Thumbed t ws n (i + 1) (set loads b (get_or loads b 0 + x)) next
  thumbed_more b x next few d l h e f =
      let c = length ws in
      let g : get_or (take c loads) b 0 ≡ get_or loads b 0 = get_or-take c loads b 0 h in
      let load = get_or loads b 0 + x in
      let s : take c (set loads b load) ≡ set (take c loads) b load = take-set-lt c loads b load h in
      let m : length (take c loads) ≡ c = length-take-le c loads (omega (arith, d.room)) in
      record {
        so_far = omega arith;
        room = length-set loads b load ∙ d.room;
        partly = rw s (rw g at (partly_more t ws i b x (take c loads) d.partly h e));
        top_is = rw (s, f, d.top_is) (sym (largest-set (take c loads) b load (omega arith) (omega arith)));
      }

  -- all modules are placed
  pub thumbed_all : Thumbed t ws n i loads top → n ≤ i → Placeable t ws n top
  unfolding time_of
  thumbed_all d h =
      let e : i ≡ n = omega (arith, d.so_far) in
      let p : Partly t ws n (take (length ws) loads) = rw e at d.partly in
      record { buses = p.buses; listed = p.listed; takes = sym (d.top_is ∙ ap largest p.loads_are) }

even-length : (c w W : ℕ) → length (even c w W) ≡ suc c
even-length c w W = simp (length-append, length-replicate) (omega arith)

-- c buses of equal width, where the last has the rest: a placement on them has the time of a plan
module _ {c w W : ℕ} (some : 1 ≤ c) (few : c ≤ search_buses) (low : 1 ≤ w) (fits : c * w ≤ W) where
  abbrev evened : List ℕ
  evened = take c (set (replicate search_buses w) (c - 1) (W - (c - 1) * w))

  evened-is : evened ≡ even (c - 1) w W
  evened-is =
      let e : c ≡ suc (c - 1) = omega arith in
      let k : c - 1 < length (replicate search_buses w) = omega arith in
      ap (λ i. take i (set (replicate search_buses w) (c - 1) (W - (c - 1) * w))) e
      ∙ take-suc-set (replicate search_buses w) (c - 1) (W - (c - 1) * w) k
      ∙ ap (λ (l : List ℕ). l ++ (W - (c - 1) * w) ∷ []) (take-replicate (c - 1) search_buses w (omega arith))

  pub evened-reached : (t : List ℕ) (n r : ℕ) → Placeable t evened n r → Reached (table_time t) W c n r
  evened-reached t n r p =
      let e : suc (c - 1) ≡ c = omega arith in
      let q = rw evened-is at p in
      record {
        reached = plan (even (c - 1) w W) q.buses;
        is_plan = even-plan (c - 1) w W c n q.buses low (rw e fits) (omega arith) (rw (even-length (c - 1) w W) at q.listed);
        takes = q.takes;
      }
