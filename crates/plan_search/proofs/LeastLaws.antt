-- Laws of `least`: its ways out, and what a turn of its loop over the buses does. Assumes nothing.
use Prim.Native.Nat.{ℕ, zero, suc, ◌+◌, ◌-◌, ◌*◌, ◌≤◌, ◌<◌, max}
use mathlib.Core.Path.{◌≡◌, refl, sym, ap, ◌∙◌}
use mathlib.Core.List.{List}
use native.Mathlib.Omega.{arith}
use native.Mathlib.Nat.{mul-le-mul_right}
use lib.ListN.{length, get_or, set, replicate, length-set, length-replicate}
use lib.Seq.{set-set, set-get_or}
use Rattle.plan_rules.specs.Plans.{sum}
use Rattle.plan_rules.specs.Least.{least_on}
use Rattle.plan_rules.specs.From.{loaded, each_bus, least_from}
use Rattle.plan_rules.proofs.BusyLaws.{largest-zeros}
use Rattle.plan_rules.proofs.FromLaws.{sum_added, from_on, from_le, from_top_skip, from_load_skip, from_more, from_end, each_le, each_step, each-end, largest-loaded-is}
use Rattle.plan_search.specs.Search.{search_modules, table_time, time_bound, best_max, TimeIn}
use Rattle.plan_search.specs.Least.{last_of, Board, Loads, Reaches}
use Rattle.plan_search.proofs.RestLaws.{total-most}
use Rattle.plan_search.proofs.WidthLaws.{width-at, last-least}

exactly : {least enough r : ℕ} → r ≡ least → Reaches least enough r
exactly e = record { lower = omega (arith, e); exact = λ h. e }

-- the buses from b on are left to try
pub record Left (t ws rest : List ℕ) (i best : ℕ) (loads₀ loads : List ℕ) (r b : ℕ) : Type 0 where
  pub upto : b ≤ length ws
  pub loads_same : loads ≡ loads₀
  pub small : r ≤ best_max
  pub left_is : least_from (table_time t) ws (length rest - 1 - i) i loads₀ best
      ≡ each_bus (length ws - b) b
      (λ j s. least_from (table_time t) ws (length rest - 1 - (i + 1)) (i + 1) (loaded loads₀ j (table_time t i (get_or ws j 0))) s) r

module _ {t ws rest : List ℕ} {i top load : ℕ} {loads₀ : List ℕ} (B : Board t ws rest) (L : Loads ws i top load loads₀) (at : i < length rest) where
  pub rest-most : get_or rest i 0 ≤ search_modules * time_bound
  rest-most =
      let n = length rest - 1 - i in
      let k : n ≤ search_modules = omega (arith, B.table.few) in
      omega (arith, B.rest_is i at, total-most n i time_bound (λ j. table_time t j (last_of ws)) (λ j. B.table.times j (last_of ws)), mul-le-mul_right time_bound k)

  -- the ways out
  pub out_top : {best enough : ℕ} → best ≤ top → Reaches (least_from (table_time t) ws (length rest - 1 - i) i loads₀ best) enough best
  out_top {best} h = exactly (sym (from_top_skip (table_time t) (λ j. table_time t j (last_of ws)) ws (length rest - 1 - i) i loads₀ best (omega (arith, L.top_is))))

  pub out_load : {best enough : ℕ} → length ws * best < load + get_or rest i 0 + length ws
      → Reaches (least_from (table_time t) ws (length rest - 1 - i) i loads₀ best) enough best
  out_load {best} h =
      exactly (sym (from_load_skip (table_time t) (λ j. table_time t j (last_of ws)) ws (length rest - 1 - i) i loads₀ best L.long
      (λ k j l m n. last-least B.widths B.table k j (omega arith) n) (omega (arith, L.load_is, B.rest_is i at))))

  pub out_end : {best enough : ℕ} → top < best → i + 1 ≡ length rest
      → Reaches (least_from (table_time t) ws (length rest - 1 - i) i loads₀ best) enough top
  out_end {best} h e = exactly (omega (arith, from_end (table_time t) ws (length rest - 1) i loads₀ best (omega arith), L.top_is))

  module _ (less : suc i < length rest) where
    pub left-start : {best : ℕ} → best ≤ best_max → Left t ws rest i best loads₀ loads₀ best 0
    left-start {best} h = record { upto = omega arith; loads_same = refl; small = h; left_is = from_more (table_time t) ws (length rest - 1) i loads₀ best (omega arith) }

    pub time_in_lem : (b : ℕ) → b < length ws → TimeIn t i (get_or ws b 0)
    time_in_lem b h = let u = width-at B.widths b h in record { low = u.0; high = u.1; entry = omega (arith, B.table.long) }

    module _ {loads : List ℕ} {best r b : ℕ} (l : Left t ws rest i best loads₀ loads r b) where
      abbrev tried : ℕ → ℕ → ℕ
      tried j s = least_from (table_time t) ws (length rest - 1 - (i + 1)) (i + 1) (loaded loads₀ j (table_time t i (get_or ws j 0))) s

      pub left_end : {enough : ℕ} → length ws ≤ b → Reaches (least_from (table_time t) ws (length rest - 1 - i) i loads₀ best) enough r
      left_end h = exactly (sym (l.left_is ∙ each-end (length ws) b tried r h))

      module _ {x new next : ℕ} (h : b < length ws) (e : x ≡ table_time t i (get_or ws b 0)) (n : new ≡ get_or loads b 0 + x)
          (m : next ≡ max top new) where
        next_loads : set loads b new ≡ loaded loads₀ b (table_time t i (get_or ws b 0))
        next_loads = rw (n, e, l.loads_same)

        pub loads_next : Loads ws (i + 1) next (load + x) (set loads b new)
        loads_next =
            let k : b < length loads₀ = omega (arith, L.long) in
            let y = table_time t i (get_or ws b 0) in
            let p : get_or loads b 0 ≡ get_or loads₀ b 0 = ap (λ (v : List ℕ). get_or v b 0) l.loads_same in
            rw next_loads record {
              long = length-set loads₀ b (get_or loads₀ b 0 + y) ∙ L.long;
              top_is = omega (arith, m, n, e, p, L.top_is, largest-loaded-is loads₀ b y k);
              load_is = omega (arith, e, L.load_is, sum_added loads₀ b y k);
              load_most = omega (arith, e, L.load_most, B.table.times i (get_or ws b 0));
            }

        module _ {loads' : List ℕ} {enough r' : ℕ} (p : loads' ≡ set loads b new)
            (q : Reaches (least_from (table_time t) ws (length rest - 1 - (i + 1)) (i + 1) (set loads b new) r) enough r') where
          after : least_from (table_time t) ws (length rest - 1 - (i + 1)) (i + 1) (set loads b new) r ≡ tried b r
          after = rw next_loads

          pub loads_back : set loads' b (get_or loads b 0) ≡ loads₀
          loads_back = rw (p, set-set loads b new (get_or loads b 0), set-get_or loads b 0) l.loads_same

          pub left-tried : enough < r' → Left t ws rest i best loads₀ (set loads' b (get_or loads b 0)) r' (b + 1)
          left-tried g =
              let s : r' ≡ tried b r = q.exact g ∙ after in
              record {
                upto = omega arith;
                loads_same = loads_back;
                small = omega (arith, s, from_le (table_time t) ws (length rest - 1 - (i + 1)) (i + 1) (loaded loads₀ b (table_time t i (get_or ws b 0))) r, l.small);
                left_is = l.left_is ∙ each_step (length ws) b tried r h ∙ rw s;
              }

          -- what was found is enough, whatever the buses from here on give
          pub left_enough : r' ≤ enough → Reaches (least_from (table_time t) ws (length rest - 1 - i) i loads₀ best) enough r'
          left_enough g = record {
            lower = omega (
              arith,
              l.left_is ∙ each_step (length ws) b tried r h,
              each_le (length ws - (b + 1)) (b + 1) tried (tried b r)
                  (λ j s. from_le (table_time t) ws (length rest - 1 - (i + 1)) (i + 1) (loaded loads₀ j (table_time t i (get_or ws j 0))) s),
              q.lower,
              after,
            );
            exact = λ k. absurd (omega arith);
          }

sum_zeros : (n : ℕ) → sum (replicate n 0) ≡ 0
unfolding sum
sum_zeros zero = refl
sum_zeros (suc n) = rw (sum_zeros n)

-- no module has its bus yet
pub loads_first : {loads : List ℕ} (ws : List ℕ) → loads ≡ replicate (length ws) 0 → Loads ws 0 0 0 loads
loads_first ws e = rw e (record { long = length-replicate (length ws) 0; top_is = sym (largest-zeros (length ws)); load_is = sym (sum_zeros (length ws)); load_most = omega arith })

pub on_first : {loads : List ℕ} {enough r : ℕ} (t ws : List ℕ) (n best : ℕ) → loads ≡ replicate (length ws) 0
    → Reaches (least_from (table_time t) ws (n - 0) 0 loads best) enough r → Reaches (least_on (table_time t) n ws best) enough r
on_first t ws n best e q =
    let z : n - 0 ≡ n = omega arith in
    rw (← from_on (table_time t) ws n best) (rw (e, z) at q)
