-- Laws of the walk over the lists of widths: what is set when a list is begun (`Begun`), and the lists that are left. Assumes nothing.
use Prim.Native.Nat.{ℕ, zero, suc, ◌+◌, ◌-◌, ◌*◌, ◌≤◌, ◌<◌}
use mathlib.Core.Path.{◌≡◌, refl, sym, ap, ◌∙◌}
use mathlib.Core.List.{List, [], ◌∷◌, ◌++◌, map}
use native.Mathlib.Omega.{arith}
use native.Mathlib.Nat.{mul_comm, mul-le-mul_left}
use native.Mathlib.Numerals.{add-one}
use lib.ListN.{length, take, set, replicate, length-set, length-replicate}
use lib.Seq.{take_all, take-suc-set, take-take, take-set-le, length-take-le}
use Rattle.plan_rules.specs.Listed.{width_lists}
use Rattle.plan_rules.proofs.WidthListLaws.{width_lists-none, width_lists-one, lists_more}
use Rattle.plan_search.specs.Search.{row_places}
use Rattle.budget_search.specs.Lists.{Begun}

-- ---- arrays of zeros of which the front is lent
pub take-zeros : (c m : ℕ) → c ≤ m → take {A = ℕ} c (replicate m 0) ≡ replicate c 0
take-zeros zero m h = refl
take-zeros (suc c) zero h = absurd (omega arith)
take-zeros (suc c) (suc m) h = ap (λ l. 0 ∷ l) (take-zeros c m (omega arith))

pub length-zeros : (c m : ℕ) → c ≤ m → length {A = ℕ} (take c (replicate m 0)) ≡ c
length-zeros c m h = length-take-le c (replicate m 0) (omega (arith, length-replicate {A = ℕ} m 0))

-- the widths that are to be set have room: low is a width
pub low_fits : (low due left : ℕ) → 1 ≤ due → low * due ≤ left → low ≤ left
low_fits low due left h k = omega (arith, mul-le-mul_left low h)

module _ {at low left : ℕ} {ws : List ℕ} (g : Begun at low left ws) where
  set_front : (w : ℕ) → take (at + 1) (set ws at w) ≡ take at ws ++ w ∷ []
  set_front w = rw (add-one at) (take-suc-set ws at w (omega (arith, g.at_most)))

  -- the next width is more
  pub begun_more : {vs : List ℕ} {v : ℕ} → length vs ≡ length ws → take at vs ≡ take at ws → 1 ≤ v → v ≤ 2 * row_places → Begun at v left vs
  begun_more n e h k = record {
    at_most = rw n g.at_most;
    few = rw n g.few;
    front = rw e g.front;
    some = h;
    low_most = k;
    narrow = g.narrow;
  }

  -- no list is left
  pub left-none : left < low * (length ws - at) → map (λ vs. take at ws ++ vs) (width_lists (length ws - at) low left) ≡ []
  left-none h = rw (width_lists-none (length ws - at) low left (omega (arith, g.at_most)) g.some
      (omega (arith, mul_comm low (length ws - at))))

  -- the last width is set
  module _ (last : length ws - at ≡ 1) (h : low ≤ left) where
    last-is : set ws at left ≡ take at ws ++ left ∷ []
    last-is =
        sym (take_all (at + 1) (set ws at left) (simp length-set (omega arith))) ∙ set_front left

    pub left_one : map (λ vs. take at ws ++ vs) (width_lists (length ws - at) low left) ≡ set ws at left ∷ []
    left_one = rw (last, width_lists-one low left h, last-is)

  -- those that go on with low, and those that go on with more
  pub left-more : (vs : List ℕ) → length vs ≡ length ws → take at vs ≡ take at ws → low ≤ left
      → map (λ us. take at ws ++ us) (width_lists (length ws - at) low left)
      ≡ map (λ us. take (at + 1) (set ws at low) ++ us) (width_lists (length (set ws at low) - (at + 1)) low (left - low))
      ++ map (λ us. take at vs ++ us) (width_lists (length vs - at) (low + 1) left)
  left-more vs n e h =
      let k = length ws - (at + 1) in
      let d : length ws - at ≡ suc k = omega (arith, g.at_most) in
      rw (e, n, length-set, set_front low, d) (lists_more (take at ws) k low left h)

pub front_same : (ws vs : List ℕ) (at w : ℕ) → take (at + 1) vs ≡ take (at + 1) (set ws at w) → take at vs ≡ take at ws
front_same ws vs at w e =
    sym (take-take at (at + 1) vs (omega arith)) ∙ ap (take at) e ∙ take-take at (at + 1) (set ws at w) (omega arith)
    ∙ take-set-le at ws at w (omega arith)
