-- Demand 3 over any cost of a plan: the first of least cost among all plans is first of least cost, and it is the only such plan.
-- Assumes nothing.
use Prim.Native.Nat.{ℕ, ◌≤◌}
use mathlib.Core.Path.{◌≡◌, refl, sym}
use mathlib.Core.Logic.{◌⊎◌, inl, inr, ⊎_elim}
use mathlib.Core.List.Memᴰ
use mathlib.Core.List.{[], ◌∷◌}
use native.Mathlib.Omega.{arith}
use lib.ListN.{length, replicate}
use Rattle.plan_rules.specs.Plans.{Plan, IsPlan}
use Rattle.plan_rules.specs.Order.{Before}
use Rattle.plan_rules.specs.First.{IsFirst}
use Rattle.plan_rules.specs.Listed.{upward, width_lists, plan, plans, best_of}
use Rattle.plan_rules.proofs.ListedLaws.{sound, complete, some}
use Rattle.plan_rules.proofs.OrderLaws.{sorted, before_not, before_irr}
use Rattle.plan_rules.proofs.LeastLaws.{Least, sorted_later, first-is}

module _ (cost : Plan → ℕ) (W B n : ℕ) (wires : 1 ≤ W) (buses : 1 ≤ B) where
  best : Least cost (plans W B n) (best_of cost W B n)
  unfolding best_of
  best = first-is cost (plans W B n) (plan (W ∷ []) (replicate n 1)) (rw (some W B n wires buses) (Memᴰ.head refl))

  same_or_later : (q : Plan) → IsPlan W B n q → cost q ≡ cost (best_of cost W B n) → (q ≡ best_of cost W B n) ⊎ Before (best_of cost W B n) q
  same_or_later q r e = ⊎_elim inl (λ l. inr (sorted_later Before (best_of cost W B n) q (plans W B n) (sorted W B n) l)) (best.first q (complete W B n q r) e)

  pub best-first : IsFirst cost W B n (best_of cost W B n)
  best-first =
      record {
        is_plan = sound W B n (best_of cost W B n) best.listed;
        least = λ q r. best.least q (complete W B n q r);
        first = λ q r e b. ⊎_elim (λ f. before_irr (best_of cost W B n) (rw f at b)) (before_not q (best_of cost W B n) b) (same_or_later q r e);
      }

  -- no other plan is so
  pub best_unique : (p : Plan) → IsFirst cost W B n p → p ≡ best_of cost W B n
  best_unique p f =
      let a = f.least (best_of cost W B n) best-first.is_plan in
      let e : cost p ≡ cost (best_of cost W B n) = omega (arith, a, best-first.least p f.is_plan) in
      ⊎_elim (λ g. g) (λ b. absurd (f.first (best_of cost W B n) best-first.is_plan (sym e) b)) (same_or_later p f.is_plan e)

-- how many lists of widths there are for 64 wires, of one, two and three buses
pub counts : (length (width_lists 1 1 64) ≡ 1) × (length (width_lists 2 1 64) ≡ 32) × (length (width_lists 3 1 64) ≡ 341)
unfolding width_lists upward
counts = (refl, refl, refl)
