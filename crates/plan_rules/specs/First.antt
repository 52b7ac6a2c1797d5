-- What it is to be the first plan of least cost (document 01, "The plan": "The answer is the first plan of least time."), with no
-- mention of a search.
use Rattle.std.specs.Prelude.{ℕ, ◌≤◌, ◌≡◌}
use Rattle.plan_rules.specs.Plans.{Plan, IsPlan}
use Rattle.plan_rules.specs.Order.{Before}

-- p is a plan, no plan costs less, and no plan of the same cost stands before it
pub record IsFirst (cost : Plan → ℕ) (W B n : ℕ) (p : Plan) : Type 0 where
  pub is_plan : IsPlan W B n p
  pub least : (q : Plan) → IsPlan W B n q → cost p ≤ cost q
  pub first : (q : Plan) → IsPlan W B n q → cost q ≡ cost p → Before q p → ⊥
