-- The order of plans (document 01, "The plan"): "fewer buses first, then widths compared from bus 1, then bus numbers compared from the
-- lowest module number; smaller first."
use Rattle.std.specs.Prelude.{ℕ, ◌<◌, ◌≡◌, List, ◌∷◌, length}
use Rattle.plan_rules.specs.Plans.{Plan}

-- two lists compared from the front, smaller first
pub data Smaller : List ℕ → List ℕ → Type 0 where
  here : {x y : ℕ} {xs ys : List ℕ} → x < y → Smaller (x ∷ xs) (y ∷ ys)
  behind : {x : ℕ} {xs ys : List ℕ} → Smaller xs ys → Smaller (x ∷ xs) (x ∷ ys)

pub data Before (p q : Plan) : Type 0 where
  fewer : length p.widths < length q.widths → Before p q
  narrower : length p.widths ≡ length q.widths → Smaller p.widths q.widths → Before p q
  lower : p.widths ≡ q.widths → Smaller p.buses q.buses → Before p q
