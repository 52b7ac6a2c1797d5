-- "A larger budget never gives a slower plan." (document 02, item 7): what it is for the best plan of one search to be no slower than that
-- of another.
use Rattle.std.specs.Prelude.{ℕ, ◌≤◌}
use Rattle.plan_rules.specs.Plans.{Plan}
use Rattle.budget_rules.specs.Tries.{Best}

-- the first is known where the second is, and its time is no higher
pub data NoSlower : Best → Best → Type 0 where
  to_unknown : {b : Best} → NoSlower b Best.unknown
  times : {t u : ℕ} {p q : Plan} → t ≤ u → NoSlower (Best.known t p) (Best.known u q)
