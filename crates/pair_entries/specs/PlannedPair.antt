-- Plans of a pair (document 02, item 3): "Plan, layout and writing work on the pair."
use Rattle.std.specs.Prelude.{ℕ, List, Result}
use Rattle.plan_record.specs.declared.record.BusPlan.{BusPlan}
use Rattle.plan.specs.PlanAnswers.{plan_answer}
use Rattle.pair.specs.Pair.{read_pair}
use Rattle.pair.specs.declared.read.PairRefusal.{PairRefusal}
use Rattle.pair_entries.specs.OfPair.{of_pair}

-- the plan for the combined description with W wires, limit B and c capture cycles
unfoldable pub plan_pair : List ℕ → List ℕ → ℕ → ℕ → ℕ → Result BusPlan PairRefusal
plan_pair base overlay W B c = of_pair (read_pair base overlay) λ s. plan_answer s W B c
