-- What the planner with a spending limit found, as bytes: 1,228 of them. Whether the search was finished, whether a plan is known, the
-- tries, and the plan record, which says nothing where no plan is known.
use Rattle.std.specs.Prelude.{ℕ, ◌+◌, ◌*◌, Bool, List, [], ◌∷◌, ◌++◌}
use Rattle.plan_record.specs.declared.record.BusPlan.{BusPlan}
use Rattle.c_forms.specs.Words.{word_length, long_length, long, words, flag_word}
use Rattle.c_forms.specs.PlanForm.{plan_length, plan_bytes}

-- where the plan record begins, and how many bytes there are: 16 and 1,228
abbrev pub found_from : ℕ
found_from = word_length * 2 + long_length

abbrev pub budget_length : ℕ
budget_length = found_from + plan_length

abbrev pub state_words : Bool → Bool → List ℕ
state_words finished known = flag_word finished ∷ flag_word known ∷ []

-- finished, known, tries
unfoldable pub spent_bytes : Bool → Bool → ℕ → List ℕ
spent_bytes finished known tries = words (state_words finished known) ++ long tries

unfoldable pub budget_bytes : Bool → Bool → ℕ → BusPlan → List ℕ
budget_bytes finished known tries p = spent_bytes finished known tries ++ plan_bytes p
