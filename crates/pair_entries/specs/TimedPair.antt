-- Times of a pair (document 02, item 3): "Plan, layout and writing work on the pair."
use Rattle.std.specs.Prelude.{ℕ, List, Result}
use Rattle.wrapper_times.specs.TimeAnswers.{module_time_answer}
use Rattle.wrapper_times.specs.declared.asked.ModuleTime.{ModuleTime}
use Rattle.pair.specs.Pair.{read_pair}
use Rattle.pair.specs.declared.read.PairRefusal.{PairRefusal}
use Rattle.pair_entries.specs.OfPair.{of_pair}

-- the time and the wires of module m of the combined description on a bus of width w, with c capture cycles
unfoldable pub module_time_pair : List ℕ → List ℕ → ℕ → ℕ → ℕ → Result ModuleTime PairRefusal
module_time_pair base overlay m w c = of_pair (read_pair base overlay) λ s. module_time_answer s m w c
