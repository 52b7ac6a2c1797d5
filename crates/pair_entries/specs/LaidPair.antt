-- Layouts of a pair (document 02, item 3): "Plan, layout and writing work on the pair."
use Rattle.std.specs.Prelude.{ℕ, List, Result}
use Rattle.wrapper_layout.specs.LayoutAnswers.{layout_answer}
use Rattle.wrapper_layout.specs.declared.laid.WrapperLayout.{WrapperLayout}
use Rattle.pair.specs.Pair.{read_pair}
use Rattle.pair.specs.declared.read.PairRefusal.{PairRefusal}
use Rattle.pair_entries.specs.OfPair.{of_pair}

-- the layout of test i of module m of the combined description at width w, with c capture cycles
unfoldable pub layout_pair : List ℕ → List ℕ → ℕ → ℕ → ℕ → ℕ → Result WrapperLayout PairRefusal
layout_pair base overlay m i w c = of_pair (read_pair base overlay) λ s. layout_answer s m i w c
