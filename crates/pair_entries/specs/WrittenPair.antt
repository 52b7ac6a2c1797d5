-- Writing a pair (document 02, item 3): "Plan, layout and writing work on the pair."
use Rattle.std.specs.Prelude.{ℕ, List, Result, Ok, Err}
use Rattle.text_writer.specs.WrittenSoc.{write_answer, write_leaves}
use Rattle.pair.specs.Pair.{read_pair}
use Rattle.pair.specs.declared.read.PairRead.{PairRead}
use Rattle.pair.specs.declared.read.PairRefusal.{PairRefusal}
use Rattle.pair_entries.specs.OfPair.{of_pair}

-- the combined description written: how many bytes were written
unfoldable pub write_pair : List ℕ → List ℕ → List ℕ → Result ℕ PairRefusal
write_pair base overlay buf = of_pair (read_pair base overlay) λ s. write_answer s buf

-- what the lent buffer then holds: of a refused pair "lent buffers keep every byte"
unfoldable pub leaves_of : Result PairRead PairRefusal → List ℕ → List ℕ
leaves_of (Ok p) buf = write_leaves p.soc buf
leaves_of (Err r) buf = buf

unfoldable pub write_pair_leaves : List ℕ → List ℕ → List ℕ → List ℕ
write_pair_leaves base overlay buf = leaves_of (read_pair base overlay) buf
