-- What it is to put bytes into a buffer at a place: they stand there, all else keeps its value, and the answer is the place behind them.
use Rattle.std.specs.Prelude.{ℕ, ◌+◌, ◌≡◌, cond, List, ◌++◌, length, take, drop, leb}

-- a buffer with w written at its front, where it has the room; the rest of it keeps its values
abbrev pub put_front : List ℕ → List ℕ → List ℕ
put_front w buf = cond (leb (length w) (length buf)) (w ++ drop (length w) buf) buf

-- how many bytes were written
abbrev pub put_count : List ℕ → List ℕ → ℕ
put_count w buf = cond (leb (length w) (length buf)) (length w) 0

-- the place behind w, put at a place of a buffer, and the buffer then; without the room nothing is put
unfoldable pub put_end : List ℕ → ℕ → List ℕ → ℕ
put_end w at buf = at + put_count w (drop at buf)

unfoldable pub put_in : List ℕ → ℕ → List ℕ → List ℕ
put_in w at buf = take at buf ++ put_front w (drop at buf)

-- with the room
unfoldable pub put_at : List ℕ → ℕ → List ℕ → List ℕ
put_at w at buf = take at buf ++ w ++ drop (at + length w) buf

pub record Put (w : List ℕ) (at : ℕ) (before after : List ℕ) (r : ℕ) : Type 0 where
  pub behind : r ≡ at + length w
  pub holds : after ≡ put_at w at before
