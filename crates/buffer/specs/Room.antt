-- What is written into a room: all of it, or nothing.
use Rattle.std.specs.Prelude.{ℕ, cond, leb}

unfoldable pub all_or_none : ℕ → ℕ → ℕ
all_or_none n room = cond (leb n room) n 0
