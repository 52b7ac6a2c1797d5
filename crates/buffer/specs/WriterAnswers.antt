-- What a writer answers (document 01, "Refusal numbers"): "lent buffer shorter than what is to be written" is 11, and then "lent buffers keep every byte".
-- What the buffer holds afterwards is `put_front` (Puts).
use Rattle.std.specs.Prelude.{ℕ, cond, List, length, leb, Result, Ok, Err}
use Rattle.units.specs.Refusals.{refused}
use Rattle.units.specs.declared.Fault.TheVariants.{ShortBuffer}
use Rattle.units.specs.declared.Refusal.{Refusal}

-- the answer where w is to be written into a buffer: how many bytes were written
abbrev pub written : List ℕ → List ℕ → Result ℕ Refusal
written w buf = cond (leb (length w) (length buf)) (Ok (length w)) (Err (refused ShortBuffer 0))
