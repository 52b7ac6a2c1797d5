-- What it is to put a key and a field behind it, into any buffer at a place: the place behind both, and the buffer then. Without the
-- room for one it is not put (`buffer`'s specs/Puts.antt).
use Rattle.std.specs.Prelude.{ℕ, ◌≡◌, List}
use Rattle.buffer.specs.Puts.{put_end, put_in}

abbrev pub PutKey : List ℕ → List ℕ → ℕ → List ℕ → List ℕ → ℕ → Type 0
PutKey key field at before after r =
    (r ≡ put_end field (put_end key at before) (put_in key at before))
    × (after ≡ put_in field (put_end key at before) (put_in key at before))
