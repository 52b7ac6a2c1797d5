-- `fields::byte::is_lf_at` meets its contract: what stands behind a place begins with the byte there. Assumes nothing.
use Prim.Native.Nat.{ℕ, ◌≤◌, ◌<◌}
use mathlib.Core.Path.{◌≡◌, ◌∙◌}
use mathlib.Core.Bool.{false}
use mathlib.Core.List.{List}
use borrow.Author.Tests.{le-ltb}
use lib.ListN.{length, get_or, drop, drop_of_length-le}
use lib.Dec.{eqb}
use lib.Seq.{drop-cons}
use Rattle.fields.specs.Bytes.{lf, lf_next}
use Rattle.fields.proofs.byte.is_lf_at.Goals as goal

lf-at : (s : List ℕ) (i : ℕ) → i < length s → eqb (get_or s i 0) lf ≡ lf_next (drop i s)
unfolding lf_next
lf-at s i h = rw (drop-cons s i 0)

lf-end : (s : List ℕ) (i : ℕ) → length s ≤ i → false ≡ lf_next (drop i s)
unfolding lf_next
lf-end s i h = rw (drop_of_length-le s h)

pub returns-then-at-text : goal.returns-then-at-text
returns-then-at-text c = lf-at _ _ c.if-at-text.true

pub returns-else-at-text : goal.returns-else-at-text
returns-else-at-text c = le-ltb _ _ c.if-at-text.false ∙ lf-end _ _ c.if-at-text.false
