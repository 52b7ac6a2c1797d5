-- `fields::field::next_field_lem` meets its contract: what `past_gaps` and `past_run` ensure are the two places that `next_field` names.
-- Assumes nothing.
use borrow.Author.Tests.{lt-ltb, le-ltb}
use Prim.Native.Nat.{ℕ, ◌+◌, ◌≤◌, ◌<◌}
use mathlib.Core.Path.{◌≡◌}
use mathlib.Core.List.{List}
use lib.ListN.{length, drop}
use Rattle.fields.specs.Fields.{gaps, run, field_from, next_field}
use Rattle.std.specs.Prelude.{Some, None}
use Rattle.fields.proofs.field.next_field.Goals as goal

field-none : (s : List ℕ) (at a : ℕ) → a ≡ at + gaps (drop at s) → length s ≤ a → None ≡ next_field s at
unfolding next_field field_from
field-none s at a p h = rw (← p) (simp (le-ltb _ _ h))

field-some : (s : List ℕ) (at a e : ℕ) → a ≡ at + gaps (drop at s) → a < length s → e ≡ a + run (drop a s) → Some (a, e) ≡ next_field s at
unfolding next_field field_from
field-some s at a e p h q = rw (← p, ← q) (simp (lt-ltb _ _ h))

pub returns-then-l-a : goal.returns-then-l-a
returns-then-l-a c = field-none _ _ _ c.past_gaps-a.ensures c.if-l-a.true

pub returns : goal.returns
returns c = field-some _ _ _ _ c.past_gaps-a.ensures c.if-l-a.false c.past_run.ensures
