-- `fields::line::line_at` meets its contract: the test gives the value of `line_ending` at what `past_line` ensures. Assumes nothing.
use borrow.Author.Tests.{lt-ltb, le-ltb}
use Prim.Native.Nat.{ℕ, ◌+◌, ◌≤◌, ◌<◌}
use mathlib.Core.Path.{◌≡◌}
use mathlib.Core.List.{List}
use lib.ListN.{length, drop}
use Rattle.fields.specs.Lines.{until_lf, line_to, line_ending, line_at}
use Rattle.fields.specs.declared.line.OneLine.{OneLine}
use Rattle.fields.proofs.line.line_at.Goals as goal

abbrev one : ℕ → ℕ → OneLine
one to next = record { to = to; next = next }

module _ (t : List ℕ) (from e : ℕ) (p : e ≡ from + until_lf (drop from t)) where
  at_last : length t ≤ e → one e e ≡ line_at t from
  unfolding line_at line_ending
  at_last h = rw (← p) (simp (le-ltb _ _ h))

  at-lf : (to : ℕ) → e < length t → to ≡ line_to t from e → one to (e + 1) ≡ line_at t from
  unfolding line_at line_ending
  at-lf to h q = rw (← p, q) (simp (lt-ltb _ _ h))

pub returns-then-text-e : goal.returns-then-text-e
returns-then-text-e c = at_last _ _ _ c.past_line-e.ensures c.if-text-e.true

pub returns : goal.returns
returns c = at-lf _ _ _ c.past_line-e.ensures _ c.if-text-e.false c.line_to.ensures
