-- `module_part::field_end` meets its contract. The loop's invariant: the last field before `to` is the last one before the place behind i.
-- Assumes nothing.
use mathlib.Core.Path.{◌≡◌}
use Rattle.module_part.specs.Trimmed.{last_field}
use Rattle.module_part.proofs.field_end.Given as goal

abbrev pub invariant-loop-i : goal.invariant-loop-i
invariant-loop-i l = last_field l.to l.text ≡ last_field l.i l.text
