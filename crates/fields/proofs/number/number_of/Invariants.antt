-- `fields::number::number_of` meets its contract. The loop's invariant: the cut number of the field is the cut number that the digits left
-- make behind `v`, which is at most the cap. Assumes nothing.
use Rattle.std.proofs.Common.{◌≡◌, ◌≤◌, drop}
use Rattle.fields.specs.Numbers.{decimal_of, digits, cap, cut}
use Rattle.fields.proofs.number.number_of.Given as goal

abbrev pub invariant-loop-b : goal.invariant-loop-b
invariant-loop-b l = (l.v ≤ cap) × (cut (decimal_of l.f) ≡ cut (digits (drop l.b-index l.f) l.v))
