-- `text_lines::level::lengths_at` meets its contract. The loop's invariant: there are n places, and reading n lengths from the start is to put
-- those of the places passed before reading the others from here. Assumes nothing.
use Prim.Native.Nat.{◌+◌, ◌-◌}
use mathlib.Core.Path.{◌≡◌}
use lib.ListN.{length, take, drop}
use Rattle.fields.specs.Fields.{fields_of}
use Rattle.fields.specs.Readers.{each}
use Rattle.fields.proofs.ReaderLaws.{prepend}
use Rattle.text_lines.specs.Kinds.{chain_length}
use Rattle.text_lines.proofs.level.lengths_at.Given as goal

abbrev pub invariant-loop-place : goal.invariant-loop-place
invariant-loop-place l = (length l.place-items ≡ l.n) × (each l.n (λ _. chain_length) 0 (fields_of (drop l.from l.l)) ≡ prepend (take l.place-index l.place-items) (each (l.n - l.place-index) (λ _. chain_length) (0 + l.place-index) (fields_of (drop l.at l.l))))
