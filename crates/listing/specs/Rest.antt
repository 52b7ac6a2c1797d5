-- The text behind the first line of a plan, as it is put, and what is put for an input.
use Rattle.std.specs.Prelude.{ℕ, ◌≤◌, List, ◌++◌, length}
use Rattle.buffer.specs.Puts.{Put}
use Rattle.fields.specs.WrittenLines.{written_lines}
use Rattle.plan_record.specs.Record.{buses_of, modules_of}
use Rattle.plan_record.specs.declared.record.BusPlan.{BusPlan}
use Rattle.listing.specs.Listing.{bus_lines, module_lines, listing_max}

abbrev pub rest_text : BusPlan → List ℕ
rest_text p = written_lines (bus_lines 1 (buses_of p)) ++ written_lines (module_lines (modules_of p))

-- printed lines at the front of a buffer, which they fit
abbrev pub Printed : List (List (List ℕ)) → List ℕ → List ℕ → ℕ → Type 0
Printed ls before after end = Put (written_lines ls) 0 before after end × (length (written_lines ls) ≤ listing_max)
