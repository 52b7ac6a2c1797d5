-- `c_forms::soc_read::soc_at` meets its contract. The loop's invariant: the array holds what is read at the first `i` places.
-- Assumes nothing.
use mathlib.Core.Path.{◌≡◌}
use Rattle.units.specs.Places.{padded}
use Rattle.little_endian.specs.Rows.{rows}
use Rattle.soc.specs.Limits.{modules_max}
use Rattle.soc.specs.Record.{no_module}
use Rattle.c_forms.specs.SocForm.{module_length, modules_from, module_at}
use Rattle.c_forms.proofs.soc_read.soc_at.Given as goal

abbrev pub invariant-loop-i : goal.invariant-loop-i
invariant-loop-i l = l.modules ≡ padded modules_max no_module (rows (module_at l.b) module_length l.i modules_from)
