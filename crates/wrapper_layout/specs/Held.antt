-- How code holds the test that is asked for and threaded chains. Only private functions speak of it to each other.
use Rattle.std.specs.Prelude.{ℕ, Result, Ok, Err}
use Rattle.units.specs.Places.{padded}
use Rattle.units.specs.declared.Fault.{Fault}
use Rattle.soc.specs.declared.record.Test.{Test}
use Rattle.soc.specs.declared.record.Module.{Module}
use Rattle.wrapper_fit.specs.Maxima.{width_max}
use Rattle.wrapper_scans.specs.Chains.{Threaded}
use Rattle.wrapper_layout.specs.LayoutAnswers.{asked_test}
use Rattle.wrapper_layout.specs.declared.places.Threading.{Threading}

-- the test that is asked for
unfoldable pub found_test : Module → ℕ → Result Test Fault
found_test d i = asked_test d i Err Ok

-- wrapper chains with internal chains in them
abbrev pub threading_of : Threaded → Threading
threading_of t = record { lengths = padded width_max 0 t.lengths; places = t.places }
