-- Laws of the numbers of faults: they are 1 to 18. Assumes nothing.
use Prim.Native.Nat.{ℕ, ◌≤◌}
use native.Mathlib.Omega.{arith}
use Rattle.units.specs.Refusals.{number_of}
use Rattle.units.specs.declared.Fault.{Fault}
use Rattle.units.specs.declared.Fault.TheVariants.{LongText, ForbiddenByte, WrongForm, WrongFigure, BrokenRule, EarlyEnd, Width, Buses, NonePlanned, ManyPlanned, ShortBuffer, BadPlan, NotThere, BadSoc, OtherBase, Capture, PlannedPins, Budget}

pub number_bounds : (f : Fault) → (1 ≤ number_of f) × (number_of f ≤ 18)
number_bounds LongText = (omega arith, omega arith)
number_bounds ForbiddenByte = (omega arith, omega arith)
number_bounds WrongForm = (omega arith, omega arith)
number_bounds WrongFigure = (omega arith, omega arith)
number_bounds BrokenRule = (omega arith, omega arith)
number_bounds EarlyEnd = (omega arith, omega arith)
number_bounds Width = (omega arith, omega arith)
number_bounds Buses = (omega arith, omega arith)
number_bounds NonePlanned = (omega arith, omega arith)
number_bounds ManyPlanned = (omega arith, omega arith)
number_bounds ShortBuffer = (omega arith, omega arith)
number_bounds BadPlan = (omega arith, omega arith)
number_bounds NotThere = (omega arith, omega arith)
number_bounds BadSoc = (omega arith, omega arith)
number_bounds OtherBase = (omega arith, omega arith)
number_bounds Capture = (omega arith, omega arith)
number_bounds PlannedPins = (omega arith, omega arith)
number_bounds Budget = (omega arith, omega arith)
