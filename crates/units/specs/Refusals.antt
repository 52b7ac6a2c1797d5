-- A refusal, as the section "Refusal numbers" of document 01 and the requests of document 02 have it: its fault, which has a number there, and its line.
use Rattle.std.specs.Prelude.{ℕ}
use Rattle.units.specs.declared.Fault.{Fault}
use Rattle.units.specs.declared.Fault.TheVariants.{LongText, ForbiddenByte, WrongForm, WrongFigure, BrokenRule, EarlyEnd, Width, Buses, NonePlanned, ManyPlanned, ShortBuffer, BadPlan, NotThere, BadSoc, OtherBase, Capture, PlannedPins, Budget}
use Rattle.units.specs.declared.Refusal.{Refusal}

-- the number of each fault
abbrev pub number_of : Fault → ℕ
number_of LongText = 1
number_of ForbiddenByte = 2
number_of WrongForm = 3
number_of WrongFigure = 4
number_of BrokenRule = 5
number_of EarlyEnd = 6
number_of Width = 7
number_of Buses = 8
number_of NonePlanned = 9
number_of ManyPlanned = 10
number_of ShortBuffer = 11
number_of BadPlan = 12
number_of NotThere = 13
number_of BadSoc = 14
number_of OtherBase = 15
number_of Capture = 16
number_of PlannedPins = 17
number_of Budget = 18

-- "A refusal returns its number and line"
abbrev pub refused : Fault → ℕ → Refusal
refused f n = record { fault = f; line = n }
