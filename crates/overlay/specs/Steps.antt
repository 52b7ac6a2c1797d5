-- What a block's first line says, as the code holds it.
use Rattle.std.specs.Prelude.{Result, Ok, Err}
use Rattle.text_lines.specs.Kinds.{BlockStart}
use Rattle.units.specs.declared.Fault.{Fault}
use Rattle.overlay.specs.declared.line.BlockLine.{BlockLine}

abbrev pub start_in : BlockLine → BlockStart
start_in l = record { number = l.number; shape = l.shape }

abbrev pub start_said : Result BlockLine Fault → Result BlockStart Fault
start_said (Err f) = Err f
start_said (Ok l) = Ok (start_in l)
