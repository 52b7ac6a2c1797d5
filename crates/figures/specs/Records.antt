-- The records that the texts of `Texts` are read to, which the proof computes with.
use Rattle.std.specs.Prelude.{false, List, [], ◌∷◌, length}
use Rattle.units.specs.Places.{padded}
use Rattle.fields.specs.Bytes.{bytes}
use Rattle.fields.specs.Names.{name_max}
use Rattle.soc.specs.Limits.{modules_max}
use Rattle.soc.specs.Record.{no_module}
use Rattle.soc.specs.declared.record.Module.{Module}
use Rattle.soc.specs.declared.record.Soc.{Soc}
use Rattle.figures.specs.Cores.{core, one_chain, terminals}

-- a SOC with these modules behind a module 0 without tests
abbrev pub soc_with : List Module → Soc
soc_with ds =
    record {
      name_len = 2;
      name = padded name_max 0 (bytes "t1");
      power = false;
      xy = false;
      module_count = length (core 0 0 0 [] [] ∷ ds);
      modules = padded modules_max no_module (core 0 0 0 [] [] ∷ ds);
    }

-- "Text t1", and "Two copies of its module 1"
abbrev pub t1 : Soc
t1 = soc_with (one_chain ∷ terminals ∷ [])

abbrev pub two_copies : Soc
two_copies = soc_with (one_chain ∷ one_chain ∷ [])
