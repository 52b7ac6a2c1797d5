-- The SOC record: what of it is in use, and what a spare place holds.
use Rattle.std.specs.Prelude.{ℕ, false, List, take, replicate, ℤ, pos, negsuc}
use Rattle.units.specs.declared.FlipFlops.{FlipFlops}
use Rattle.fields.specs.Names.{name_max}
use Rattle.soc.specs.Limits.{modules_max, chains_max, tests_max}
use Rattle.soc.specs.declared.record.Test.{Test}
use Rattle.soc.specs.declared.record.Module.{Module}
use Rattle.soc.specs.declared.record.Soc.{Soc}

abbrev pub name_of : Soc → List ℕ
name_of s = take s.name_len s.name

abbrev pub modules_of : Soc → List Module
modules_of s = take s.module_count s.modules

abbrev pub chains_of : Module → List FlipFlops
chains_of m = take m.chain_count m.chains

abbrev pub tests_of : Module → List Test
tests_of m = take m.test_count m.tests

-- X, Y or Power "-1, which means not given"
abbrev pub not_given : ℤ
not_given = negsuc 0

abbrev pub flip_flops : ℕ → FlipFlops
flip_flops n = record { 0 = n }

-- what spare places hold: 0 throughout
abbrev pub no_test : Test
no_test = record { scan_use = false; tam_use = false; patterns = 0; power = pos 0 }

abbrev pub no_module : Module
no_module =
    record {
      level = 0;
      inputs = 0;
      outputs = 0;
      bidirs = 0;
      chain_count = 0;
      chains = replicate chains_max (flip_flops 0);
      x = pos 0;
      y = pos 0;
      test_count = 0;
      tests = replicate tests_max no_test;
    }

abbrev pub no_soc : Soc
no_soc =
    record {
      name_len = 0;
      name = replicate name_max 0;
      power = false;
      xy = false;
      module_count = 0;
      modules = replicate modules_max no_module;
    }
