-- The cores of document 01's section "Figures to hold against".
use Rattle.std.specs.Prelude.{ℕ, true, List, [], ◌∷◌, map, length}
use Rattle.soc.specs.Limits.{chains_max, tests_max}
use Rattle.units.specs.Places.{padded}
use Rattle.soc.specs.Record.{flip_flops, not_given, no_test}
use Rattle.soc.specs.declared.record.Test.{Test}
use Rattle.soc.specs.declared.record.Module.{Module}

-- a test of p patterns with ScanUse 1 and TamUse 1
abbrev pub test : ℕ → Test
test p = record { scan_use = true; tam_use = true; patterns = p; power = not_given }

-- a module with i inputs, o outputs, these chains and these tests
abbrev pub core : ℕ → ℕ → ℕ → List ℕ → List Test → Module
core v i o fs ts =
    record {
      level = v;
      inputs = i;
      outputs = o;
      bidirs = 0;
      chain_count = length fs;
      chains = padded chains_max (flip_flops 0) (map flip_flops fs);
      x = not_given;
      y = not_given;
      test_count = length ts;
      tests = padded tests_max no_test ts;
    }

-- "Core A of document 000 (8 inputs, 11 outputs, chains 12 12 8 8 8 6 6 6 6), 10 patterns"
abbrev pub core_a : Module
core_a = core 1 8 11 (12 ∷ 12 ∷ 8 ∷ 8 ∷ 8 ∷ 6 ∷ 6 ∷ 6 ∷ 6 ∷ []) (test 10 ∷ [])

-- "One chain of 10, 5 patterns"
abbrev pub one_chain : Module
one_chain = core 1 0 0 (10 ∷ []) (test 5 ∷ [])

-- "3 inputs, 2 outputs, 4 patterns"
abbrev pub terminals : Module
terminals = core 1 3 2 [] (test 4 ∷ [])

-- "No terminals, no chains, 7 patterns"
abbrev pub nothing : Module
nothing = core 1 0 0 [] (test 7 ∷ [])
