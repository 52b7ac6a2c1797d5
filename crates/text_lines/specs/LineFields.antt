-- The fields of each line of a SOC text, with a record's own figures (document 01, "The SOC text").
use Rattle.std.specs.Prelude.{ℕ, Bool, true, false, List, [], ◌∷◌, map, ℤ, pos, negsuc}
use Rattle.units.specs.declared.FlipFlops.{FlipFlops}
use Rattle.fields.specs.Bytes.{bytes}
use Rattle.fields.specs.WrittenLines.{decimal}
use Rattle.soc.specs.Record.{name_of, chains_of}
use Rattle.soc.specs.declared.record.Test.{Test}
use Rattle.soc.specs.declared.record.Module.{Module}
use Rattle.soc.specs.declared.record.Soc.{Soc}

-- "0/1"
unfoldable pub flag_field : Bool → List ℕ
flag_field false = bytes "0"
flag_field true = bytes "1"

-- X, Y or Power: "-1 when not given"
unfoldable pub given_field : ℤ → List ℕ
given_field (pos n) = decimal n
given_field (negsuc n) = bytes "-1"

unfoldable pub length_field : FlipFlops → List ℕ
length_field f = decimal f.0

-- "`SocName` name"
unfoldable pub name_fields : Soc → List (List ℕ)
name_fields s = bytes "SocName" ∷ name_of s ∷ []

-- "`TotalModules` n"
unfoldable pub total_fields : Soc → List (List ℕ)
total_fields s = bytes "TotalModules" ∷ decimal s.module_count ∷ []

-- "`Options Power` 0/1 `XY` 0/1"
unfoldable pub options_fields : Soc → List (List ℕ)
options_fields s = bytes "Options" ∷ bytes "Power" ∷ flag_field s.power ∷ bytes "XY" ∷ flag_field s.xy ∷ []

-- "`Module` m", and what stands behind it
abbrev pub module_fields : ℕ → List (List ℕ) → List (List ℕ)
module_fields m fs = bytes "Module" ∷ decimal m ∷ fs

-- "`Level` v `Inputs` n `Outputs` n `Bidirs` n `ScanChains` s `:` then s lengths"
unfoldable pub level_fields : ℕ → Module → List (List ℕ)
level_fields m d =
    module_fields m
    (bytes "Level"
    ∷ decimal d.level
    ∷ bytes "Inputs"
    ∷ decimal d.inputs
    ∷ bytes "Outputs"
    ∷ decimal d.outputs
    ∷ bytes "Bidirs"
    ∷ decimal d.bidirs
    ∷ bytes "ScanChains"
    ∷ decimal d.chain_count
    ∷ bytes ":"
    ∷ map length_field (chains_of d))

-- "`X` x `Y` y"
unfoldable pub position_fields : ℕ → Module → List (List ℕ)
position_fields m d = module_fields m (bytes "X" ∷ given_field d.x ∷ bytes "Y" ∷ given_field d.y ∷ [])

-- "`TotalTests` t"
unfoldable pub tests_fields : ℕ → Module → List (List ℕ)
tests_fields m d = module_fields m (bytes "TotalTests" ∷ decimal d.test_count ∷ [])

-- "`Power` w"
unfoldable pub power_fields : Test → List (List ℕ)
power_fields t = bytes "Power" ∷ given_field t.power ∷ []

-- "`Test` i `ScanUse` 0/1 `TamUse` 0/1 `Patterns` p", and what stands behind it
unfoldable pub test_fields : ℕ → ℕ → Test → List (List ℕ) → List (List ℕ)
test_fields m i t fs =
    module_fields m
    (bytes "Test"
    ∷ decimal i
    ∷ bytes "ScanUse"
    ∷ flag_field t.scan_use
    ∷ bytes "TamUse"
    ∷ flag_field t.tam_use
    ∷ bytes "Patterns"
    ∷ decimal t.patterns
    ∷ fs)
