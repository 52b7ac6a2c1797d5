-- Document 01's text t1, as its section "The printing program" prints it, and the same with a second copy of its module 1 in the place of its module 2.
use Rattle.std.specs.Prelude.{ℕ, List, [], ◌∷◌, ◌++◌}
use Prim.Native.String.{String}
use Rattle.fields.specs.Bytes.{bytes, lf}

-- lines, each with LF behind it
unfoldable pub text : List String → List ℕ
text [] = []
text (l ∷ ls) = bytes l ++ lf ∷ text ls

-- the lines of t1 before those of its module 2
abbrev pub up_to2 : List String
up_to2 =
    "SocName t1"
    ∷ "TotalModules 3"
    ∷ "Options Power 0 XY 0"
    ∷ "Module 0 Level 0 Inputs 0 Outputs 0 Bidirs 0 ScanChains 0 :"
    ∷ "Module 0 TotalTests 0"
    ∷ "Module 1 Level 1 Inputs 0 Outputs 0 Bidirs 0 ScanChains 1 : 10"
    ∷ "Module 1 TotalTests 1"
    ∷ "Module 1 Test 1 ScanUse 1 TamUse 1 Patterns 5"
    ∷ []

-- "Text t1"
abbrev pub t1_text : List ℕ
t1_text =
    text up_to2
    ++ text
    ("Module 2 Level 1 Inputs 3 Outputs 2 Bidirs 0 ScanChains 0 :"
    ∷ "Module 2 TotalTests 1"
    ∷ "Module 2 Test 1 ScanUse 1 TamUse 1 Patterns 4"
    ∷ [])

-- "Two copies of its module 1"
abbrev pub two_copies_text : List ℕ
two_copies_text =
    text up_to2
    ++ text
    ("Module 2 Level 1 Inputs 0 Outputs 0 Bidirs 0 ScanChains 1 : 10"
    ∷ "Module 2 TotalTests 1"
    ∷ "Module 2 Test 1 ScanUse 1 TamUse 1 Patterns 5"
    ∷ [])
