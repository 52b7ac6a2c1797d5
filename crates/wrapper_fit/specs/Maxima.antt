-- The widest bus, the most capture cycles, and the longest that a test and a module take (document 01, "The wrapper rule" and "Refusal
-- numbers"; document 02, item 5).
use Rattle.std.specs.Prelude.{ℕ}

-- "width or W outside 1 to 64" is 7
abbrev pub width_max : ℕ
width_max = 64

-- "c outside 1 to 4 is 16"
abbrev pub capture_max : ℕ
capture_max = 4

-- "the cycle maxima of document 01 become those for c = 4": of one test, and of one module, which has eight at most
abbrev pub test_time_max : ℕ
test_time_max = 4672957972476

abbrev pub module_time_max : ℕ
module_time_max = 37383663779808
