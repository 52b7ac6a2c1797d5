-- The limits of document 01's section "The SOC text", each once.
use Rattle.std.specs.Prelude.{ℕ}

-- "SOC text over 61,440 bytes" is 1
abbrev pub text_max : ℕ
text_max = 61440

-- "`TotalModules` n, 1 to 40"
abbrev pub modules_max : ℕ
modules_max = 40

-- "Level 0 to 40"
abbrev pub level_max : ℕ
level_max = 40

-- "terminals 0 to 8,191 of each kind"
abbrev pub terminals_max : ℕ
terminals_max = 8191

-- "s 0 to 64"
abbrev pub chains_max : ℕ
chains_max = 64

-- "lengths 1 to 4,096"
abbrev pub length_max : ℕ
length_max = 4096

-- "t 0 to 8"
abbrev pub tests_max : ℕ
tests_max = 8

-- "p 1 to 16,777,215"
abbrev pub patterns_max : ℕ
patterns_max = 16777215

-- "x and y 0 to 1,000,000"
abbrev pub position_max : ℕ
position_max = 1000000

-- "w 0 to 16,777,215"
abbrev pub power_max : ℕ
power_max = 16777215
