-- The numbers that a SOC text is refused with (document 01, "Refusal numbers" and their order; document 02, item 6).
use Rattle.std.specs.Prelude.{ℕ, ◌≤◌, ◌≡◌, ◌⊎◌, Result, Ok, Err}
use Rattle.units.specs.declared.Fault.{Fault}
use Rattle.units.specs.declared.Refusal.{Refusal}

-- "2 to 5 with the line", and "17 with the line"
abbrev pub NumberWithLine : ℕ → Type 0
NumberWithLine c = ((2 ≤ c) × (c ≤ 5)) ⊎ (c ≡ 17)

-- all of them: 1 to 6, and 17
abbrev pub TextNumber : ℕ → Type 0
TextNumber c = ((1 ≤ c) × (c ≤ 6)) ⊎ (c ≡ 17)

-- an answer up to the line of its refusal: what is given, or what is wrong
abbrev pub up_to_line : {A : Type 0} → Result A Refusal → Result A Fault
up_to_line (Ok a) = Ok a
up_to_line (Err r) = Err r.fault
