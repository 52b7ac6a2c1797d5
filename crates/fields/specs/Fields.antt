-- The fields of a line (document 01, "The SOC text"): "Fields are parted by one or more spaces or tabs; such bytes at either end of a
-- line count for nothing."
use Rattle.std.specs.Prelude.{ℕ, suc, ◌+◌, ◌-◌, Bool, true, false, cond, ◌||◌, not, List, [], ◌∷◌, length, take, drop, Option, None, Some, ltb, eqb}
use Rattle.fields.specs.Bytes.{tab, space}

-- a space or a tab
abbrev pub gap : ℕ → Bool
gap b = eqb b space || eqb b tab

-- does a field go on here?
unfoldable pub begins : List ℕ → Bool
begins [] = false
begins (b ∷ bs) = not (gap b)

-- byte b before a line with the fields fs: part of the first one where that goes on at once, else a field of its own
unfoldable pub on_field : ℕ → Bool → List (List ℕ) → List (List ℕ)
on_field b false fs = (b ∷ []) ∷ fs
on_field b true [] = (b ∷ []) ∷ []
on_field b true (f ∷ fs) = (b ∷ f) ∷ fs

-- the fields of a line: its longest runs of bytes that are neither space nor tab
unfoldable pub fields_of : List ℕ → List (List ℕ)
fields_of [] = []
fields_of (b ∷ bs) = cond (gap b) (fields_of bs) (on_field b (begins bs) (fields_of bs))

-- nothing but spaces and tabs
unfoldable pub blank : List (List ℕ) → Bool
blank [] = true
blank (f ∷ fs) = false

-- the part of s from a to e
abbrev pub part : List ℕ → ℕ → ℕ → List ℕ
part s a e = take (e - a) (drop a s)

-- how many spaces and tabs stand at the front
unfoldable pub gaps : List ℕ → ℕ
gaps [] = 0
gaps (b ∷ bs) = cond (gap b) (suc (gaps bs)) 0

-- how many bytes that are neither stand at the front
unfoldable pub run : List ℕ → ℕ
run [] = 0
run (b ∷ bs) = cond (gap b) 0 (suc (run bs))

-- where the run of such bytes from a place on ends
abbrev pub run_end : List ℕ → ℕ → ℕ
run_end s a = a + run (drop a s)

-- the field that begins at a place, and where it ends; nothing behind the end
unfoldable pub field_from : List ℕ → ℕ → Option (ℕ × ℕ)
field_from s a = cond (ltb a (length s)) (Some (a, run_end s a)) None

-- the first field at or behind a place
unfoldable pub next_field : List ℕ → ℕ → Option (ℕ × ℕ)
next_field s at = field_from s (at + gaps (drop at s))

-- where that field ends; where there is none, the end of the gaps
unfoldable pub field_end : List ℕ → ℕ → ℕ
field_end s at = run_end s (at + gaps (drop at s))
