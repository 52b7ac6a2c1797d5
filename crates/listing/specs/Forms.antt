-- A line as code puts it: a form, in which each `#` stands for the next of its figures.
use Rattle.std.specs.Prelude.{ℕ, ◌+◌, cond, List, [], ◌∷◌, ◌++◌, get_or, drop, eqb}
use Rattle.fields.specs.WrittenLines.{decimal}

abbrev pub mark : ℕ
mark = 35

-- how many figures a form asks for
unfoldable pub marks : List ℕ → ℕ
marks [] = 0
marks (b ∷ f) = cond (eqb b mark) 1 0 + marks f

-- a form with its figures
unfoldable pub formed : List ℕ → List ℕ → List ℕ
formed [] vs = []
formed (b ∷ f) vs =
    let figure = decimal (get_or vs 0 0) ++ formed f (drop 1 vs) in
    let byte = b ∷ formed f vs in
    cond (eqb b mark) figure byte
