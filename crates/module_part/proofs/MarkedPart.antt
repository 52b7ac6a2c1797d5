-- The part between two marks, from a byte of a field to a byte of a field, is the part in which the module's lines stand: a walk over all
-- lines passes those before with nothing, begins the part at the first field of the module's lines, and ends it at their last. Assumes
-- nothing.
use Prim.Native.Nat.{ℕ, zero, suc, ◌+◌, ◌-◌, ◌≤◌, ◌<◌}
use native.Mathlib.Omega.{arith}
use mathlib.Core.Path.{◌≡◌, refl, sym, ap, ◌∙◌}
use mathlib.Core.Bool.{Bool, true, false, cond, ◌&&◌}
use mathlib.Core.List.{List, [], ◌∷◌}
use borrow.Author.Tests.{ne_eqb, lt-ltb, ltb-true, ltb-false}
use lib.ListN.{length, drop}
use lib.Dec.{ltb, eqb}
use Rattle.units.proofs.TestLaws.{clash}
use Rattle.fields.specs.Fields.{gap, gaps, begins, on_field, fields_of, part, blank}
use Rattle.fields.specs.Lines.{lines_of, Line, lines_from, until_lf, line_at}
use Rattle.fields.specs.Readers.{FieldsGot, no, got, after, bytes_due}
use Rattle.fields.proofs.LineLaws.{LineIs, line-is, lines-blank, lines-some, lines_none}
use Rattle.text_lines.specs.Kinds.{module_due}
use Rattle.text_reader.specs.Marks.{Of, Other, Passes, LinesOf, Marked}
use Rattle.module_part.specs.ModulePart.{last_end, begun, is_of, no_part, widened, with_line, part_from, module_part}
use Rattle.module_part.specs.Trimmed.{until_field, last_field, trimmed}
use Rattle.module_part.specs.declared.Part.{Part}
use Rattle.module_part.proofs.PartLaws.{last-behind, from_end}
use Rattle.module_part.proofs.TrimLaws.{last-before, last_within, front-lines, last-lines, first-last, first_until, next_last}

-- a blank line has no last field
last-blank : (l : List ℕ) → fields_of l ≡ [] → last_end l ≡ 0
unfolding last_end fields_of on_field
last-blank [] e = refl
last-blank (b ∷ l) e = go (gap b) (λ k. last-blank l k) e
  where
    some : (u : Bool) (fs : List (List ℕ)) → on_field b u fs ≡ [] → ⊥
    some false fs k = clash cc
    some true [] k = clash cc
    some true (f ∷ fs) k = clash cc

    go : (u : Bool) → (fields_of l ≡ [] → last_end l ≡ 0) → cond u (fields_of l) (on_field b (begins l) (fields_of l)) ≡ []
        → cond (u && eqb (last_end l) 0) 0 (suc (last_end l)) ≡ 0
    go true f k = rw (f k)
    go false f k = absurd (some (begins l) (fields_of l) k)

-- whether a line is of the module

other_line : (m : ℕ) (fs : List (List ℕ)) → ((gs : List (List ℕ)) → module_due m fs ≡ got tt gs → ⊥) → begun (module_due m fs) ≡ false
unfolding begun
other_line m fs h = go (module_due m fs) h
  where
    go : (g : FieldsGot (Unit {0})) → ((gs : List (List ℕ)) → g ≡ got tt gs → ⊥) → begun g ≡ false
    go (no c) h = refl
    go (got tt gs) h = absurd (h gs refl)

of_line : (m : ℕ) (l : Line) → Of m l → begun (module_due m l.fields) ≡ true
unfolding begun
of_line m l o = ap begun o.begins

module _ (m : ℕ) (t : List ℕ) where
  abbrev line : ℕ → List ℕ
  line at = part t at (line_at t at).to

  abbrev next : ℕ → ℕ
  next at = (line_at t at).next

  abbrev here : ℕ → ℕ → Line
  here at n = record { number = n; fields = fields_of (part t at (line_at t at).to) }

  -- what stands at a place: nothing, a blank line, or a line with fields
  data At (at n : ℕ) : Type 0 where
    over : length t ≤ at → lines_from n t at ≡ [] → At at n
    blank_line : at < length t → fields_of (line at) ≡ [] → lines_from n t at ≡ lines_from (n + 1) t (next at) → At at n
    some_line : at < length t → (fields_of (line at) ≡ [] → ⊥) → lines_from n t at ≡ here at n ∷ lines_from (n + 1) t (next at) → At at n

  look : (at n : ℕ) → At at n
  unfolding blank
  look at n = go (ltb at (length t)) refl
    where
      fields : (h : at < length t) → LineIs t at (line_at t at).to (next at) → (fs : List (List ℕ)) → fields_of (line at) ≡ fs → At at n
      fields h i [] e = At.blank_line h e (lines-blank t at (line_at t at).to (next at) i (ap blank e) n)
      fields h i (f ∷ fs) e =
          At.some_line h (λ z. none (sym e ∙ z)) (lines-some t at (line_at t at).to (next at) i (ap blank e) n)
        where
          none : f ∷ fs ≡ [] → ⊥
          none k = clash cc

      go : (u : Bool) → ltb at (length t) ≡ u → At at n
      go true e = let h = ltb-true at (length t) e in fields h (line-is t at (line_at t at) h refl) (fields_of (line at)) refl
      go false e = At.over (ltb-false at (length t) e) (lines_none n t at (ltb-false at (length t) e))

  -- a line that there is, and the walk over it
  module _ (at : ℕ) (inside : at < length t) where
    is : LineIs t at (line_at t at).to (line_at t at).next
    is = line-is t at (line_at t at) inside refl

    line-last : last_field (suc (until_lf (drop at t))) (drop at t) ≡ last_end (line at)
    line-last = first-last (drop at t) (line at) (lines_of (drop (next at) t)) is.is

    blank-last : fields_of (line at) ≡ [] → last_field (next at) t ≡ last_field at t
    blank-last e = next_last t at ∙ last-before at (suc (until_lf (drop at t))) t (line-last ∙ last-blank (line at) e)

    some-last : (fields_of (line at) ≡ [] → ⊥) → last_field (next at) t ≡ at + last_end (line at)
    some-last n =
        let h = last-behind (line at) n in
        let k : last_end (line at) ≡ suc (last_end (line at) - 1) = omega (arith, h) in
        next_last t at ∙ last_within at (suc (until_lf (drop at t))) (last_end (line at) - 1) t (line-last ∙ k) ∙ ap (λ x. at + x) (sym k)

    some_first : (fields_of (line at) ≡ [] → ⊥) → at + until_field (drop at t) ≡ at + gaps (line at)
    some_first n = ap (λ x. at + x) (first_until (drop at t) (line at) (lines_of (drop (next at) t)) is.is n)

    abbrev wider : Part → Part
    wider s = widened s (at + gaps (line at)) (at + last_end (line at))

    step : (k : ℕ) (s : Part) → part_from (suc k) m t at s ≡ part_from k m t (next at) (with_line m s at (line at))
    unfolding part_from
    step k s = rw (lt-ltb at (length t) inside)

    pass : (k : ℕ) (s : Part) → is_of m (line at) ≡ false → part_from (suc k) m t at s ≡ part_from k m t (next at) s
    unfolding with_line
    pass k s e = step k s ∙ ap (λ (b : Bool). part_from k m t (next at) (cond b (wider s) s)) e

    take-line : (k : ℕ) (s : Part) → is_of m (line at) ≡ true
        → part_from (suc k) m t at s ≡ part_from k m t (next at) (widened s (at + gaps (line at)) (at + last_end (line at)))
    unfolding with_line
    take-line k s e = step k s ∙ ap (λ (b : Bool). part_from k m t (next at) (cond b (wider s) s)) e

    blank_pass : (k : ℕ) (s : Part) → fields_of (line at) ≡ [] → part_from (suc k) m t at s ≡ part_from k m t (next at) s
    unfolding begun after bytes_due
    blank_pass k s e = pass k s (ap (λ fs. begun (module_due m fs)) e)

    other_pass : (k n : ℕ) (s : Part) (l : Line) → here at n ≡ l → Other m l → part_from (suc k) m t at s ≡ part_from k m t (next at) s
    other_pass k n s l e o = pass k s (ap (λ (x : Line). begun (module_due m x.fields)) e ∙ other_line m l.fields o)

  -- behind the module's lines the part stays
  behind_stays : (k n at : ℕ) (s : Part) (ls : List Line) → lines_from n t at ≡ ls → Passes (Other m) ls [] → part_from k m t at s ≡ s
  unfolding part_from
  behind_stays zero n at s ls e p = refl
  behind_stays (suc k) n at s ls e p = go (λ n ls e p. behind_stays k n (next at) s ls e p) ls p (look at n) e
    where
      go : ((n : ℕ) (ls : List Line) → lines_from n t (next at) ≡ ls → Passes (Other m) ls [] → part_from k m t (next at) s ≡ s)
          → (ls : List Line) → Passes (Other m) ls [] → At at n → lines_from n t at ≡ ls → part_from (suc k) m t at s ≡ s
      go f ls p (At.over h z) e = from_end m t at s h (suc k)
      go f ls p (At.blank_line h b z) e = blank_pass at h k s b ∙ f (n + 1) ls (sym z ∙ e) p
      go f [] Passes.none (At.some_line h b z) e = clash cc
      go f (l ∷ ls) (Passes.more o p) (At.some_line h b z) e =
          let q : here at n ∷ lines_from (n + 1) t (next at) ≡ l ∷ ls = sym z ∙ e in
          let i : here at n ≡ l = cc in
          let j : lines_from (n + 1) t (next at) ≡ ls = cc in
          other_pass at h k n s l i o ∙ f (n + 1) ls j p

  -- where lines are left the place lies in the text
  some-inside : (n at : ℕ) (l : Line) (ls : List Line) → lines_from n t at ≡ l ∷ ls → at < length t
  some-inside n at l ls e = go (look at n)
    where
      go : At at n → at < length t
      go (At.over h z) = let q : l ∷ ls ≡ [] = sym e ∙ z in clash cc
      go (At.blank_line h b z) = h
      go (At.some_line h b z) = h

  -- up to the mark behind the module's lines
  module _ (n' to : ℕ) (after-it : Passes (Other m) (lines_from n' t to) []) where
    abbrev ended : Part → Part
    ended s = record { from = s.from; to = last_field to t }

    widened-some : (s : Part) (from e : ℕ) → 0 < s.to → widened s from e ≡ record { from = s.from; to = e }
    widened-some s from e h =
        ap (λ (b : Bool). record { from = cond b from s.from; to = e }) (ne_eqb s.to 0 (λ z. omega (arith, z, h)))

    ends-here : (k n at : ℕ) (s : Part) → lines_from n t at ≡ lines_from n' t to → s.to ≡ last_field at t → part_from k m t at s ≡ ended s
    ends-here k n at s e last =
        behind_stays k n at s (lines_from n' t to) e after-it
        ∙ ap (λ x. record { from = s.from; to = x }) (last ∙ last-lines t n at n' to e)

    -- the part ends where the last field before the present place does
    within-ends : (k n at : ℕ) (s : Part) (ls : List Line) → length t ≤ k + at → lines_from n t at ≡ ls
        → Passes (Of m) ls (lines_from n' t to) → 0 < s.to → s.to ≡ last_field at t → part_from k m t at s ≡ ended s
    within-ends zero n at s ls h e p some last = go ls p e
      where
        go : (ls : List Line) → Passes (Of m) ls (lines_from n' t to) → lines_from n t at ≡ ls → part_from zero m t at s ≡ ended s
        go ls Passes.none e = ends-here zero n at s e last
        go (l ∷ ls) (Passes.more o p) e = let i = some-inside n at l ls e in absurd (omega (arith, h, i))
    within-ends (suc k) n at s ls h e p some last = go ls p e (look at n)
        (λ i s ls e p some last. within-ends k (n + 1) (next at) s ls (omega (arith, h, (is at i).more)) e p some last)
      where
        go : (ls : List Line) → Passes (Of m) ls (lines_from n' t to) → lines_from n t at ≡ ls → At at n
            → (at < length t → (s : Part) (ls : List Line) → lines_from (n + 1) t (next at) ≡ ls → Passes (Of m) ls (lines_from n' t to)
            → 0 < s.to → s.to ≡ last_field (next at) t → part_from k m t (next at) s ≡ ended s)
            → part_from (suc k) m t at s ≡ ended s
        go ls Passes.none e a f = ends-here (suc k) n at s e last
        go (l ∷ ls) (Passes.more o p) e (At.over i z) f = let q : l ∷ ls ≡ [] = sym e ∙ z in clash cc
        go (l ∷ ls) (Passes.more o p) e (At.blank_line i b z) f =
            blank_pass at i k s b ∙ f i s (l ∷ ls) (sym z ∙ e) (Passes.more o p) some (last ∙ sym (blank-last at i b))
        go (l ∷ ls) (Passes.more o p) e (At.some_line i b z) f =
            let q : here at n ∷ lines_from (n + 1) t (next at) ≡ l ∷ ls = sym z ∙ e in
            let j : here at n ≡ l = cc in
            let r : lines_from (n + 1) t (next at) ≡ ls = cc in
            let y : is_of m (line at) ≡ true = ap (λ (x : Line). begun (module_due m x.fields)) j ∙ of_line m l o in
            let w : Part = record { from = s.from; to = at + last_end (line at) } in
            take-line at i k s y
            ∙ ap (part_from k m t (next at)) (widened-some s (at + gaps (line at)) (at + last_end (line at)) some)
            ∙ f i w ls r p (omega (arith, last-behind (line at) b)) (sym (some-last at i b))

    -- from the mark before them
    module _ (n'' from : ℕ) (lines : LinesOf m (lines_from n'' t from) (lines_from n' t to)) where
      abbrev all : Part
      all = record { from = from + until_field (drop from t); to = last_field to t }

      from-inside : from < length t
      from-inside = some-inside n'' from lines.first lines.rest lines.lines

      -- the first of the module's lines begins the part
      first-begins : (k n at : ℕ) → length t ≤ k + at → lines_from n t at ≡ lines_from n'' t from → part_from k m t at no_part ≡ all
      first-begins zero n at h e =
          let i = some-inside n at lines.first lines.rest (e ∙ lines.lines) in absurd (omega (arith, h, i))
      first-begins (suc k) n at h e = go (look at n) (λ i e. first-begins k (n + 1) (next at) (omega (arith, h, (is at i).more)) e)
        where
          go : At at n → (at < length t → lines_from (n + 1) t (next at) ≡ lines_from n'' t from → part_from k m t (next at) no_part ≡ all)
              → part_from (suc k) m t at no_part ≡ all
          go (At.over i z) f =
              let q : lines.first ∷ lines.rest ≡ [] = sym (e ∙ lines.lines) ∙ z in clash cc
          go (At.blank_line i b z) f = blank_pass at i k no_part b ∙ f i (sym z ∙ e)
          go (At.some_line i b z) f =
              let q : here at n ∷ lines_from (n + 1) t (next at) ≡ lines.first ∷ lines.rest = sym z ∙ e ∙ lines.lines in
              let j : here at n ≡ lines.first = cc in
              let r : lines_from (n + 1) t (next at) ≡ lines.rest = cc in
              let y : is_of m (line at) ≡ true =
              ap (λ (x : Line). begun (module_due m x.fields)) j ∙ of_line m lines.first lines.begins in
              let w : Part = record { from = at + gaps (line at); to = at + last_end (line at) } in
              let u : at + gaps (line at) ≡ from + until_field (drop from t) =
              sym (some_first at i b) ∙ front-lines t n at n'' from e (omega (arith, i)) (omega (arith, from-inside)) in
              take-line at i k no_part y
              ∙ within-ends k (n + 1) (next at) w lines.rest (omega (arith, h, (is at i).more)) r lines.goes_on
              (omega (arith, last-behind (line at) b)) (sym (some-last at i b))
              ∙ ap (λ x. record { from = x; to = last_field to t }) u

      -- the lines before them are passed
      before-passed : (k n at : ℕ) (ls : List Line) → length t ≤ k + at → lines_from n t at ≡ ls → Passes (Other m) ls (lines_from n'' t from)
          → part_from k m t at no_part ≡ all
      before-passed zero n at ls h e p = go ls p e
        where
          go : (ls : List Line) → Passes (Other m) ls (lines_from n'' t from) → lines_from n t at ≡ ls → part_from zero m t at no_part ≡ all
          go ls Passes.none e = first-begins zero n at h e
          go (l ∷ ls) (Passes.more o p) e = let i = some-inside n at l ls e in absurd (omega (arith, h, i))
      before-passed (suc k) n at ls h e p = go ls p e (look at n)
          (λ i ls e p. before-passed k (n + 1) (next at) ls (omega (arith, h, (is at i).more)) e p)
        where
          go : (ls : List Line) → Passes (Other m) ls (lines_from n'' t from) → lines_from n t at ≡ ls → At at n
              → (at < length t → (ls : List Line) → lines_from (n + 1) t (next at) ≡ ls → Passes (Other m) ls (lines_from n'' t from)
              → part_from k m t (next at) no_part ≡ all)
              → part_from (suc k) m t at no_part ≡ all
          go ls Passes.none e a f = first-begins (suc k) n at h e
          go (l ∷ ls) (Passes.more o p) e (At.over i z) f = let q : l ∷ ls ≡ [] = sym e ∙ z in clash cc
          go (l ∷ ls) (Passes.more o p) e (At.blank_line i b z) f =
              blank_pass at i k no_part b ∙ f i (l ∷ ls) (sym z ∙ e) (Passes.more o p)
          go (l ∷ ls) (Passes.more o p) e (At.some_line i b z) f =
              let q : here at n ∷ lines_from (n + 1) t (next at) ≡ l ∷ ls = sym z ∙ e in
              let j : here at n ≡ l = cc in
              let r : lines_from (n + 1) t (next at) ≡ ls = cc in
              other_pass at i k n no_part l j o ∙ f i ls r p

-- between the marks, from the first field to the last, is the part
pub marked_part : (m : ℕ) (t : List ℕ) (from to : ℕ) → Marked m t (lines_from 1 t 0) [] from to → trimmed t from to ≡ module_part m t
unfolding trimmed module_part
marked_part m t from to r =
    sym (before-passed m t r.to_line to r.behind r.from_line from r.lines (length t) 1 0 (lines_from 1 t 0) (omega arith) refl
    r.before)
