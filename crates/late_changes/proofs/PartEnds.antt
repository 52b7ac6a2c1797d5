-- The part in which a module's lines stand begins and ends with a byte of a field: neither a space nor a tab, nor a line's end. Assumes nothing.
use Prim.Native.Nat.{ℕ, zero, suc, ◌+◌, ◌-◌, ◌≤◌, ◌<◌}
use native.Mathlib.Omega.{arith}
use mathlib.Core.Path.{◌≡◌, refl, sym, ap, ◌∙◌}
use mathlib.Core.Bool.{Bool, true, false, cond, ◌&&◌, false≢true}
use mathlib.Core.List.{List, [], ◌∷◌}
use mathlib.Core.Logic.{◌⊎◌, inl, inr}
use borrow.Author.Tests.{eqb-false, eq-eqb, ltb-true}
use lib.ListN.{length, get_or, drop, length-drop}
use lib.Seq.{get_or-take, get_or-drop, length-take-le}
use lib.Dec.{ltb, eqb}
use Rattle.fields.specs.Fields.{gap, gaps, begins, on_field, fields_of, part}
use Rattle.fields.specs.Lines.{line_at}
use Rattle.fields.specs.Readers.{after, bytes_due}
use Rattle.fields.proofs.LineLaws.{line-is}
use Rattle.text_lines.specs.Kinds.{module_due}
use Rattle.module_part.specs.ModulePart.{last_end, begun, is_of, no_part, widened, with_line, part_from, module_part}
use Rattle.module_part.specs.declared.Part.{Part}
use Rattle.module_part.proofs.PartLaws.{last-inside, last-behind}
use Rattle.late_changes.specs.Together.{Ends}

-- the first field of a line begins behind its gaps
first_byte : (l : List ℕ) → (fields_of l ≡ [] → ⊥) → gap (get_or l (gaps l) 0) ≡ false
unfolding gaps fields_of
first_byte [] h = absurd (h refl)
first_byte (b ∷ l) h = go (λ k. first_byte l k) (gap b) refl h
  where
    go : ((fields_of l ≡ [] → ⊥) → gap (get_or l (gaps l) 0) ≡ false) → (t : Bool) → gap b ≡ t → (cond t (fields_of l) (on_field b (begins l) (fields_of l)) ≡ [] → ⊥)
        → gap (get_or (b ∷ l) (cond t (suc (gaps l)) 0) 0) ≡ false
    go f true e k = f k
    go f false e k = e

-- the last one ends before its end
last_field_lem : (l : List ℕ) (k : ℕ) → last_end l ≡ suc k → gap (get_or l k 0) ≡ false
unfolding last_end
last_field_lem [] k h = absurd (omega (arith, h))
last_field_lem (b ∷ l) k h = go (λ j e. last_field_lem l j e) (gap b && eqb (last_end l) 0) refl k h
  where
    byte : (t : Bool) → gap b ≡ t → last_end l ≡ 0 → (gap b && eqb (last_end l) 0) ≡ false → gap b ≡ false
    byte false e z h = e
    byte true e z h = e ∙ sym (ap (λ u. u && eqb (last_end l) 0) e ∙ eq-eqb (last_end l) 0 z) ∙ h

    go : ((j : ℕ) → last_end l ≡ suc j → gap (get_or l j 0) ≡ false) → (t : Bool) → (gap b && eqb (last_end l) 0) ≡ t → (k : ℕ) → cond t 0 (suc (last_end l)) ≡ suc k → gap (get_or (b ∷ l) k 0) ≡ false
    go f true e k h = absurd (omega (arith, h))
    go f false e zero h = byte (gap b) refl (omega (arith, h)) e
    go f false e (suc j) h = f j (omega (arith, h))

-- a line of a module has fields
some_field : (m : ℕ) (fs : List (List ℕ)) → begun (module_due m fs) ≡ true → fs ≡ [] → ⊥
unfolding begun after bytes_due
some_field m fs h e = false≢true (rw e at h)

abbrev EndsOrNone : List ℕ → Part → Type 0
EndsOrNone t s = (s.to ≡ 0) ⊎ Ends t s

module _ (t : List ℕ) (at to : ℕ) (begin : at ≤ to) (end : to ≤ length t) where
  abbrev line : List ℕ
  line = part t at to

  line-length : length line ≡ to - at
  line-length = length-take-le (to - at) (drop at t) (omega (arith, length-drop at t))

  byte_at : (i : ℕ) → i < to - at → get_or line i 0 ≡ get_or t (at + i) 0
  byte_at i h = get_or-take (to - at) (drop at t) i 0 h ∙ get_or-drop at t i 0

  line-ends : (m : ℕ) (s : Part) → EndsOrNone t s → s.to ≤ at → EndsOrNone t (with_line m s at line)
  unfolding with_line
  line-ends m s e b = go (is_of m line) refl
    where
      from : (u : Bool) → eqb s.to 0 ≡ u → gaps line < last_end line → gap (get_or line (gaps line) 0) ≡ false → (k : ℕ) → last_end line ≡ suc k
          → (cond u (at + gaps line) s.from < at + last_end line) × (gap (get_or t (cond u (at + gaps line) s.from) 0) ≡ false)
      from true z h f k j = (omega arith, ap gap (sym (byte_at (gaps line) (omega (arith, line-length, last-inside line)))) ∙ f)
      from false z h f k j = old e
        where
          old : EndsOrNone t s → (s.from < at + last_end line) × (gap (get_or t s.from 0) ≡ false)
          old (inl w) = absurd (eqb-false s.to 0 z w)
          old (inr w) = (omega (arith, w.order, b), w.first)

      go : (u : Bool) → is_of m line ≡ u → EndsOrNone t (cond u (widened s (at + gaps line) (at + last_end line)) s)
      go false o = e
      go true o =
          let n = some_field m (fields_of line) o in
          let h = last-behind line n in
          let k = last_end line - 1 in
          let j : last_end line ≡ suc (last_end line - 1) = omega (arith, h) in
          let f = from (eqb s.to 0) refl h (first_byte line n) k j in
          let q : at + last_end line - 1 ≡ at + (last_end line - 1) = omega (arith, h) in
          inr (record {
            order = f.0;
            first = f.1;
            last = ap (λ i. gap (get_or t i 0)) q ∙ ap gap (sym (byte_at (last_end line - 1) (omega (arith, h, line-length, last-inside line)))) ∙ last_field_lem line (last_end line - 1) j;
          })

  line-to : (m : ℕ) (s : Part) → s.to ≤ at → (with_line m s at line).to ≤ to
  unfolding with_line
  line-to m s b = go (is_of m line)
    where
      go : (u : Bool) → (cond u (widened s (at + gaps line) (at + last_end line)) s).to ≤ to
      go true = omega (arith, last-inside line, line-length)
      go false = omega arith

from-ends : (n m : ℕ) (t : List ℕ) (at : ℕ) (s : Part) → EndsOrNone t s → s.to ≤ at → EndsOrNone t (part_from n m t at s)
unfolding part_from
from-ends zero m t at s e b = e
from-ends (suc n) m t at s e b = go (λ f c. from-ends n m t (line_at t at).next (with_line m s at (part t at (line_at t at).to)) f c) (ltb at (length t)) refl
  where
    next : Part
    next = with_line m s at (part t at (line_at t at).to)

    go : (EndsOrNone t next → next.to ≤ (line_at t at).next → EndsOrNone t (part_from n m t (line_at t at).next next)) → (u : Bool) → ltb at (length t) ≡ u
        → EndsOrNone t (cond u (part_from n m t (line_at t at).next next) s)
    go f false h = e
    go f true h =
        let i = line-is t at (line_at t at) (ltb-true at (length t) h) refl in
        let k : (line_at t at).to ≤ length t = omega (arith, i.end, i.inside) in
        let l = line-to t at (line_at t at).to i.begin k m s b in
        f (line-ends t at (line_at t at).to i.begin k m s e b) (omega (arith, l, i.end))

-- there is no line of the module, or the part is from a byte of a field to a byte of a field
pub part-ends : (m : ℕ) (t : List ℕ) → ((module_part m t).to ≡ 0) ⊎ Ends t (module_part m t)
unfolding module_part
part-ends m t = from-ends (length t) m t 0 no_part (inl refl) (omega arith)
