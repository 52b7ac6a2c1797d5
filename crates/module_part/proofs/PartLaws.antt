-- Laws of the part of a text in which a module's lines stand: where the last field of a line ends, and that the part lies in the text.
-- Assumes nothing.
use Prim.Native.Nat.{ℕ, zero, suc, ◌+◌, ◌-◌, ◌≤◌, ◌<◌}
use native.Mathlib.Omega.{arith}
use mathlib.Core.Path.{◌≡◌, refl}
use mathlib.Core.Bool.{Bool, true, false, cond, ◌&&◌, false≢true}
use mathlib.Core.List.{List, [], ◌∷◌}
use borrow.Author.Tests.{ne_eqb, le-ltb, ltb-true}
use lib.ListN.{length, drop, length-drop}
use lib.Seq.{length-take-le}
use lib.Dec.{ltb, eqb}
use Rattle.fields.specs.Fields.{gap, gaps, begins, on_field, fields_of, part}
use Rattle.fields.specs.Lines.{line_at}
use Rattle.fields.specs.Readers.{after, bytes_due}
use Rattle.fields.proofs.LineLaws.{line-is}
use Rattle.text_lines.specs.Kinds.{module_due}
use Rattle.module_part.specs.ModulePart.{last_end, begun, is_of, no_part, widened, with_line, part_from, module_part}
use Rattle.module_part.specs.declared.Part.{Part}

-- the last field of a line ends in the line, behind the first field's beginning
pub last-inside : (l : List ℕ) → last_end l ≤ length l
unfolding last_end
last-inside [] = omega arith
last-inside (b ∷ l) = go (last-inside l) (gap b && eqb (last_end l) 0)
  where
    go : last_end l ≤ length l → (t : Bool) → cond t 0 (suc (last_end l)) ≤ suc (length l)
    go h true = omega arith
    go h false = omega arith

pub last-behind : (l : List ℕ) → (fields_of l ≡ [] → ⊥) → gaps l < last_end l
unfolding last_end gaps fields_of
last-behind [] h = absurd (h refl)
last-behind (b ∷ l) h = go (λ k. last-behind l k) (gap b) h
  where
    go : ((fields_of l ≡ [] → ⊥) → gaps l < last_end l) → (t : Bool) → (cond t (fields_of l) (on_field b (begins l) (fields_of l)) ≡ [] → ⊥) → cond t (suc (gaps l)) 0 < cond (t && eqb (last_end l) 0) 0 (suc (last_end l))
    go f true k = let i = f k in rw (ne_eqb (last_end l) 0 (λ e. omega (arith, e, i))) (omega arith)
    go f false k = omega arith

-- a line of a module has fields
of_some : (m : ℕ) (fs : List (List ℕ)) → begun (module_due m fs) ≡ true → fs ≡ [] → ⊥
unfolding begun after bytes_due
of_some m fs h e = false≢true (rw e at h)

-- what is known of a part of the lines before a place
pub record Before (at : ℕ) (s : Part) : Type 0 where
  pub order : s.from ≤ s.to
  pub end : s.to ≤ at

line_before : (m : ℕ) (s : Part) (at to : ℕ) (l : List ℕ) → Before at s → at + length l ≤ to → Before to (with_line m s at l)
unfolding with_line
line_before m s at to l b h = go (is_of m l) refl
  where
    from : (t : Bool) → gaps l < last_end l → cond t (at + gaps l) s.from ≤ at + last_end l
    from true k = omega arith
    from false k = omega (arith, b.order, b.end)

    go : (t : Bool) → is_of m l ≡ t → Before to (cond t (widened s (at + gaps l) (at + last_end l)) s)
    go true e = record { order = from (eqb s.to 0) (last-behind l (of_some m (fields_of l) e)); end = omega (arith, last-inside l) }
    go false e = record { order = b.order; end = omega (arith, b.end) }

from-before : (n m : ℕ) (t : List ℕ) (at : ℕ) (s : Part) → at ≤ length t → Before at s → Before (length t) (part_from n m t at s)
unfolding part_from
from-before zero m t at s h b = record { order = b.order; end = omega (arith, b.end) }
from-before (suc n) m t at s h b = go (λ k c. from-before n m t (line_at t at).next (with_line m s at (part t at (line_at t at).to)) k c) (ltb at (length t)) refl
  where
    go : ((line_at t at).next ≤ length t → Before (line_at t at).next (with_line m s at (part t at (line_at t at).to)) → Before (length t) (part_from n m t (line_at t at).next (with_line m s at (part t at (line_at t at).to))))
        → (u : Bool) → ltb at (length t) ≡ u → Before (length t) (cond u (part_from n m t (line_at t at).next (with_line m s at (part t at (line_at t at).to))) s)
    go f false e = record { order = b.order; end = omega (arith, b.end) }
    go f true e =
        let i = line-is t at (line_at t at) (ltb-true at (length t) e) refl in
        let k : length (part t at (line_at t at).to) ≡ (line_at t at).to - at = length-take-le _ (drop at t) (omega (arith, length-drop at t, i.begin, i.end, i.inside)) in
        f i.inside (line_before m s at (line_at t at).next (part t at (line_at t at).to) b (omega (arith, k, i.begin, i.end)))

-- the part lies in the text
pub part-inside : (m : ℕ) (t : List ℕ) → Before (length t) (module_part m t)
unfolding module_part
part-inside m t = from-before (length t) m t 0 no_part (omega arith) (record { order = omega arith; end = omega arith })

-- behind the text's end no line comes
pub from_end : (m : ℕ) (t : List ℕ) (at : ℕ) (s : Part) → length t ≤ at → (k : ℕ) → part_from k m t at s ≡ s
unfolding part_from
from_end m t at s h zero = refl
from_end m t at s h (suc k) = rw (le-ltb at (length t) h)
