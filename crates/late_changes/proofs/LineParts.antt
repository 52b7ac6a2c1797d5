-- The fields of a part of a text that begins with a line: the line's, and those of the lines behind it; and the line's alone where the part
-- is from its first field to its last. Assumes nothing.
use Prim.Native.Nat.{ℕ, suc, ◌+◌, ◌-◌, ◌≤◌, ◌<◌}
use native.Mathlib.Omega.{arith}
use mathlib.Core.Path.{◌≡◌, refl, sym, ap, ap₂, ◌∙◌}
use mathlib.Core.Bool.{Bool, true, false, cond, ◌&&◌}
use mathlib.Core.List.{List, [], ◌∷◌, ◌++◌}
use mathlib.Core.Logic.{◌⊎◌, inl, inr}
use borrow.Author.Tests.{ltb-true, ltb-false}
use lib.Dec.{ltb, eqb}
use lib.ListN.{length, get_or, take, drop, length-drop}
use lib.Seq.{take_all, take-take, drop-drop, split_at, take-append-add, length-take-le}
use Rattle.fields.specs.Bytes.{lf, cr}
use Rattle.fields.specs.Fields.{gaps, fields_of, part}
use Rattle.fields.specs.Lines.{until_lf, line_to, line_ending, line_at}
use Rattle.fields.specs.declared.line.OneLine.{OneLine}
use Rattle.fields.proofs.LineLaws.{LineIs, line-is}
use Rattle.module_part.specs.ModulePart.{last_end}
use Rattle.module_part.proofs.PartLaws.{last-inside}
use Rattle.late_changes.proofs.TextFields.{append_left, drop-take, kept, fields_all, text_fields, fields-lf, lf-at, one_line}
use Rattle.late_changes.proofs.TextFields.{gaps_off, gaps-front, gaps-within, last-same}

-- where the line at a place ends: before its LF, behind which the next one begins, or at the text's end

record LineEnds (t : List ℕ) (at to next : ℕ) : Type 0 where
  clear : to ≤ at + until_lf (drop at t)
  ends : (next ≡ length t) ⊎ ((next ≡ at + suc (until_lf (drop at t))) × (at + until_lf (drop at t) < length t))

line-ends : (t : List ℕ) (at : ℕ) (o : OneLine) → o ≡ line_at t at → o.next ≤ length t → LineEnds t at o.to o.next
unfolding line_at line_ending
line-ends t at o e h = go (until_lf (drop at t)) refl (ltb (at + until_lf (drop at t)) (length t)) refl e
  where
    before : (n : ℕ) (u : Bool) → cond u (at + n - 1) (at + n) ≤ at + n
    before n true = omega arith
    before n false = omega arith

    go : (n : ℕ) → until_lf (drop at t) ≡ n → (u : Bool) → ltb (at + n) (length t) ≡ u
        → o ≡ cond u (record { to = line_to t at (at + n); next = at + n + 1 }) (record { to = at + n; next = at + n })
        → LineEnds t at o.to o.next
    go n i true l e =
        let k : o.to ≤ at + n = rw e (before n (ltb at (at + n) && eqb (get_or t (at + n - 1) 0) cr)) in
        let j : o.next ≡ at + n + 1 = ap (λ (x : OneLine). x.next) e in
        record { clear = omega (arith, i, k); ends = inr (omega (arith, i, j), omega (arith, i, ltb-true (at + n) (length t) l)) }
    go n i false l e =
        let k : o.to ≡ at + n = ap (λ (x : OneLine). x.to) e in
        let j : o.next ≡ at + n = ap (λ (x : OneLine). x.next) e in
        record { clear = omega (arith, i, k); ends = inl (omega (arith, h, j, ltb-false (at + n) (length t) l)) }

module _ (t : List ℕ) (at : ℕ) (inside : at < length t) where
  abbrev line : List ℕ
  line = part t at (line_at t at).to

  is : LineIs t at (line_at t at).to (line_at t at).next
  is = line-is t at (line_at t at) inside refl

  -- the lines from a place on are the one there and those behind it
  pub rest-fields : text_fields (drop at t) ≡ kept (fields_of line) ++ text_fields (drop (line_at t at).next t)
  rest-fields = ap fields_all is.is

  -- the bytes before an LF, and those behind it
  module _ (lf-inside : at + until_lf (drop at t) < length t) where
    abbrev n : ℕ
    n = until_lf (drop at t)

    abbrev u : List ℕ
    u = drop at t

    drop-lf : u ≡ take n u ++ lf ∷ drop (suc n) u
    drop-lf =
        let l : n < length u = omega (arith, lf-inside, length-drop at t) in split_at u n 0 l
        ∙ ap (λ b. take n u ++ b ∷ drop (suc n) u) (lf-at u l)

    part-lf : (e : ℕ) → at + suc n ≤ e → part t at e ≡ take n u ++ lf ∷ part t (at + suc n) e
    part-lf e k =
        let z : length (take n u) ≡ n = length-take-le n u (omega (arith, lf-inside, length-drop at t)) in
        let j : e - at ≡ length (take n u) + suc (e - (at + suc n)) = omega (arith, k, z) in
        ap₂ take j drop-lf
        ∙ take-append-add (take n u) (lf ∷ drop (suc n) u) (suc (e - (at + suc n)))
        ∙ ap (λ v. take n u ++ lf ∷ take (e - (at + suc n)) v) (drop-drop (suc n) at t)

    part-behind : (e : ℕ) → at + suc n ≤ e → (line_at t at).next ≡ at + suc n
        → text_fields (part t at e) ≡ kept (fields_of line) ++ text_fields (part t (line_at t at).next e)
    part-behind e k i =
        let y = drop (suc n) u in
        let d : y ≡ drop (line_at t at).next t = drop-drop (suc n) at t ∙ ap (λ j. drop j t) (sym i) in
        let w : text_fields (take n u ++ lf ∷ []) ++ text_fields y ≡ kept (fields_of line) ++ text_fields y =
        sym (fields-lf (take n u) y) ∙ ap text_fields (sym drop-lf) ∙ rest-fields ∙ ap (λ v. kept (fields_of line) ++ text_fields v) (sym d) in
        let a : text_fields (take n u ++ lf ∷ []) ≡ kept (fields_of line) =
        append_left (text_fields (take n u ++ lf ∷ [])) (kept (fields_of line)) (text_fields y) w in
        ap text_fields (part-lf e k) ∙ fields-lf (take n u) (part t (at + suc n) e) ∙ ap₂ (λ p j. p ++ text_fields (part t j e)) a (sym i)

  -- the same of a part of the text that goes on to e
  pub part-fields : (e : ℕ) → (line_at t at).next ≤ e → e ≤ length t
      → text_fields (part t at e) ≡ kept (fields_of line) ++ text_fields (part t (line_at t at).next e)
  part-fields e h k = go (line-ends t at (line_at t at) refl is.inside).ends
    where
      go : ((line_at t at).next ≡ length t) ⊎ (((line_at t at).next ≡ at + suc (until_lf (drop at t))) × (at + until_lf (drop at t) < length t))
          → text_fields (part t at e) ≡ kept (fields_of line) ++ text_fields (part t (line_at t at).next e)
      go (inl i) =
          let a : part t at e ≡ drop at t = take_all (e - at) (drop at t) (omega (arith, length-drop at t, h, i)) in
          let b : part t (line_at t at).next e ≡ drop (line_at t at).next t =
          take_all (e - (line_at t at).next) (drop (line_at t at).next t) (omega (arith, length-drop (line_at t at).next t, h, i)) in
          ap text_fields a ∙ rest-fields ∙ ap (λ v. kept (fields_of line) ++ text_fields v) (sym b)
      go (inr (i, j)) = part-behind j e (omega (arith, h, i)) i

  line-length : length line ≡ (line_at t at).to - at
  line-length = length-take-le ((line_at t at).to - at) (drop at t) (omega (arith, length-drop at t, is.begin, is.end, is.inside))

  -- of the line up to its last field
  pub line-fields : text_fields (part t at (at + last_end line)) ≡ kept (fields_of line)
  line-fields =
      let k = last_end line in
      let j : at + k - at ≡ k = omega arith in
      let l : k ≤ (line_at t at).to - at = omega (arith, last-inside line, line-length) in
      let c = (line-ends t at (line_at t at) refl is.inside).clear in
      let a : take k (drop at t) ≡ take k line = sym (take-take k ((line_at t at).to - at) (drop at t) l) in
      ap (λ i. text_fields (take i (drop at t))) j
      ∙ one_line k (drop at t) (omega (arith, l, c))
      ∙ ap (λ v. kept (fields_of v)) a
      ∙ ap kept (last-same line).0

  -- and without the gaps at its front
  pub begin-fields : (e : ℕ) → at + gaps line ≤ e → text_fields (part t (at + gaps line) e) ≡ text_fields (part t at e)
  begin-fields e h =
      let g = gaps line in
      let j : e - at ≡ g + (e - (at + g)) = omega arith in
      let a : drop g (part t at e) ≡ part t (at + g) e =
      ap (λ i. drop g (take i (drop at t))) j ∙ drop-take g (e - (at + g)) (drop at t) ∙ ap (take (e - (at + g))) (drop-drop g at t) in
      ap text_fields (sym a)
      ∙ gaps_off g (part t at e) (gaps-within g (e - at) (drop at t) (gaps-front ((line_at t at).to - at) (drop at t)) (omega (arith, h)))
