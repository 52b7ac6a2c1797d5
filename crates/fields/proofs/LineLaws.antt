-- Laws of the lines of a text: `line_at` names the first line from a place on and where the next begins, a blank line drops out of the numbered
-- lines, what an answer of `next_line` says of them, and that there is only one such answer.
use Prim.Native.Nat.{ℕ, zero, suc, ◌+◌, ◌-◌, ◌≤◌, ◌<◌}
use mathlib.Core.Path.{◌≡◌, refl, sym, ap, ◌∙◌}
use mathlib.Core.Bool.{Bool, true, false, cond, ◌&&◌, and-false}
use mathlib.Core.List.{List, [], ◌∷◌}
use native.Mathlib.Numerals.{add-one}
use native.Mathlib.Omega.{arith}
use borrow.Author.Tests.{ltb-true, ltb-false, lt-ltb, le-ltb}
use lib.ListN.{length, get_or, take, drop, length-drop, drop_of_length-le}
use lib.Dec.{eqb, ltb}
use lib.Seq.{drop-drop, get_or-drop, take_all}
use Rattle.units.proofs.TestLaws.{clash}
use Rattle.fields.specs.Bytes.{lf, cr, lf_next}
use Rattle.fields.specs.Fields.{fields_of, part, blank}
use Rattle.fields.specs.Lines.{on_line, lines_of, Line, with_line, numbered, lines_from, until_lf, line_to, line_ending, line_at, Placed, meant_lines, line_start, NextLineIs}
use Rattle.fields.specs.declared.line.OneLine.{OneLine}
use Rattle.fields.specs.declared.line.NextLine.{NextLine}
use Rattle.std.specs.Prelude.{Option, None, Some}
use Rattle.fields.proofs.CountLaws.{lf-counts, count_le}

-- the first line of l ends at its first LF, without a CR before that
FirstLine : List ℕ → Type 0
FirstLine l = lines_of l ≡ take (line_to l 0 (until_lf l)) l ∷ lines_of (drop (suc (until_lf l)) l)

line-to_on : (b : ℕ) (l : List ℕ) (k : ℕ) → line_to (b ∷ l) 0 (suc (suc k)) ≡ suc (line_to l 0 (suc k))
line-to_on b l k =
    let p : suc (suc k) - 1 ≡ suc k = omega arith in
    let q : suc k - 1 ≡ k = omega arith in
    let x : 0 < suc (suc k) = omega arith in
    let y : 0 < suc k = omega arith in
    rw (p, q, lt-ltb 0 (suc (suc k)) x, lt-ltb 0 (suc k) y) (go (eqb (get_or l k 0) cr))
  where
    go : (t : Bool) → cond t (suc k) (suc (suc k)) ≡ suc (cond t k (suc k))
    go true = refl
    go false = refl

lines-lf : (b : ℕ) (l : List ℕ) → eqb b lf ≡ true → FirstLine (b ∷ l)
unfolding FirstLine lines_of until_lf
lines-lf b l e = simp e

lines_crlf : (b x : ℕ) (l : List ℕ) → eqb b lf ≡ false → eqb b cr ≡ true → eqb x lf ≡ true → FirstLine (b ∷ x ∷ l)
unfolding FirstLine lines_of until_lf lf_next
lines_crlf b x l e f g = simp (e, f, g)

-- no CR goes before an LF
lines_on_lf : (b x : ℕ) (l : List ℕ) → eqb b lf ≡ false → eqb b cr ≡ false → eqb x lf ≡ true → FirstLine (b ∷ x ∷ l)
unfolding FirstLine lines_of on_line until_lf lf_next
lines_on_lf b x l e f g = simp (e, f, g)

until_on : (b : ℕ) (l : List ℕ) → eqb b lf ≡ false → until_lf (b ∷ l) ≡ suc (until_lf l)
unfolding until_lf
until_on b l e = simp e

lines_head : (b x : ℕ) (l : List ℕ) → eqb b lf ≡ false → eqb x lf ≡ false → lines_of (b ∷ x ∷ l) ≡ on_line b (lines_of (x ∷ l))
unfolding lines_of lf_next
lines_head b x l e g = simp (e, g, and-false)

lines_on : (b x : ℕ) (l : List ℕ) → eqb b lf ≡ false → eqb x lf ≡ false → FirstLine (x ∷ l) → FirstLine (b ∷ x ∷ l)
unfolding FirstLine on_line
lines_on b x l e g ih =
    let m : on_line b (take (line_to (x ∷ l) 0 (until_lf (x ∷ l))) (x ∷ l) ∷ lines_of (drop (suc (until_lf (x ∷ l))) (x ∷ l)))
    ≡ take (line_to (b ∷ x ∷ l) 0 (until_lf (b ∷ x ∷ l))) (b ∷ x ∷ l) ∷ lines_of (drop (suc (until_lf (b ∷ x ∷ l))) (b ∷ x ∷ l)) =
    rw (until_on b (x ∷ l) e, until_on x l g, line-to_on b (x ∷ l) (until_lf l)) in
    lines_head b x l e g ∙ ap (on_line b) ih ∙ m

-- a text with an LF
lines-first : (l : List ℕ) → until_lf l < length l → FirstLine l
unfolding until_lf
lines-first [] h = absurd (omega arith)
lines-first (b ∷ []) h = go (eqb b lf) refl h
  where
    go : (t : Bool) → eqb b lf ≡ t → cond t 0 1 < 1 → FirstLine (b ∷ [])
    go true e h = lines-lf b [] e
    go false e h = absurd (omega arith)
lines-first (b ∷ x ∷ l) h = go (lines-first (x ∷ l)) (eqb b lf) refl (eqb b cr) refl (eqb x lf) refl h
  where
    go : (until_lf (x ∷ l) < suc (length l) → FirstLine (x ∷ l)) → (t : Bool) → eqb b lf ≡ t → (u : Bool) → eqb b cr ≡ u → (v : Bool) → eqb x lf ≡ v
        → cond t 0 (suc (until_lf (x ∷ l))) < suc (suc (length l)) → FirstLine (b ∷ x ∷ l)
    go ih true e u f v g h = lines-lf b (x ∷ l) e
    go ih false e true f true g h = lines_crlf b x l e f g
    go ih false e false f true g h = lines_on_lf b x l e f g
    go ih false e u f false g h = lines_on b x l e g (ih (omega arith))

-- a text with none
lines-last : (b : ℕ) (l : List ℕ) → until_lf (b ∷ l) ≡ suc (length l) → lines_of (b ∷ l) ≡ (b ∷ l) ∷ []
unfolding until_lf lines_of on_line lf_next
lines-last b [] h = go (eqb b lf) refl h
  where
    go : (t : Bool) → eqb b lf ≡ t → ◌≡◌ {A = ℕ} (cond t 0 1) 1 → lines_of (b ∷ []) ≡ (b ∷ []) ∷ []
    go true e h = absurd (omega arith)
    go false e h = simp (e, and-false)
lines-last b (x ∷ l) h = go (lines-last x l) (eqb b lf) refl (eqb x lf) refl h
  where
    go : (until_lf (x ∷ l) ≡ suc (length l) → lines_of (x ∷ l) ≡ (x ∷ l) ∷ []) → (t : Bool) → eqb b lf ≡ t → (u : Bool) → eqb x lf ≡ u
        → cond t 0 (suc (cond u 0 (suc (until_lf l)))) ≡ suc (suc (length l)) → lines_of (b ∷ x ∷ l) ≡ (b ∷ x ∷ l) ∷ []
    go ih true e u g h = absurd (omega arith)
    go ih false e true g h = absurd (omega arith)
    go ih false e false g h =
        let k : until_lf (x ∷ l) ≡ suc (length l) = until_on x l g ∙ omega arith in
        lines_head b x l e g ∙ ap (on_line b) (ih k)

lines_only : (l : List ℕ) → 0 < length l → until_lf l ≡ length l → lines_of l ≡ l ∷ []
lines_only [] h e = absurd (omega arith)
lines_only (b ∷ l) h e = lines-last b l e

line-to_le : (l : List ℕ) (n : ℕ) → line_to l 0 n ≤ n
line-to_le l n = go (ltb 0 n && eqb (get_or l (n - 1) 0) cr)
  where
    go : (t : Bool) → cond t (n - 1) n ≤ n
    go true = omega arith
    go false = omega arith

-- the end of a line, from its begin on
line-to-drop : (t : List ℕ) (from n : ℕ) → line_to t from (from + n) ≡ from + line_to (drop from t) 0 n
line-to-drop t from zero =
    let e : from + 0 ≤ from = omega arith in
    simp (le-ltb from (from + 0) e)
line-to-drop t from (suc n) =
    let x : from < from + suc n = omega arith in
    let y : 0 < suc n = omega arith in
    let p : from + suc n - 1 ≡ from + n = omega arith in
    let q : suc n - 1 ≡ n = omega arith in
    rw (lt-ltb from (from + suc n) x, lt-ltb 0 (suc n) y, p, q, get_or-drop) (go (eqb (get_or t (from + n) 0) cr))
  where
    go : (u : Bool) → cond u (from + n) (from + suc n) ≡ from + cond u n (suc n)
    go true = refl
    go false = refl

-- the line from a place on ends at `to`, and the lines behind it begin at `next`
pub record LineIs (t : List ℕ) (from to next : ℕ) : Type 0 where
  pub begin : from ≤ to
  pub end : to ≤ next
  pub more : from < next
  pub inside : next ≤ length t
  pub is : lines_of (drop from t) ≡ part t from to ∷ lines_of (drop next t)

module _ (t : List ℕ) (from n : ℕ) (u : until_lf (drop from t) ≡ n) where
  line-ended : from + n < length t → LineIs t from (line_to t from (from + n)) (from + n + 1)
  unfolding FirstLine
  line-ended h =
      let l : ℕ = line_to (drop from t) 0 n in
      let a : l ≤ n = line-to_le (drop from t) n in
      let p : from + l - from ≡ l = omega arith in
      let q : from + n + 1 ≡ from + suc n = omega arith in
      let k : until_lf (drop from t) < length (drop from t) = simp length-drop (omega arith) in
      let f : lines_of (drop from t) ≡ take l (drop from t) ∷ lines_of (drop (suc n) (drop from t)) = rw u at (lines-first (drop from t) k) in
      rw (line-to-drop t from n) (record {
        begin = omega arith;
        end = omega arith;
        more = omega arith;
        inside = omega arith;
        is = f ∙ rw (p, q, drop-drop);
      })

  line-last : from < length t → length t ≤ from + n → LineIs t from (from + n) (from + n)
  unfolding lines_of
  line-last h k =
      let a : n ≤ length (drop from t) = rw u at (count_le until_lf _ lf-counts (drop from t)) in
      let b : length (drop from t) ≡ length t - from = length-drop from t in
      let p : from + n - from ≡ n = omega arith in
      let f : lines_of (drop from t) ≡ drop from t ∷ [] = lines_only (drop from t) (omega arith) (u ∙ omega arith) in
      record {
        begin = omega arith;
        end = omega arith;
        more = omega arith;
        inside = omega arith;
        is = f ∙ rw (p, take_all n (drop from t) (omega arith), drop_of_length-le t k);
      }

-- what `line_at` names
pub line-is : (t : List ℕ) (from : ℕ) (o : OneLine) → from < length t → o ≡ line_at t from → LineIs t from o.to o.next
unfolding line_at line_ending
line-is t from o h e = go (until_lf (drop from t)) refl (ltb (from + until_lf (drop from t)) (length t)) refl e
  where
    go : (n : ℕ) → until_lf (drop from t) ≡ n → (b : Bool) → ltb (from + n) (length t) ≡ b
        → o ≡ cond b (record { to = line_to t from (from + n); next = from + n + 1 }) (record { to = from + n; next = from + n }) → LineIs t from o.to o.next
    go n u true l e = rw e (line-ended t from n u (ltb-true (from + n) (length t) l))
    go n u false l e = rw e (line-last t from n u h (ltb-false (from + n) (length t) l))

with_blank : (n : ℕ) (fs : List (List ℕ)) (ls : List Line) → blank fs ≡ true → with_line n fs ls ≡ ls
unfolding blank with_line
with_blank n [] ls e = refl
with_blank n (f ∷ fs) ls e = clash cc

with_some : (n : ℕ) (fs : List (List ℕ)) (ls : List Line) → blank fs ≡ false → with_line n fs ls ≡ record { number = n; fields = fs } ∷ ls
unfolding blank with_line
with_some n [] ls e = clash cc
with_some n (f ∷ fs) ls e = refl

module _ (t : List ℕ) (from to next : ℕ) (k : LineIs t from to next) where
  -- a line that is blank is counted, and no more
  pub lines-blank : blank (fields_of (part t from to)) ≡ true → (n : ℕ) → lines_from n t from ≡ lines_from (n + 1) t next
  unfolding numbered
  lines-blank e n = ap (numbered n) k.is ∙ with_blank n (fields_of (part t from to)) _ e ∙ rw add-one

  -- one that is not is the first of them
  pub lines-some : blank (fields_of (part t from to)) ≡ false → (n : ℕ) → lines_from n t from ≡ record { number = n; fields = fields_of (part t from to) } ∷ lines_from (n + 1) t next
  unfolding numbered
  lines-some e n = ap (numbered n) k.is ∙ with_some n (fields_of (part t from to)) _ e ∙ rw add-one

-- behind the end there is none
pub lines_none : (n : ℕ) (t : List ℕ) (at : ℕ) → length t ≤ at → lines_from n t at ≡ []
unfolding lines_of numbered
lines_none n t at h = rw (drop_of_length-le t h)

-- no line that is numbered is blank
numbered-some : (n : ℕ) (ls : List (List ℕ)) (x : Line) (xs : List Line) → numbered n ls ≡ x ∷ xs → blank x.fields ≡ false
unfolding numbered with_line blank
numbered-some n [] x xs e = clash cc
numbered-some n (l ∷ ls) x xs e = go (numbered-some (suc n) ls x xs) (fields_of l) e
  where
    go : (numbered (suc n) ls ≡ x ∷ xs → blank x.fields ≡ false) → (fs : List (List ℕ)) → with_line n fs (numbered (suc n) ls) ≡ x ∷ xs → blank x.fields ≡ false
    go ih [] e = ih e
    go ih (f ∷ fs) e = let k : record { number = n; fields = f ∷ fs } ≡ x = cc in rw (← k) refl

-- what an answer of `next_line` tells
module _ (t : List ℕ) (from : ℕ) (r : Option NextLine) (is : NextLineIs t from r) where
  pub found-placed : (l : NextLine) → r ≡ Some l → Placed t from l.from l.to l.next l.passed
  found-placed l h = (rw h at is).placed

  pub found-lines : (l : NextLine) → r ≡ Some l → (n : ℕ) → lines_from n t from ≡ record { number = n + l.passed; fields = fields_of (part t l.from l.to) } ∷ lines_from (n + l.passed + 1) t l.next
  found-lines l h n = sym ((rw h at is).meant n)

  pub found_some : (l : NextLine) → r ≡ Some l → blank (fields_of (part t l.from l.to)) ≡ false
  found_some l h = numbered-some 0 (lines_of (drop from t)) _ _ (found-lines l h 0)

  pub end-lines : r ≡ None → (n : ℕ) → lines_from n t from ≡ []
  end-lines h n = sym ((rw h at is).meant n)

-- the line behind the one that is k lines behind a place
pub start-more : (t : List ℕ) (from k a : ℕ) (o : OneLine) → a ≡ line_start t from k → o ≡ line_at t a → o.next ≡ line_start t from (k + 1)
unfolding line_start
start-more t from k a o p q = ap (λ l. l.next) q ∙ rw (p, add-one) (go from k)
  where
    go : (from k : ℕ) → (line_at t (line_start t from k)).next ≡ line_start t from (suc k)
    go from zero = refl
    go from (suc k) = go (line_at t from).next k

first-number : (x y : Line) (xs ys : List Line) → x ∷ xs ≡ y ∷ ys → x.number ≡ y.number
first-number x y xs ys h = let e : x ≡ y = cc in ap (λ (l : Line). l.number) e

-- two answers that meet the promise of `next_line` are equal: they pass as many lines, so they begin at the same place, and end there
pub next-line_unique : (t : List ℕ) (from : ℕ) (r q : Option NextLine) → NextLineIs t from r → NextLineIs t from q → r ≡ q
next-line_unique t from (Some l) (Some m) x y =
    let h : 0 + l.passed ≡ 0 + m.passed = first-number _ _ _ _ (x.meant 0 ∙ sym (y.meant 0)) in
    let u : l.passed ≡ m.passed = omega arith in
    let s : l.from ≡ m.from = x.exact.starts ∙ ap (line_start t from) u ∙ sym y.exact.starts in
    let o : ◌≡◌ {A = OneLine} (record { to = l.to; next = l.next }) (record { to = m.to; next = m.next }) = x.exact.ends ∙ ap (line_at t) s ∙ sym y.exact.ends in
    let v : l.to ≡ m.to = ap (λ l. l.to) o in
    let w : l.next ≡ m.next = ap (λ l. l.next) o in
    let k : ◌≡◌ {A = NextLine} (record { from = l.from; to = l.to; next = l.next; passed = l.passed }) (record { from = m.from; to = m.to; next = m.next; passed = m.passed }) = cc in
    ap Some k
next-line_unique t from (Some l) None x y =
    let h : meant_lines t 0 (Some l) ≡ [] = x.meant 0 ∙ sym (y.meant 0) in
    let z : ◌≡◌ {A = ℕ} 0 1 = cc in
    absurd (omega arith)
next-line_unique t from None (Some m) x y =
    let h : meant_lines t 0 (Some m) ≡ [] = y.meant 0 ∙ sym (x.meant 0) in
    let z : ◌≡◌ {A = ℕ} 0 1 = cc in
    absurd (omega arith)
next-line_unique t from None None x y = refl
