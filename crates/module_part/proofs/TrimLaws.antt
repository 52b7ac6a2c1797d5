-- Laws of the bytes of fields: how many there are behind a place is what the lines from there on have, so between two places with the same
-- lines behind them stands none; where the first and the last of a line are. Assumes nothing.
use Prim.Native.Nat.{ℕ, zero, suc, ◌+◌, ◌-◌, ◌≤◌, ◌<◌}
use native.Mathlib.Omega.{arith}
use native.Mathlib.Numerals.{add-one}
use mathlib.Core.Path.{◌≡◌, refl, sym, ap, ◌∙◌}
use mathlib.Core.Bool.{Bool, true, false, cond, not, ◌&&◌, ◌||◌, and-false, false≢true}
use mathlib.Core.List.{List, [], ◌∷◌}
use borrow.Author.Tests.{ne_eqb, le-ltb, ltb-true, ltb-false}
use lib.ListN.{length, get_or, drop, length-drop, drop_of_length-le}
use lib.Seq.{drop-drop, drop-cons}
use lib.Dec.{ltb, eqb}
use Rattle.units.proofs.TestLaws.{clash}
use Rattle.fields.specs.Bytes.{lf, cr, lf_next}
use Rattle.fields.specs.Fields.{gap, gaps, begins, on_field, fields_of}
use Rattle.fields.specs.Lines.{on_line, lines_of, Line, with_line, numbered, lines_from, until_lf, line_to, line_ending, line_at}
use Rattle.fields.specs.declared.line.OneLine.{OneLine}
use Rattle.module_part.specs.ModulePart.{last_end}
use Rattle.module_part.specs.Trimmed.{of_field, in_field, until_field, last_field}

-- how many bytes of fields there are
unfoldable ink : List ℕ → ℕ
ink [] = 0
ink (b ∷ bs) = cond (in_field (b ∷ bs)) (suc (ink bs)) (ink bs)

ink_first : (b : ℕ) (bs : List ℕ) → ink bs ≤ ink (b ∷ bs)
unfolding ink
ink_first b bs = go (in_field (b ∷ bs))
  where
    go : (u : Bool) → ink bs ≤ cond u (suc (ink bs)) (ink bs)
    go true = omega arith
    go false = omega arith

ink_drop : (k : ℕ) (u : List ℕ) → ink (drop k u) ≤ ink u
ink_drop zero u = omega arith
ink_drop (suc k) [] = omega arith
ink_drop (suc k) (b ∷ bs) = omega (arith, ink_drop k bs, ink_first b bs)

-- where as many are left, none was passed
none_passed : (k b : ℕ) (bs : List ℕ) → ink (drop k bs) ≡ ink (b ∷ bs) → (in_field (b ∷ bs) ≡ false) × (ink (drop k bs) ≡ ink bs)
unfolding ink
none_passed k b bs e = go (in_field (b ∷ bs)) e
  where
    go : (u : Bool) → ink (drop k bs) ≡ cond u (suc (ink bs)) (ink bs) → (u ≡ false) × (ink (drop k bs) ≡ ink bs)
    go true e = absurd (omega (arith, e, ink_drop k bs))
    go false e = (refl, e)

front_same : (k : ℕ) (u : List ℕ) → k ≤ length u → ink (drop k u) ≡ ink u → until_field u ≡ k + until_field (drop k u)
unfolding until_field
front_same zero u h e = omega arith
front_same (suc k) [] h e = absurd (omega (arith, h))
front_same (suc k) (b ∷ bs) h e =
    let p = none_passed k b bs e in
    let i = front_same k bs (omega (arith, h)) p.1 in
    rw p.0 (omega (arith, i))

last_none : (k : ℕ) (u : List ℕ) → ink (drop k u) ≡ ink u → last_field k u ≡ 0
unfolding last_field
last_none zero u e = refl
last_none (suc k) [] e = refl
last_none (suc k) (b ∷ bs) e =
    let p = none_passed k b bs e in
    rw (p.0, last_none k bs p.1)

last-nil : (k : ℕ) → last_field k [] ≡ 0
unfolding last_field
last-nil zero = refl
last-nil (suc k) = refl

-- the last byte of a field before a place stands behind another place, or before it
pub last-before : (at k : ℕ) (t : List ℕ) → last_field k (drop at t) ≡ 0 → last_field (at + k) t ≡ last_field at t
unfolding last_field
last-before zero k t e = let z : 0 + k ≡ k = omega arith in rw z e
last-before (suc at) k [] e = last-nil (suc at + k)
last-before (suc at) k (b ∷ t) e =
    let z : suc at + k ≡ suc (at + k) = omega arith in
    rw (z, last-before at k t e)

pub last_within : (at k x : ℕ) (t : List ℕ) → last_field k (drop at t) ≡ suc x → last_field (at + k) t ≡ at + suc x
unfolding last_field
last_within zero k x t e = let z : 0 + k ≡ k = omega arith in rw z (omega (arith, e))
last_within (suc at) k x [] e = absurd (omega (arith, e, last-nil k))
last_within (suc at) k x (b ∷ t) e =
    let z : suc at + k ≡ suc (at + k) = omega arith in
    let n : eqb (at + suc x) 0 ≡ false = ne_eqb (at + suc x) 0 (λ q. omega (arith, q)) in
    rw (z, last_within at k x t e, n, and-false (not (in_field (b ∷ t)))) (omega arith)

-- two places with as many behind them
module _ (t : List ℕ) where
  front_on : (p k : ℕ) → p + k ≤ length t → ink (drop p t) ≡ ink (drop (p + k) t)
      → p + until_field (drop p t) ≡ p + k + until_field (drop (p + k) t)
  front_on p k h e =
      let d : drop k (drop p t) ≡ drop (p + k) t = drop-drop k p t in
      let i = front_same k (drop p t) (omega (arith, h, length-drop p t)) (ap ink d ∙ sym e) in
      let j : until_field (drop k (drop p t)) ≡ until_field (drop (p + k) t) = ap until_field d in
      omega (arith, i, j)

  last_on : (p k : ℕ) → ink (drop p t) ≡ ink (drop (p + k) t) → last_field (p + k) t ≡ last_field p t
  last_on p k e = last-before p k t (last_none k (drop p t) (ap ink (drop-drop k p t) ∙ sym e))

  front_two : (p q : ℕ) → p ≤ length t → q ≤ length t → ink (drop p t) ≡ ink (drop q t)
      → p + until_field (drop p t) ≡ q + until_field (drop q t)
  front_two p q h i e = go (ltb p q) refl
    where
      go : (u : Bool) → ltb p q ≡ u → p + until_field (drop p t) ≡ q + until_field (drop q t)
      go true l =
          let k : p + (q - p) ≡ q = omega (arith, ltb-true p q l) in
          rw k at (front_on p (q - p) (omega (arith, k, i)) (e ∙ ap (λ j. ink (drop j t)) (sym k)))
      go false l =
          let k : q + (p - q) ≡ p = omega (arith, ltb-false p q l) in
          sym (rw k at (front_on q (p - q) (omega (arith, k, h)) (sym e ∙ ap (λ j. ink (drop j t)) (sym k))))

  last_two : (p q : ℕ) → ink (drop p t) ≡ ink (drop q t) → last_field p t ≡ last_field q t
  last_two p q e = go (ltb p q) refl
    where
      go : (u : Bool) → ltb p q ≡ u → last_field p t ≡ last_field q t
      go true l =
          let k : p + (q - p) ≡ q = omega (arith, ltb-true p q l) in
          sym (rw k at (last_on p (q - p) (e ∙ ap (λ j. ink (drop j t)) (sym k))))
      go false l =
          let k : q + (p - q) ≡ p = omega (arith, ltb-false p q l) in
          rw k at (last_on q (p - q) (sym e ∙ ap (λ j. ink (drop j t)) (sym k)))

-- how many bytes lines have in their fields

unfoldable fields_size : List (List ℕ) → ℕ
fields_size [] = 0
fields_size (f ∷ fs) = length f + fields_size fs

unfoldable lines_size : List Line → ℕ
lines_size [] = 0
lines_size (l ∷ ls) = fields_size l.fields + lines_size ls

with_size : (n : ℕ) (fs : List (List ℕ)) (ls : List Line) → lines_size (with_line n fs ls) ≡ fields_size fs + lines_size ls
unfolding with_line lines_size fields_size
with_size n [] ls = omega arith
with_size n (f ∷ fs) ls = refl

on_size : (b : ℕ) (t : Bool) (fs : List (List ℕ)) → fields_size (on_field b t fs) ≡ suc (fields_size fs)
unfolding on_field fields_size
on_size b false fs = omega arith
on_size b true [] = omega arith
on_size b true (f ∷ fs) = omega arith

-- a byte at the front of the first line
line_on_size : (n b : ℕ) (ls : List (List ℕ))
    → lines_size (numbered n (on_line b ls)) ≡ cond (gap b) (lines_size (numbered n ls)) (suc (lines_size (numbered n ls)))
unfolding numbered on_line fields_of lines_size with_line on_field fields_size begins
line_on_size n b [] = go (gap b)
  where
    go : (u : Bool) → lines_size (with_line n (cond u [] (on_field b false [])) []) ≡ cond u (lines_size []) (suc (lines_size []))
    go true = refl
    go false = refl
line_on_size n b (l ∷ ls) = with_size n (fields_of (b ∷ l)) (numbered (suc n) ls) ∙ go (gap b)
  where
    go : (u : Bool) → fields_size (cond u (fields_of l) (on_field b (begins l) (fields_of l))) + lines_size (numbered (suc n) ls)
        ≡ cond u (lines_size (with_line n (fields_of l) (numbered (suc n) ls)))
        (suc (lines_size (with_line n (fields_of l) (numbered (suc n) ls))))
    go true = sym (with_size n (fields_of l) (numbered (suc n) ls))
    go false = omega (arith, on_size b (begins l) (fields_of l), with_size n (fields_of l) (numbered (suc n) ls))

-- a text has as many bytes of fields as its lines have in theirs
text_size : (n : ℕ) (u : List ℕ) → ink u ≡ lines_size (numbered n (lines_of u))
unfolding ink lines_of in_field lines_size numbered with_line fields_of
text_size n [] = refl
text_size n (b ∷ bs) = go (eqb b lf) (eqb b cr && lf_next bs) (gap b) (text_size (suc n) bs) (text_size n bs) (line_on_size n b (lines_of bs))
  where
    go : (u v g : Bool) → ink bs ≡ lines_size (numbered (suc n) (lines_of bs)) → ink bs ≡ lines_size (numbered n (lines_of bs))
        → lines_size (numbered n (on_line b (lines_of bs)))
        ≡ cond g (lines_size (numbered n (lines_of bs))) (suc (lines_size (numbered n (lines_of bs))))
        → cond (not (g || (u || v))) (suc (ink bs)) (ink bs)
        ≡ lines_size (numbered n (cond u ([] ∷ lines_of bs) (cond v (lines_of bs) (on_line b (lines_of bs)))))
    go true v true i j k = i
    go true v false i j k = i
    go false true true i j k = j
    go false true false i j k = j
    go false false true i j k = j ∙ sym k
    go false false false i j k = ap suc j ∙ sym k

-- two places with the same lines behind them
module _ (t : List ℕ) (n p k q : ℕ) (e : lines_from n t p ≡ lines_from k t q) where
  same : ink (drop p t) ≡ ink (drop q t)
  same = text_size n (drop p t) ∙ ap lines_size e ∙ sym (text_size k (drop q t))

  pub front-lines : p ≤ length t → q ≤ length t → p + until_field (drop p t) ≡ q + until_field (drop q t)
  front-lines h i = front_two t p q h i same

  pub last-lines : last_field p t ≡ last_field q t
  last-lines = last_two t p q same

-- the first line of a text

module _ (b : ℕ) (bs l : List ℕ) (ls : List (List ℕ)) where
  first-lf : eqb b lf ≡ true → lines_of (b ∷ bs) ≡ l ∷ ls → l ≡ []
  unfolding lines_of
  first-lf e h = let k : [] ∷ lines_of bs ≡ l ∷ ls = rw e at h in cc

  -- one more byte, which is no line's end
  on_first : on_line b (lines_of bs) ≡ l ∷ ls → (C : Type 0) → (lines_of bs ≡ [] → l ≡ b ∷ [] → C)
      → ((m : List ℕ) (ms : List (List ℕ)) → lines_of bs ≡ m ∷ ms → l ≡ b ∷ m → C) → C
  unfolding on_line
  on_first h C f g = go (lines_of bs) refl h
    where
      go : (ks : List (List ℕ)) → lines_of bs ≡ ks → on_line b ks ≡ l ∷ ls → C
      go [] e k = f e cc
      go (m ∷ ms) e k = g m ms e cc

-- where an LF is next, the line ends
ends-lf : (c : Bool) (bs l : List ℕ) (ls : List (List ℕ)) → (c && lf_next bs) ≡ true → lines_of bs ≡ l ∷ ls → l ≡ []
unfolding lf_next
ends-lf c [] l ls e h = absurd (false≢true (sym (and-false c) ∙ e))
ends-lf c (x ∷ xs) l ls e h = first-lf x xs l ls (go c e) h
  where
    go : (c : Bool) → (c && eqb x lf) ≡ true → eqb x lf ≡ true
    go true e = e
    go false e = absurd (false≢true e)

line-none : (u : List ℕ) → lines_of u ≡ [] → u ≡ []
unfolding lines_of on_line lf_next
line-none [] e = refl
line-none (b ∷ bs) e = go (eqb b lf) (eqb b cr && lf_next bs) refl (λ k. line-none bs k) e
  where
    some : (ls : List (List ℕ)) → on_line b ls ≡ [] → b ∷ bs ≡ []
    some [] k = clash cc
    some (l ∷ ls) k = clash cc

    next : (xs : List ℕ) → (eqb b cr && lf_next xs) ≡ true → xs ≡ [] → ⊥
    next [] h k = false≢true (sym (and-false (eqb b cr)) ∙ h)
    next (x ∷ xs) h k = clash cc

    go : (u v : Bool) → (eqb b cr && lf_next bs) ≡ v → (lines_of bs ≡ [] → bs ≡ [])
        → cond u ([] ∷ lines_of bs) (cond v (lines_of bs) (on_line b (lines_of bs))) ≡ [] → b ∷ bs ≡ []
    go true v h f k = clash cc
    go false true h f k = absurd (next bs h (f k))
    go false false h f k = some (lines_of bs) k

-- its last field ends where the last one before the line's end does
pub first-last : (u l : List ℕ) (ls : List (List ℕ)) → lines_of u ≡ l ∷ ls → last_field (suc (until_lf u)) u ≡ last_end l
unfolding lines_of until_lf last_field in_field last_end
first-last [] l ls h = clash cc
first-last (b ∷ bs) l ls h = go (eqb b lf) (eqb b cr && lf_next bs) refl (gap b) refl (λ l ls k. first-last bs l ls k) h
  where
    go : (u v : Bool) → (eqb b cr && lf_next bs) ≡ v → (g : Bool) → gap b ≡ g
        → ((l : List ℕ) (ls : List (List ℕ)) → lines_of bs ≡ l ∷ ls → last_field (suc (until_lf bs)) bs ≡ last_end l)
        → cond u ([] ∷ lines_of bs) (cond v (lines_of bs) (on_line b (lines_of bs))) ≡ l ∷ ls
        → cond (not (not (g || (u || v))) && eqb (last_field (cond u 0 (suc (until_lf bs))) bs) 0) 0
        (suc (last_field (cond u 0 (suc (until_lf bs))) bs))
        ≡ last_end l
    go true v e true i f k = let q : l ≡ [] = cc in rw q
    go true v e false i f k = let q : l ≡ [] = cc in rw q
    go false true e g i f k = within g (f l ls k) (ends-lf (eqb b cr) bs l ls e k)
      where
        within : (g : Bool) → last_field (suc (until_lf bs)) bs ≡ last_end l → l ≡ []
            → cond (not (not (g || true)) && eqb (last_field (suc (until_lf bs)) bs) 0) 0 (suc (last_field (suc (until_lf bs)) bs)) ≡ last_end l
        within true j q = rw (j, q)
        within false j q = rw (j, q)
    go false false e g i f k = on_first b bs l ls k _ alone more
      where
        tested : (g : Bool) (x y : ℕ) → x ≡ y → cond (not (not (g || false)) && eqb x 0) 0 (suc x) ≡ cond (g && eqb y 0) 0 (suc y)
        tested true x y j = rw j
        tested false x y j = rw j

        alone : lines_of bs ≡ [] → l ≡ b ∷ []
            → cond (not (not (g || false)) && eqb (last_field (suc (until_lf bs)) bs) 0) 0 (suc (last_field (suc (until_lf bs)) bs)) ≡ last_end l
        alone z q =
            let n : bs ≡ [] = line-none bs z in
            rw (q, i) (tested g _ 0 (ap (λ u. last_field (suc (until_lf u)) u) n))

        more : (m : List ℕ) (ms : List (List ℕ)) → lines_of bs ≡ m ∷ ms → l ≡ b ∷ m
            → cond (not (not (g || false)) && eqb (last_field (suc (until_lf bs)) bs) 0) 0 (suc (last_field (suc (until_lf bs)) bs)) ≡ last_end l
        more m ms z q = rw (q, i) (tested g _ (last_end m) (f m ms z))

-- and its first one begins where the text's first one does
pub first_until : (u l : List ℕ) (ls : List (List ℕ)) → lines_of u ≡ l ∷ ls → (fields_of l ≡ [] → ⊥) → until_field u ≡ gaps l
unfolding lines_of until_field in_field gaps fields_of
first_until [] l ls h n = clash cc
first_until (b ∷ bs) l ls h n = go (eqb b lf) (eqb b cr && lf_next bs) refl (gap b) refl (λ l ls k i. first_until bs l ls k i) h
  where
    go : (u v : Bool) → (eqb b cr && lf_next bs) ≡ v → (g : Bool) → gap b ≡ g
        → ((l : List ℕ) (ls : List (List ℕ)) → lines_of bs ≡ l ∷ ls → (fields_of l ≡ [] → ⊥) → until_field bs ≡ gaps l)
        → cond u ([] ∷ lines_of bs) (cond v (lines_of bs) (on_line b (lines_of bs))) ≡ l ∷ ls
        → cond (not (g || (u || v))) 0 (suc (until_field bs)) ≡ gaps l
    go true v e g i f k = let q : l ≡ [] = cc in absurd (n (ap fields_of q))
    go false true e g i f k = absurd (n (ap fields_of (ends-lf (eqb b cr) bs l ls e k)))
    go false false e true i f k = on_first b bs l ls k _ (λ z q. absurd (n (rw (q, i)))) more
      where
        more : (m : List ℕ) (ms : List (List ℕ)) → lines_of bs ≡ m ∷ ms → l ≡ b ∷ m → suc (until_field bs) ≡ gaps l
        more m ms z q = rw (q, i) (ap suc (f m ms z (λ j. n (rw (q, i) j))))
    go false false e false i f k = on_first b bs l ls k _ (λ z q. rw (q, i)) (λ m ms z q. rw (q, i))

-- behind the text's end stands nothing
last-over : (k : ℕ) (u : List ℕ) → length u ≤ k → last_field (suc k) u ≡ last_field k u
unfolding last_field
last-over zero [] h = refl
last-over zero (b ∷ u) h = absurd (omega (arith, h))
last-over (suc k) [] h = refl
last-over (suc k) (b ∷ u) h = let i = last-over k u (omega (arith, h)) in ap (λ x. cond (not (in_field (b ∷ u)) && eqb x 0) 0 (suc x)) i

-- up to the next line
pub next_last : (t : List ℕ) (at : ℕ) → last_field (line_at t at).next t ≡ last_field (at + suc (until_lf (drop at t))) t
unfolding line_at line_ending
next_last t at = go (ltb (at + until_lf (drop at t)) (length t)) refl
  where
    go : (u : Bool) → ltb (at + until_lf (drop at t)) (length t) ≡ u
        → last_field (cond {A = OneLine} u (record { to = line_to t at (at + until_lf (drop at t)); next = at + until_lf (drop at t) + 1 })
        (record { to = at + until_lf (drop at t); next = at + until_lf (drop at t) })).next t
        ≡ last_field (at + suc (until_lf (drop at t))) t
    go true e = let q : at + until_lf (drop at t) + 1 ≡ at + suc (until_lf (drop at t)) = omega arith in ap (λ k. last_field k t) q
    go false e =
        let q : suc (at + until_lf (drop at t)) ≡ at + suc (until_lf (drop at t)) = omega arith in
        sym (last-over (at + until_lf (drop at t)) t (ltb-false (at + until_lf (drop at t)) (length t) e)) ∙ ap (λ k. last_field k t) q

-- whether the byte at a place is one of a field, and whether it is the LF of a CRLF
module _ (t : List ℕ) (i : ℕ) where
  module _ (inside : i < length t) where
    pub byte-here : of_field (get_or t i 0) (drop (i + 1) t) ≡ in_field (drop i t)
    unfolding in_field
    byte-here = rw (add-one, drop-cons t i 0 inside)

    pub lf-here : eqb (get_or t i 0) lf ≡ lf_next (drop i t)
    unfolding lf_next
    lf-here = rw (drop-cons t i 0 inside)

  module _ (over : length t ≤ i) where
    pub byte-over : ltb i (length t) ≡ in_field (drop i t)
    unfolding in_field
    byte-over = rw (le-ltb i (length t) over, drop_of_length-le t over)

    pub lf-over : ltb i (length t) ≡ lf_next (drop i t)
    unfolding lf_next
    lf-over = rw (le-ltb i (length t) over, drop_of_length-le t over)

-- a loop that goes on to the first byte of a field
module _ (t : List ℕ) (i : ℕ) where
  pub until_stop : in_field (drop i t) ≡ true → until_field (drop i t) ≡ 0
  unfolding until_field
  until_stop e = go (drop i t) e
    where
      go : (u : List ℕ) → in_field u ≡ true → until_field u ≡ 0
      go [] e = refl
      go (b ∷ u) e = rw e

  pub until_on : i < length t → in_field (drop i t) ≡ false → until_field (drop i t) ≡ suc (until_field (drop (i + 1) t))
  unfolding until_field
  until_on h e =
      let k : suc i ≡ i + 1 = omega arith in
      let n : drop i t ≡ get_or t i 0 ∷ drop (suc i) t = drop-cons t i 0 h in
      let f : in_field (get_or t i 0 ∷ drop (suc i) t) ≡ false = ap in_field (sym n) ∙ e in
      ap until_field n ∙ rw f (ap (λ j. suc (until_field (drop j t))) k)

  pub until_end : length t ≤ i → until_field (drop i t) ≡ 0
  unfolding until_field
  until_end h = ap until_field (drop_of_length-le t h)

-- one that goes back to the last
module _ (t : List ℕ) (e : ℕ) (some : 0 < e) where
  back : e - 1 + 1 ≡ e
  back = omega arith

  pub end_stop : in_field (drop (e - 1) t) ≡ true → last_field e t ≡ e
  unfolding last_field in_field
  end_stop h = ap (λ n. last_field n t) (sym back) ∙ last_within (e - 1) 1 0 t (go (drop (e - 1) t) h) ∙ omega (arith, back)
    where
      go : (u : List ℕ) → in_field u ≡ true → last_field 1 u ≡ 1
      go [] h = absurd (false≢true h)
      go (b ∷ u) h = rw h

  pub end_on : in_field (drop (e - 1) t) ≡ false → last_field e t ≡ last_field (e - 1) t
  unfolding last_field
  end_on h = ap (λ n. last_field n t) (sym back) ∙ last-before (e - 1) 1 t (go (drop (e - 1) t) h)
    where
      go : (u : List ℕ) → in_field u ≡ false → last_field 1 u ≡ 0
      go [] h = refl
      go (b ∷ u) h = rw h
