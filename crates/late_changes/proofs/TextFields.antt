-- The fields of a text, line by line: of a text with an LF in it, of bytes that are one line, without spaces and tabs at the front, and of
-- a line without what stands behind its last field. Assumes nothing.
use Prim.Native.Nat.{ℕ, zero, suc, ◌+◌, ◌≤◌, ◌<◌}
use native.Mathlib.Omega.{arith}
use mathlib.Core.Path.{◌≡◌, refl, sym, ap, ap₂, ◌∙◌}
use mathlib.Core.Bool.{Bool, true, false, cond, not, ◌&&◌, ◌||◌, and-false, false≢true}
use mathlib.Core.List.{List, [], ◌∷◌, ◌++◌, map, append-nil, append_assoc}
use borrow.Author.Tests.{eqb-true}
use lib.Dec.{eqb}
use lib.ListN.{length, get_or, take, drop, length-append}
use lib.Seq.{take-nil, take-append_seam}
use Rattle.fields.specs.Bytes.{lf, cr, space, tab, lf_next}
use Rattle.fields.specs.Fields.{gap, gaps, begins, on_field, fields_of}
use Rattle.fields.specs.Lines.{on_line, lines_of, with_line, numbered, until_lf}
use Rattle.module_part.specs.ModulePart.{last_end}
use Rattle.text.specs.Describes.{fields_in, field_lines}
use Rattle.text.proofs.BlankLines.{lines-behind-lf}
use Rattle.late_changes.specs.Together.{Lines}

-- a list before another is what is left of both without the other
pub append_left : {A : Type 0} (xs ys zs : List A) → xs ++ zs ≡ ys ++ zs → xs ≡ ys
append_left xs ys zs e =
    let n : length xs ≡ length ys = omega (arith, ap length e, length-append xs zs, length-append ys zs) in
    sym (take-append_seam xs zs) ∙ ap₂ take n e ∙ take-append_seam ys zs

pub drop-take : {A : Type 0} (n k : ℕ) (l : List A) → drop n (take (n + k) l) ≡ take k (drop n l)
drop-take zero k l = let j : 0 + k ≡ k = omega arith in ap (λ i. take i l) j
drop-take (suc n) k [] = ap (drop (suc n)) (take-nil (suc n + k)) ∙ sym (take-nil k)
drop-take (suc n) k (a ∷ l) = let j : suc n + k ≡ suc (n + k) = omega arith in ap (λ i. drop (suc n) (take i (a ∷ l))) j ∙ drop-take n k l

-- the fields of lines, of which blank ones have none

abbrev pub kept : List (List ℕ) → Lines
kept [] = []
kept (f ∷ fs) = (f ∷ fs) ∷ []

abbrev pub fields_all : List (List ℕ) → Lines
fields_all [] = []
fields_all (l ∷ ls) = kept (fields_of l) ++ fields_all ls

numbered-fields : (n : ℕ) (ls : List (List ℕ)) → map fields_in (numbered n ls) ≡ fields_all ls
unfolding numbered with_line
numbered-fields n [] = refl
numbered-fields n (l ∷ ls) = go (fields_of l) (numbered-fields (suc n) ls)
  where
    go : (fs : List (List ℕ)) → map fields_in (numbered (suc n) ls) ≡ fields_all ls
        → map fields_in (with_line n fs (numbered (suc n) ls)) ≡ kept fs ++ fields_all ls
    go [] e = e
    go (f ∷ fs) e = ap (λ r. (f ∷ fs) ∷ r) e

all_append : (ls ms : List (List ℕ)) → fields_all (ls ++ ms) ≡ fields_all ls ++ fields_all ms
all_append [] ms = refl
all_append (l ∷ ls) ms =
    ap (λ r. kept (fields_of l) ++ r) (all_append ls ms) ∙ sym (append_assoc (kept (fields_of l)) (fields_all ls) (fields_all ms))

-- of a text
abbrev pub text_fields : List ℕ → Lines
text_fields u = fields_all (lines_of u)

pub text-fields : (u : List ℕ) → field_lines u ≡ text_fields u
text-fields u = numbered-fields 1 (lines_of u)

pub fields-lf : (x c : List ℕ) → text_fields (x ++ lf ∷ c) ≡ text_fields (x ++ lf ∷ []) ++ text_fields c
fields-lf x c = ap fields_all (lines-behind-lf x c) ∙ all_append (lines_of (x ++ lf ∷ [])) (lines_of c)

-- bytes before the first LF are one line

pub lf-at : (u : List ℕ) → until_lf u < length u → get_or u (until_lf u) 0 ≡ lf
unfolding until_lf
lf-at [] h = absurd (omega arith)
lf-at (b ∷ u) h = go (λ k. lf-at u k) (eqb b lf) refl h
  where
    go : (until_lf u < length u → get_or u (until_lf u) 0 ≡ lf) → (t : Bool) → eqb b lf ≡ t → cond t 0 (suc (until_lf u)) < suc (length u)
        → get_or (b ∷ u) (cond t 0 (suc (until_lf u))) 0 ≡ lf
    go f true e h = eqb-true b lf e
    go f false e h = f (omega arith)

next-none : (k : ℕ) (u : List ℕ) → k ≤ until_lf u → lf_next (take k u) ≡ false
unfolding until_lf lf_next
next-none zero u h = refl
next-none (suc k) [] h = refl
next-none (suc k) (b ∷ u) h = go (eqb b lf) refl h
  where
    go : (t : Bool) → eqb b lf ≡ t → suc k ≤ cond t 0 (suc (until_lf u)) → eqb b lf ≡ false
    go true e h = absurd (omega arith)
    go false e h = e

abbrev alone : List ℕ → List (List ℕ)
alone [] = []
alone (b ∷ l) = (b ∷ l) ∷ []

on_alone : (b : ℕ) (l : List ℕ) → on_line b (alone l) ≡ (b ∷ l) ∷ []
unfolding on_line
on_alone b [] = refl
on_alone b (x ∷ l) = refl

lines-alone : (k : ℕ) (u : List ℕ) → k ≤ until_lf u → lines_of (take k u) ≡ alone (take k u)
unfolding until_lf lines_of
lines-alone zero u h = refl
lines-alone (suc k) [] h = refl
lines-alone (suc k) (b ∷ u) h = go (λ e. lines-alone k u e) (λ e. next-none k u e) (eqb b lf) refl h
  where
    go : (k ≤ until_lf u → lines_of (take k u) ≡ alone (take k u)) → (k ≤ until_lf u → lf_next (take k u) ≡ false) → (t : Bool) → eqb b lf ≡ t
        → suc k ≤ cond t 0 (suc (until_lf u))
        → cond t ([] ∷ lines_of (take k u)) (cond (eqb b cr && lf_next (take k u)) (lines_of (take k u)) (on_line b (lines_of (take k u))))
        ≡ (b ∷ take k u) ∷ []
    go f g true e h = absurd (omega arith)
    go f g false e h =
        let j : k ≤ until_lf u = omega arith in
        rw (g j, and-false (eqb b cr), f j) (on_alone b (take k u))

fields-alone : (l : List ℕ) → fields_all (alone l) ≡ kept (fields_of l)
unfolding fields_of
fields-alone [] = refl
fields-alone (b ∷ l) = append-nil (kept (fields_of (b ∷ l)))

pub one_line : (k : ℕ) (u : List ℕ) → k ≤ until_lf u → text_fields (take k u) ≡ kept (fields_of (take k u))
one_line k u h = ap fields_all (lines-alone k u h) ∙ fields-alone (take k u)

-- spaces and tabs at the front

on_gap : (b : ℕ) (ls : List (List ℕ)) → gap b ≡ true → fields_all (on_line b ls) ≡ fields_all ls
unfolding on_line fields_of
on_gap b [] h = rw h
on_gap b (l ∷ ls) h = rw h

front-gap : (b : ℕ) (u : List ℕ) → gap b ≡ true → text_fields (b ∷ u) ≡ text_fields u
unfolding lines_of
front-gap b u h = go (eqb b space) refl (eqb b tab) refl h
  where
    go : (s : Bool) → eqb b space ≡ s → (t : Bool) → eqb b tab ≡ t → (s || t) ≡ true → fields_all (lines_of (b ∷ u)) ≡ fields_all (lines_of u)
    go true e t f k = let i : b ≡ space = eqb-true b space e in rw i (on_gap space (lines_of u) refl)
    go false e true f k = let i : b ≡ tab = eqb-true b tab f in rw i (on_gap tab (lines_of u) refl)
    go false e false f k = absurd (false≢true k)

pub gaps_off : (k : ℕ) (u : List ℕ) → k ≤ gaps u → text_fields (drop k u) ≡ text_fields u
unfolding gaps
gaps_off zero u h = refl
gaps_off (suc k) [] h = refl
gaps_off (suc k) (b ∷ u) h = go (λ e. gaps_off k u e) (gap b) refl h
  where
    go : (k ≤ gaps u → text_fields (drop k u) ≡ text_fields u) → (t : Bool) → gap b ≡ t → suc k ≤ cond t (suc (gaps u)) 0
        → text_fields (drop k u) ≡ text_fields (b ∷ u)
    go f true e h = f (omega arith) ∙ sym (front-gap b u e)
    go f false e h = absurd (omega arith)

pub gaps-front : (k : ℕ) (u : List ℕ) → gaps (take k u) ≤ gaps u
unfolding gaps
gaps-front zero u = omega arith
gaps-front (suc k) [] = omega arith
gaps-front (suc k) (b ∷ u) = go (gaps-front k u) (gap b)
  where
    go : gaps (take k u) ≤ gaps u → (t : Bool) → cond t (suc (gaps (take k u))) 0 ≤ cond t (suc (gaps u)) 0
    go h true = omega arith
    go h false = omega arith

pub gaps-within : (j k : ℕ) (u : List ℕ) → j ≤ gaps u → j ≤ k → j ≤ gaps (take k u)
unfolding gaps
gaps-within zero k u h i = omega arith
gaps-within (suc j) zero u h i = absurd (omega arith)
gaps-within (suc j) (suc k) [] h i = h
gaps-within (suc j) (suc k) (b ∷ u) h i = go (λ e. gaps-within j k u e (omega arith)) (gap b) h
  where
    go : (j ≤ gaps u → j ≤ gaps (take k u)) → (t : Bool) → suc j ≤ cond t (suc (gaps u)) 0 → suc j ≤ cond t (suc (gaps (take k u))) 0
    go f true h = let e = f (omega arith) in omega arith
    go f false h = absurd (omega arith)

-- and behind the last field

pub last-same : (l : List ℕ) → (fields_of (take (last_end l) l) ≡ fields_of l) × (begins (take (last_end l) l) ≡ begins l)
unfolding last_end fields_of begins
last-same [] = (refl, refl)
last-same (b ∷ l) = go (last-same l) (gap b) refl (eqb (last_end l) 0) refl
  where
    go : (fields_of (take (last_end l) l) ≡ fields_of l) × (begins (take (last_end l) l) ≡ begins l) → (s : Bool) → gap b ≡ s → (t : Bool)
        → eqb (last_end l) 0 ≡ t
        → (fields_of (take (cond (s && t) 0 (suc (last_end l))) (b ∷ l)) ≡ cond s (fields_of l) (on_field b (begins l) (fields_of l)))
        × (begins (take (cond (s && t) 0 (suc (last_end l))) (b ∷ l)) ≡ not s)
    go h true e true f =
        let z : last_end l ≡ 0 = eqb-true (last_end l) 0 f in
        (sym (ap (λ k. fields_of (take k l)) z) ∙ h.0, refl)
    go h true e false f = rw (e, h.0) (refl, refl)
    go h false e t f = rw (e, h.0, h.1) (refl, refl)
