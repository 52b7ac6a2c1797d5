-- Laws of blank lines (document 01, "The SOC text"): "Blank lines are skipped but counted." In any number they change the line of a
-- refusal alone. Assumes nothing.
use Prim.Native.Nat.{ℕ, suc, ◌≤◌}
use mathlib.Core.Path.{◌≡◌, refl, sym, ap, ◌∙◌}
use mathlib.Core.Bool.{Bool, true, false, cond, ◌&&◌}
use mathlib.Core.List.{List, [], ◌∷◌, ◌++◌, map}
use lib.Dec.{eqb}
use lib.ListN.{length}
use Rattle.std.specs.Prelude.{None}
use Rattle.fields.specs.Bytes.{lf, cr, lf_next, bad_byte}
use Rattle.fields.specs.Fields.{fields_of}
use Rattle.fields.specs.Lines.{on_line, lines_of, with_line, numbered}
use Rattle.soc.specs.Limits.{text_max}
use Rattle.text_reader.specs.Reading.{read_soc}
use Rattle.text.specs.Describes.{fields_in, field_lines}
use Rattle.text.specs.Numbers.{up_to_line}
use Rattle.text.proofs.SameText.{first_of, others_of, same_but_lines}

-- an LF ends a line

some_on : (b : ℕ) (ls : List (List ℕ)) → on_line b ls ≡ first_of (on_line b ls) ∷ others_of (on_line b ls)
unfolding on_line
some_on b [] = refl
some_on b (l ∷ ls) = refl

some-lf : (a : List ℕ) → lines_of (a ++ lf ∷ []) ≡ first_of (lines_of (a ++ lf ∷ [])) ∷ others_of (lines_of (a ++ lf ∷ []))
unfolding lines_of
some-lf [] = refl
some-lf (b ∷ a) = go (eqb b lf) (eqb b cr && lf_next (a ++ lf ∷ [])) (lines_of (a ++ lf ∷ [])) (some-lf a)
  where
    go : (u v : Bool) (ls : List (List ℕ)) → ls ≡ first_of ls ∷ others_of ls
        → cond u ([] ∷ ls) (cond v ls (on_line b ls))
        ≡ first_of (cond u ([] ∷ ls) (cond v ls (on_line b ls))) ∷ others_of (cond u ([] ∷ ls) (cond v ls (on_line b ls)))
    go true v ls e = refl
    go false true ls e = e
    go false false ls e = some_on b ls

next-lf : (a c : List ℕ) → lf_next (a ++ lf ∷ c) ≡ lf_next (a ++ lf ∷ [])
unfolding lf_next
next-lf [] c = refl
next-lf (b ∷ a) c = refl

-- what stands behind it begins a line of its own
pub lines-behind-lf : (a c : List ℕ) → lines_of (a ++ lf ∷ c) ≡ lines_of (a ++ lf ∷ []) ++ lines_of c
unfolding lines_of on_line
lines-behind-lf [] c = refl
lines-behind-lf (b ∷ a) c =
    rw (lines-behind-lf a c, next-lf a c) (go (eqb b lf) (eqb b cr && lf_next (a ++ lf ∷ [])) (lines_of (a ++ lf ∷ [])) (some-lf a))
  where
    on : (ls : List (List ℕ)) → ls ≡ first_of ls ∷ others_of ls → on_line b (ls ++ lines_of c) ≡ on_line b ls ++ lines_of c
    on ls e = rw e

    go : (u v : Bool) (ls : List (List ℕ)) → ls ≡ first_of ls ∷ others_of ls
        → cond u ([] ∷ ls ++ lines_of c) (cond v (ls ++ lines_of c) (on_line b (ls ++ lines_of c)))
        ≡ cond u ([] ∷ ls) (cond v ls (on_line b ls)) ++ lines_of c
    go true v ls e = refl
    go false true ls e = refl
    go false false ls e = on ls e

-- the fields of lines, whatever their numbers

any_number : (i j : ℕ) (ls : List (List ℕ)) → map fields_in (numbered i ls) ≡ map fields_in (numbered j ls)
unfolding numbered with_line
any_number i j [] = refl
any_number i j (l ∷ ls) = go (fields_of l) (any_number (suc i) (suc j) ls)
  where
    go : (fs : List (List ℕ)) → map fields_in (numbered (suc i) ls) ≡ map fields_in (numbered (suc j) ls)
        → map fields_in (with_line i fs (numbered (suc i) ls)) ≡ map fields_in (with_line j fs (numbered (suc j) ls))
    go [] e = e
    go (f ∷ fs) e = ap (λ ls. (f ∷ fs) ∷ ls) e

fields-append : (n : ℕ) (ls ms : List (List ℕ))
    → map fields_in (numbered n (ls ++ ms)) ≡ map fields_in (numbered n ls) ++ map fields_in (numbered n ms)
unfolding numbered with_line
fields-append n [] ms = refl
fields-append n (l ∷ ls) ms =
    go (fields_of l) (fields-append (suc n) ls ms ∙ ap (λ fs. map fields_in (numbered (suc n) ls) ++ fs) (any_number (suc n) n ms))
  where
    go : (fs : List (List ℕ))
        → map fields_in (numbered (suc n) (ls ++ ms)) ≡ map fields_in (numbered (suc n) ls) ++ map fields_in (numbered n ms)
        → map fields_in (with_line n fs (numbered (suc n) (ls ++ ms)))
        ≡ map fields_in (with_line n fs (numbered (suc n) ls)) ++ map fields_in (numbered n ms)
    go [] e = e
    go (f ∷ fs) e = ap (λ ls. (f ∷ fs) ∷ ls) e

-- a text behind an LF has its lines behind those before it
pub fields-behind-lf : (a c : List ℕ) → field_lines (a ++ lf ∷ c) ≡ field_lines (a ++ lf ∷ []) ++ field_lines c
fields-behind-lf a c = ap (λ ls. map fields_in (numbered 1 ls)) (lines-behind-lf a c) ∙ fields-append 1 (lines_of (a ++ lf ∷ [])) (lines_of c)

-- blank lines c before a text, and behind an LF
blank-begin : (c b : List ℕ) → field_lines (c ++ lf ∷ []) ≡ [] → field_lines (c ++ lf ∷ b) ≡ field_lines b
blank-begin c b h = fields-behind-lf c b ∙ ap (λ fs. fs ++ field_lines b) h

blank-behind : (a c b : List ℕ) → field_lines (c ++ lf ∷ []) ≡ [] → field_lines (a ++ lf ∷ (c ++ lf ∷ b)) ≡ field_lines (a ++ lf ∷ b)
blank-behind a c b h =
    fields-behind-lf a (c ++ lf ∷ b) ∙ ap (λ fs. field_lines (a ++ lf ∷ []) ++ fs) (blank-begin c b h) ∙ sym (fields-behind-lf a b)

-- "Blank lines are skipped"
module _ (c b : List ℕ) (h : field_lines (c ++ lf ∷ []) ≡ []) where
  pub blank-lines-begin : length (c ++ lf ∷ b) ≤ text_max → length b ≤ text_max → bad_byte 1 (c ++ lf ∷ b) ≡ None → bad_byte 1 b ≡ None
      → up_to_line (read_soc (c ++ lf ∷ b)) ≡ up_to_line (read_soc b)
  blank-lines-begin k l p q = same_but_lines (c ++ lf ∷ b) b k l p q (blank-begin c b h)

  pub blank-lines-behind : (a : List ℕ) → length (a ++ lf ∷ (c ++ lf ∷ b)) ≤ text_max → length (a ++ lf ∷ b) ≤ text_max
      → bad_byte 1 (a ++ lf ∷ (c ++ lf ∷ b)) ≡ None
      → bad_byte 1 (a ++ lf ∷ b) ≡ None
      → up_to_line (read_soc (a ++ lf ∷ (c ++ lf ∷ b))) ≡ up_to_line (read_soc (a ++ lf ∷ b))
  blank-lines-behind a k l p q = same_but_lines (a ++ lf ∷ (c ++ lf ∷ b)) (a ++ lf ∷ b) k l p q (blank-behind a c b h)
