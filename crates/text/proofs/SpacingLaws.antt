-- Laws of spaces and tabs (document 01, "The SOC text"): "Fields are parted by one or more spaces or tabs; such bytes at either end of
-- a line count for nothing." Assumes nothing.
use Prim.Native.Nat.{ℕ, ◌≤◌}
use mathlib.Core.Path.{◌≡◌, refl, sym, ap, ◌∙◌}
use mathlib.Core.Bool.{Bool, true, false, cond, ◌&&◌, ◌||◌, false≢true}
use mathlib.Core.List.{List, [], ◌∷◌, ◌++◌}
use mathlib.Core.Logic.{◌⊎◌, inl, inr}
use borrow.Author.Tests.{eqb-true}
use lib.Dec.{eqb}
use lib.ListN.{length}
use Rattle.units.specs.Places.{all_of}
use Rattle.units.proofs.TestLaws.{and_both}
use Rattle.fields.specs.Bytes.{tab, lf, cr, space, lf_next, bad_byte}
use Rattle.fields.specs.Fields.{gap, begins, fields_of}
use Rattle.fields.specs.Lines.{on_line, lines_of, numbered}
use Rattle.soc.specs.Limits.{text_max}
use Rattle.text_reader.specs.Reading.{read_soc}
use Rattle.text.specs.Spacing.{spaces, spacing, line_ends, ends_in_cr}
use Rattle.text.proofs.SameText.{first_of, others_of, numbered-same, on_first, on_others, same-behind}
use Rattle.text.proofs.SameText.{same_text, behind-lf, same_read, no-cr, SameBehind, SameText}

-- spaces and tabs

gap_is : (x : ℕ) → gap x ≡ true → (x ≡ space) ⊎ (x ≡ tab)
gap_is x h = go (eqb x space) (eqb x tab) refl refl h
  where
    go : (u v : Bool) → eqb x space ≡ u → eqb x tab ≡ v → (u || v) ≡ true → (x ≡ space) ⊎ (x ≡ tab)
    go true v p q h = inl (eqb-true x space p)
    go false true p q h = inr (eqb-true x tab q)
    go false false p q h = absurd (false≢true h)

lines-gap : (x : ℕ) (t : List ℕ) → gap x ≡ true → lines_of (x ∷ t) ≡ on_line x (lines_of t)
unfolding lines_of
lines-gap x t h = go (gap_is x h)
  where
    go : (x ≡ space) ⊎ (x ≡ tab) → lines_of (x ∷ t) ≡ on_line x (lines_of t)
    go (inl e) = rw e
    go (inr e) = rw e

bad_gap : (n x : ℕ) (t : List ℕ) → gap x ≡ true → bad_byte n (x ∷ t) ≡ bad_byte n t
unfolding bad_byte
bad_gap n x t h = go (gap_is x h)
  where
    go : (x ≡ space) ⊎ (x ≡ tab) → bad_byte n (x ∷ t) ≡ bad_byte n t
    go (inl e) = rw e
    go (inr e) = rw e

next-gap : (x : ℕ) (t : List ℕ) → gap x ≡ true → lf_next (x ∷ t) ≡ false
unfolding lf_next
next-gap x t h = go (gap_is x h)
  where
    go : (x ≡ space) ⊎ (x ≡ tab) → lf_next (x ∷ t) ≡ false
    go (inl e) = rw e
    go (inr e) = rw e

module _ (t : List ℕ) where
  spaces-first : (g : List ℕ) → spaces g ≡ true → first_of (lines_of (g ++ t)) ≡ g ++ first_of (lines_of t)
  unfolding all_of
  spaces-first [] h = refl
  spaces-first (x ∷ g) h =
      let p = and_both (gap x) (all_of gap g) h in
      ap first_of (lines-gap x (g ++ t) p.0) ∙ on_first x (lines_of (g ++ t)) ∙ ap (λ l. x ∷ l) (spaces-first g p.1)

  spaces_others : (g : List ℕ) → spaces g ≡ true → others_of (lines_of (g ++ t)) ≡ others_of (lines_of t)
  unfolding all_of
  spaces_others [] h = refl
  spaces_others (x ∷ g) h =
      let p = and_both (gap x) (all_of gap g) h in
      ap others_of (lines-gap x (g ++ t) p.0) ∙ on_others x (lines_of (g ++ t)) ∙ spaces_others g p.1

  spaces_bad : (n : ℕ) (g : List ℕ) → spaces g ≡ true → bad_byte n (g ++ t) ≡ bad_byte n t
  unfolding all_of
  spaces_bad n [] h = refl
  spaces_bad n (x ∷ g) h =
      let p = and_both (gap x) (all_of gap g) h in
      bad_gap n x (g ++ t) p.0 ∙ spaces_bad n g p.1

spaces-fields : (g l : List ℕ) → spaces g ≡ true → fields_of (g ++ l) ≡ fields_of l
unfolding all_of fields_of
spaces-fields [] l h = refl
spaces-fields (x ∷ g) l h =
    let p = and_both (gap x) (all_of gap g) h in
    rw p.0 (spaces-fields g l p.1)

-- spaces before a text, which has the same fields then
spaces-text : (g t : List ℕ) → spaces g ≡ true → SameText (g ++ t) t
spaces-text g t h = record {
  lines = numbered-same (lines_of (g ++ t)) (lines_of t)
      (ap fields_of (spaces-first t g h) ∙ spaces-fields g (first_of (lines_of t)) h)
      (λ n. ap (numbered n) (spaces_others t g h));
  bad = λ n. spaces_bad t n g h;
}

-- and the same behind other bytes where it goes on alike
spaces-behind : (g t : List ℕ) → spaces g ≡ true → begins (g ++ first_of (lines_of t)) ≡ begins (first_of (lines_of t))
    → SameBehind (g ++ t) t
spaces-behind g t h e = record {
  lines = record {
    goes = ap begins (spaces-first t g h) ∙ e;
    fields = ap fields_of (spaces-first t g h) ∙ spaces-fields g (first_of (lines_of t)) h;
    others = λ n. ap (numbered n) (spaces_others t g h);
  };
  bad = λ n. spaces_bad t n g h;
}

-- one or more of them
spacing-spaces : (g : List ℕ) → spacing g ≡ true → spaces g ≡ true
unfolding spacing all_of
spacing-spaces [] h = absurd (false≢true h)
spacing-spaces (x ∷ g) h = h

spacing-begins : (g l : List ℕ) → spacing g ≡ true → begins (g ++ l) ≡ false
unfolding spacing begins
spacing-begins [] l h = absurd (false≢true h)
spacing-begins (x ∷ g) l h = rw (and_both (gap x) (spaces g) h).0

spacing-next : (g t : List ℕ) → spacing g ≡ true → lf_next (g ++ t) ≡ false
unfolding spacing
spacing-next [] t h = absurd (false≢true h)
spacing-next (x ∷ g) t h = next-gap x (g ++ t) (and_both (gap x) (spaces g) h).0

spacing-behind : (g h b : List ℕ) → spacing g ≡ true → spacing h ≡ true → SameBehind (g ++ b) (h ++ b)
spacing-behind g h b p q =
    let l = first_of (lines_of b) in
    let s = spacing-spaces g p in
    let z = spacing-spaces h q in
    let f = spaces-first b g s in
    let k = spaces-first b h z in
    record {
      lines = record {
        goes = ap begins f ∙ spacing-begins g l p ∙ sym (ap begins k ∙ spacing-begins h l q);
        fields = ap fields_of f ∙ spaces-fields g l s ∙ sym (ap fields_of k ∙ spaces-fields h l z);
        others = λ n. ap (numbered n) (spaces_others b g s ∙ sym (spaces_others b h z));
      };
      bad = λ n. spaces_bad b n g s ∙ sym (spaces_bad b n h z);
    }

-- "Fields are parted by one or more spaces or tabs": which and how many makes no difference
pub spacing-same : (a g h b : List ℕ) → spacing g ≡ true → spacing h ≡ true → length (a ++ (g ++ b)) ≤ text_max
    → length (a ++ (h ++ b)) ≤ text_max
    → read_soc (a ++ (g ++ b)) ≡ read_soc (a ++ (h ++ b))
spacing-same a g h b p q =
    let e = ap (λ n. ends_in_cr a && n) (spacing-next g b p ∙ sym (spacing-next h b q)) in
    same_read (a ++ (g ++ b)) (a ++ (h ++ b)) (same_text (same-behind a (g ++ b) (h ++ b) e (spacing-behind g h b p q)))

-- "such bytes at either end of a line count for nothing": at the text's first line, behind an LF, and before a line's end
pub spaces-begin : (g b : List ℕ) → spaces g ≡ true → length (g ++ b) ≤ text_max → length b ≤ text_max → read_soc (g ++ b) ≡ read_soc b
spaces-begin g b h = same_read (g ++ b) b (spaces-text g b h)

pub spaces-begin-line : (a g b : List ℕ) → spaces g ≡ true → length (a ++ lf ∷ (g ++ b)) ≤ text_max → length (a ++ lf ∷ b) ≤ text_max
    → read_soc (a ++ lf ∷ (g ++ b)) ≡ read_soc (a ++ lf ∷ b)
unfolding lf_next
spaces-begin-line a g b h =
    let s = behind-lf (g ++ b) b (spaces-text g b h) in
    same_read (a ++ lf ∷ (g ++ b)) (a ++ lf ∷ b) (same_text (same-behind a (lf ∷ (g ++ b)) (lf ∷ b) refl s))

next-first : (b : List ℕ) → lf_next b ≡ true → first_of (lines_of b) ≡ []
unfolding lf_next lines_of
next-first [] h = absurd (false≢true h)
next-first (x ∷ b) h = rw h

ends-first : (e : List ℕ) → line_ends e ≡ true → first_of (lines_of e) ≡ []
unfolding line_ends lines_of
ends-first [] h = refl
ends-first (x ∷ b) h = go (eqb x lf) (eqb x cr && lf_next b) (λ v. next-first b (and_both (eqb x cr) (lf_next b) v).1) h
  where
    go : (u v : Bool) → (v ≡ true → first_of (lines_of b) ≡ []) → (u || v) ≡ true
        → first_of (cond u ([] ∷ lines_of b) (cond v (lines_of b) (on_line x (lines_of b)))) ≡ []
    go true v f h = refl
    go false true f h = f refl
    go false false f h = absurd (false≢true h)

spaces-goes : (g : List ℕ) → spaces g ≡ true → begins (g ++ []) ≡ false
unfolding all_of begins
spaces-goes [] h = refl
spaces-goes (x ∷ g) h = rw (and_both (gap x) (all_of gap g) h).0

pub spaces-end-line : (a g e : List ℕ) → ends_in_cr a ≡ false → spaces g ≡ true → line_ends e ≡ true → length (a ++ (g ++ e)) ≤ text_max
    → length (a ++ e) ≤ text_max
    → read_soc (a ++ (g ++ e)) ≡ read_soc (a ++ e)
unfolding begins
spaces-end-line a g e c h k =
    let f = ends-first e k in
    let s : begins (g ++ first_of (lines_of e)) ≡ begins (first_of (lines_of e)) = rw f (spaces-goes g h) in
    same_read (a ++ (g ++ e)) (a ++ e) (same_text (same-behind a (g ++ e) e (no-cr a (g ++ e) e c) (spaces-behind g e h s)))
