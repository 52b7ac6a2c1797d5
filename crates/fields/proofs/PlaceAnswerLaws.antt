-- Laws of the answers that name a place in a line: what an answer means, by the fields that are left behind its place, and which answer
-- follows from what was read.
use Prim.Native.Nat.{ℕ}
use mathlib.Core.Path.{◌≡◌, refl, sym, ap, ◌∙◌}
use mathlib.Core.Bool.{Bool, true, false, ◌&&◌, cond}
use mathlib.Core.List.{List, [], ◌∷◌}
use mathlib.Core.Option.{Option, some, none}
use lib.ListN.{drop}
use lib.Dec.{leb}
use Rattle.units.proofs.TestLaws.{clash}
use Rattle.fields.specs.Bytes.{same_bytes}
use Rattle.fields.specs.Fields.{fields_of, field_end}
use Rattle.fields.specs.Numbers.{decimal_of}
use Rattle.fields.specs.Readers.{no, got, FieldsGot, after, bytes_due, within, between, key_between, past_is, figure_is, past_at, figure_at, word_answer, number_answer, key_number_answer}
use Rattle.std.specs.Prelude.{Result, Ok, Err}
use Rattle.units.specs.declared.Fault.{Fault}
use Rattle.units.specs.declared.Fault.TheVariants.{WrongForm, WrongFigure}
use Rattle.fields.proofs.FieldLaws.{fields-behind}

-- a keyword or a number takes the first field: gs is what stands behind it
due-first : (w : List ℕ) (fs : List (List ℕ)) (u : Unit {0}) (gs : List (List ℕ)) → bytes_due w fs ≡ got u gs → (f : List ℕ) × (fs ≡ f ∷ gs)
unfolding bytes_due
due-first w [] u gs h = clash cc
due-first w (f ∷ fs) u gs h = go (same_bytes f w) h
  where
    go : (t : Bool) → cond {A = FieldsGot (Unit {0})} t (got tt fs) (no WrongForm) ≡ got u gs → (x : List ℕ) × (f ∷ fs ≡ x ∷ gs)
    go true h = let k : fs ≡ gs = cc in (f, ap (◌∷◌ f) k)
    go false h = clash cc

within-rest : (low high : ℕ) (o : Option ℕ) (fs : List (List ℕ)) (v : ℕ) (gs : List (List ℕ)) → within low high o fs ≡ got v gs → fs ≡ gs
unfolding within
within-rest low high none fs v gs h = clash cc
within-rest low high (some n) fs v gs h = go (leb low n && leb n high) h
  where
    go : (t : Bool) → cond {A = FieldsGot ℕ} t (got n fs) (no WrongFigure) ≡ got v gs → fs ≡ gs
    go true h = cc
    go false h = clash cc

between_first : (low high : ℕ) (fs : List (List ℕ)) (v : ℕ) (gs : List (List ℕ)) → between low high fs ≡ got v gs → (f : List ℕ) × (fs ≡ f ∷ gs)
unfolding between
between_first low high [] v gs h = clash cc
between_first low high (f ∷ fs) v gs h = (f, ap (◌∷◌ f) (within-rest low high (decimal_of f) fs v gs h))

module _ (l : List ℕ) (at : ℕ) where
  -- what is left behind the first field are the fields behind its end
  due-left : (w : List ℕ) (u : Unit {0}) (gs : List (List ℕ)) → bytes_due w (fields_of (drop at l)) ≡ got u gs → gs ≡ fields_of (drop (field_end l at) l)
  due-left w u gs h = let k = due-first w (fields_of (drop at l)) u gs h in fields-behind l at k.0 gs k.1

  between_left : (low high v : ℕ) (gs : List (List ℕ)) → between low high (fields_of (drop at l)) ≡ got v gs → gs ≡ fields_of (drop (field_end l at) l)
  between_left low high v gs h = let k = between_first low high (fields_of (drop at l)) v gs h in fields-behind l at k.0 gs k.1

-- an answer means what was read where its place is the one behind which the fields are left
past_means : (l : List ℕ) (e : ℕ) (g : FieldsGot (Unit {0})) → ((u : Unit {0}) (gs : List (List ℕ)) → g ≡ got u gs → gs ≡ fields_of (drop e l)) → past_is l (past_at e g) ≡ g
unfolding past_at
past_means l e (no c) h = refl
past_means l e (got u gs) h = ap (got u) (sym (h u gs refl))

figure_means : (l : List ℕ) (e : ℕ) (g : FieldsGot ℕ) → ((v : ℕ) (gs : List (List ℕ)) → g ≡ got v gs → gs ≡ fields_of (drop e l)) → figure_is l (figure_at e g) ≡ g
unfolding figure_at
figure_means l e (no c) h = refl
figure_means l e (got v gs) h = ap (got v) (sym (h v gs refl))

-- what the answers mean
pub word-is : (l : List ℕ) (at : ℕ) (w : List ℕ) {r : Result ℕ Fault} → r ≡ word_answer l at w → past_is l r ≡ bytes_due w (fields_of (drop at l))
unfolding word_answer
word-is l at w h = ap (past_is l) h ∙ past_means l (field_end l at) (bytes_due w (fields_of (drop at l))) (due-left l at w)

pub number_is : (l : List ℕ) (at low high : ℕ) {r : Result (ℕ × ℕ) Fault} → r ≡ number_answer l at low high → figure_is l r ≡ between low high (fields_of (drop at l))
unfolding number_answer
number_is l at low high h = ap (figure_is l) h ∙ figure_means l (field_end l at) (between low high (fields_of (drop at l))) (between_left l at low high)

key_left : (l : List ℕ) (at : ℕ) (w : List ℕ) (low high v : ℕ) (gs : List (List ℕ)) → key_between w low high (fields_of (drop at l)) ≡ got v gs → gs ≡ fields_of (drop (field_end l (field_end l at)) l)
unfolding after
key_left l at w low high v gs h = go (bytes_due w (fields_of (drop at l))) refl h
  where
    go : (g : FieldsGot (Unit {0})) → bytes_due w (fields_of (drop at l)) ≡ g → after g (λ _. between low high) ≡ got v gs → gs ≡ fields_of (drop (field_end l (field_end l at)) l)
    go (no c) e h = clash cc
    go (got u fs) e h = between_left l (field_end l at) low high v gs (ap (between low high) (sym (due-left l at w u fs e)) ∙ h)

pub key-number-is : (l : List ℕ) (at : ℕ) (w : List ℕ) (low high : ℕ) {r : Result (ℕ × ℕ) Fault} → r ≡ key_number_answer l at w low high → figure_is l r ≡ key_between w low high (fields_of (drop at l))
unfolding key_number_answer
key-number-is l at w low high h = ap (figure_is l) h ∙ figure_means l (field_end l (field_end l at)) (key_between w low high (fields_of (drop at l))) (key_left l at w low high)

-- the answer that follows from a refusal, and from a value where the field ends at e
module _ (l : List ℕ) (at : ℕ) where
  pub word-no : (w : List ℕ) (c : Fault) → bytes_due w (fields_of (drop at l)) ≡ no c → Err c ≡ word_answer l at w
  unfolding word_answer past_at
  word-no w c h = rw h

  pub word_got : (w : List ℕ) (e : ℕ) (fs : List (List ℕ)) → field_end l at ≡ e → bytes_due w (fields_of (drop at l)) ≡ got tt fs → Ok e ≡ word_answer l at w
  unfolding word_answer past_at
  word_got w e fs k h = rw (h, k)

  pub number-no : (low high : ℕ) (c : Fault) → between low high (fields_of (drop at l)) ≡ no c → Err c ≡ number_answer l at low high
  unfolding number_answer figure_at
  number-no low high c h = rw h

  pub number-got : (low high v e : ℕ) (fs : List (List ℕ)) → field_end l at ≡ e → between low high (fields_of (drop at l)) ≡ got v fs → Ok (v, e) ≡ number_answer l at low high
  unfolding number_answer figure_at
  number-got low high v e fs k h = rw (h, k)

  -- behind a keyword the answer is that of the number there
  module _ (w : List ℕ) (low high : ℕ) where
    pub key-number-no : (c : Fault) → Err c ≡ word_answer l at w → Err c ≡ key_number_answer l at w low high
    unfolding word_answer key_number_answer past_at figure_at after
    key-number-no c h = go (bytes_due w (fields_of (drop at l))) h
      where
        go : (g : FieldsGot (Unit {0})) → Err c ≡ past_at (field_end l at) g → Err c ≡ figure_at (field_end l (field_end l at)) (after g (λ _. between low high))
        go (no d) h = let k : c ≡ d = cc in ap Err k
        go (got u fs) h = clash cc

    pub key-number-past : (e : ℕ) → Ok e ≡ word_answer l at w → number_answer l e low high ≡ key_number_answer l at w low high
    unfolding word_answer number_answer key_number_answer past_at after
    key-number-past e h = go (bytes_due w (fields_of (drop at l))) refl h
      where
        go : (g : FieldsGot (Unit {0})) → bytes_due w (fields_of (drop at l)) ≡ g → Ok e ≡ past_at (field_end l at) g
            → figure_at (field_end l e) (between low high (fields_of (drop e l))) ≡ figure_at (field_end l (field_end l at)) (after g (λ _. between low high))
        go (no d) q h = clash cc
        go (got u fs) q h = let k : e ≡ field_end l at = cc in rw (due-left l at w u fs q, k)
