-- Laws of the fields of a line: what `next_field` names is the first field at or behind a place, and where it names none there is none;
-- behind the end of that field stand the other fields.
use Prim.Native.Nat.{ℕ, suc, ◌+◌, ◌-◌, ◌≤◌, ◌<◌}
use mathlib.Core.Path.{◌≡◌, refl, sym, ap, ◌∙◌}
use mathlib.Core.Bool.{Bool, true, false, cond, not}
use mathlib.Core.List.{List, [], ◌∷◌}
use native.Mathlib.Omega.{arith}
use borrow.Author.Tests.{ltb-true, ltb-false, not-true, not-false}
use lib.ListN.{length, take, drop, length-drop, drop_of_length-le}
use lib.Dec.{ltb}
use lib.Seq.{drop-drop}
use Rattle.units.proofs.TestLaws.{clash}
use Rattle.fields.specs.Fields.{gap, begins, on_field, fields_of, part, gaps, run, run_end, field_from, next_field, field_end, blank}
use Rattle.std.specs.Prelude.{Option, None, Some}
use Rattle.std.specs.Option.{is_none}
use Rattle.fields.proofs.CountLaws.{run-counts, count_le}

-- the first field at or behind at is the part of s from a to e
pub record FieldIs (s : List ℕ) (at a e : ℕ) : Type 0 where
  pub some : a < e
  pub high : e ≤ length s
  pub is : fields_of (drop at s) ≡ part s a e ∷ fields_of (drop e s)

fields-gaps : (l : List ℕ) → fields_of l ≡ fields_of (drop (gaps l) l)
unfolding fields_of gaps
fields-gaps [] = refl
fields-gaps (b ∷ l) = go (fields-gaps l) (gap b) refl
  where
    go : fields_of l ≡ fields_of (drop (gaps l) l) → (t : Bool) → gap b ≡ t → fields_of (b ∷ l) ≡ fields_of (drop (gaps (b ∷ l)) (b ∷ l))
    go ih true g = simp g ih
    go ih false g = simp g

gaps-begins : (l : List ℕ) → gaps l < length l → begins (drop (gaps l) l) ≡ true
unfolding gaps begins
gaps-begins [] h = absurd (omega arith)
gaps-begins (b ∷ l) h = go (gaps-begins l) (gap b) refl h
  where
    go : (gaps l < length l → begins (drop (gaps l) l) ≡ true) → (t : Bool) → gap b ≡ t → gaps (b ∷ l) < suc (length l) → begins (drop (gaps (b ∷ l)) (b ∷ l)) ≡ true
    go ih true g h = let k : suc (gaps l) < suc (length l) = simp g at h in simp g (ih (omega arith))
    go ih false g h = simp g

run_none : (l : List ℕ) → begins l ≡ false → run l ≡ 0
unfolding begins run
run_none [] h = refl
run_none (b ∷ l) h = simp (not-false (gap b) h)

run-some : (l : List ℕ) → begins l ≡ true → 0 < run l
unfolding begins run
run-some [] h = let z : ◌≡◌ {A = ℕ} 0 1 = cc in omega arith
run-some (b ∷ l) h = simp (not-true (gap b) h) (omega arith)

fields-run : (l : List ℕ) → begins l ≡ true → fields_of l ≡ take (run l) l ∷ fields_of (drop (run l) l)
unfolding begins fields_of on_field run
fields-run [] h = clash cc
fields-run (b ∷ l) h = go (fields-run l) (not-true (gap b) h) (begins l) refl
  where
    go : (begins l ≡ true → fields_of l ≡ take (run l) l ∷ fields_of (drop (run l) l)) → gap b ≡ false → (t : Bool) → begins l ≡ t
        → fields_of (b ∷ l) ≡ take (run (b ∷ l)) (b ∷ l) ∷ fields_of (drop (run (b ∷ l)) (b ∷ l))
    go ih g true e = simp (g, e, ih e)
    go ih g false e = simp (g, e, run_none l e)

-- a place behind the gaps
fields-past : (s : List ℕ) (at a : ℕ) → at + gaps (drop at s) ≡ a → fields_of (drop at s) ≡ fields_of (drop a s)
fields-past s at a h = fields-gaps (drop at s) ∙ rw (drop-drop, h)

past-begins : (s : List ℕ) (at a : ℕ) → at + gaps (drop at s) ≡ a → a < length s → begins (drop a s) ≡ true
past-begins s at a h k =
    let b : begins (drop (gaps (drop at s)) (drop at s)) ≡ true = gaps-begins (drop at s) (simp length-drop (omega arith)) in
    rw (drop-drop, h) at b

field_is : (s : List ℕ) (at a e : ℕ) → at + gaps (drop at s) ≡ a → a < length s → a + run (drop a s) ≡ e → FieldIs s at a e
field_is s at a e h k m =
    let b : begins (drop a s) ≡ true = past-begins s at a h k in
    let r : e - a ≡ run (drop a s) = omega arith in
    record {
      some = omega (arith, run-some (drop a s) b);
      high = omega (arith, count_le run (λ b. not (gap b)) run-counts (drop a s), length-drop a s);
      is = fields-past s at a h ∙ fields-run (drop a s) b ∙ rw (drop-drop, m, r);
    }

pub next_field_lem : (s : List ℕ) (at a e : ℕ) → next_field s at ≡ Some (a, e) → FieldIs s at a e
unfolding next_field field_from
next_field_lem s at a e h = go (at + gaps (drop at s)) refl (ltb (at + gaps (drop at s)) (length s)) refl h
  where
    go : (m : ℕ) → at + gaps (drop at s) ≡ m → (t : Bool) → ltb m (length s) ≡ t → cond {A = Option (ℕ × ℕ)} t (Some (m, m + run (drop m s))) None ≡ Some (a, e) → FieldIs s at a e
    go m p true l q = let k : ◌≡◌ {A = ℕ × ℕ} (m, m + run (drop m s)) (a, e) = cc in let x : m ≡ a = ap (λ r. r.0) k in let y : m + run (drop m s) ≡ e = ap (λ r. r.1) k in rw x at (field_is s at m e p (ltb-true m (length s) l) y)
    go m p false l q = clash cc

pub next-nothing : (s : List ℕ) (at : ℕ) → next_field s at ≡ None → fields_of (drop at s) ≡ []
unfolding next_field field_from fields_of
next-nothing s at h = go (at + gaps (drop at s)) refl (ltb (at + gaps (drop at s)) (length s)) refl h
  where
    go : (m : ℕ) → at + gaps (drop at s) ≡ m → (t : Bool) → ltb m (length s) ≡ t → cond {A = Option (ℕ × ℕ)} t (Some (m, m + run (drop m s))) None ≡ None → fields_of (drop at s) ≡ []
    go m p true l q = clash cc
    go m p false l q = fields-past s at m p ∙ ap fields_of (drop_of_length-le s (ltb-false m (length s) l))

-- the end that `next_field` names is the field's end
pub next-end : (s : List ℕ) (at a e : ℕ) → next_field s at ≡ Some (a, e) → field_end s at ≡ e
unfolding next_field field_from field_end
next-end s at a e h = go (at + gaps (drop at s)) (ltb (at + gaps (drop at s)) (length s)) h
  where
    go : (m : ℕ) (t : Bool) → cond {A = Option (ℕ × ℕ)} t (Some (m, run_end s m)) None ≡ Some (a, e) → run_end s m ≡ e
    go m true q = let k : ◌≡◌ {A = ℕ × ℕ} (m, run_end s m) (a, e) = cc in ap (λ r. r.1) k
    go m false q = clash cc

-- the fields behind the first one are those behind its end
pub fields-behind : (s : List ℕ) (at : ℕ) (f : List ℕ) (fs : List (List ℕ)) → fields_of (drop at s) ≡ f ∷ fs → fs ≡ fields_of (drop (field_end s at) s)
fields-behind s at f fs h = go (next_field s at) refl
  where
    go : (n : Option (ℕ × ℕ)) → next_field s at ≡ n → fs ≡ fields_of (drop (field_end s at) s)
    go (Some (a, e)) q = let k : part s a e ∷ fields_of (drop e s) ≡ f ∷ fs = sym (next_field_lem s at a e q).is ∙ h in rw (next-end s at a e q) (cc)
    go None q = let k = next-nothing s at q in clash cc

-- there is a field where `next_field` names one, and none where it names none
pub none_left : (s : List ℕ) (at : ℕ) (n : Option (ℕ × ℕ)) (t : Bool) → n ≡ next_field s at → t ≡ is_none n → t ≡ blank (fields_of (drop at s))
unfolding blank
none_left s at None t q h = h ∙ sym (ap blank (next-nothing s at (sym q)))
none_left s at (Some (a, e)) t q h = h ∙ sym (ap blank (next_field_lem s at a e (sym q)).is)
