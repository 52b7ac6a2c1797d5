-- The part of a text in which a module's lines stand has these lines' fields, line by line, and no others, wherever they stand together;
-- and it begins and ends with a byte of a field. Assumes nothing.
use Prim.Native.Nat.{ℕ, zero, suc, ◌+◌, ◌-◌, ◌≤◌, ◌<◌}
use native.Mathlib.Omega.{arith}
use mathlib.Core.Path.{◌≡◌, refl, sym, ap, ◌∙◌}
use mathlib.Core.Bool.{Bool, true, false, cond, ◌||◌, true≢false}
use mathlib.Core.List.{List, [], ◌∷◌, ◌++◌, append-nil, append_assoc}
use mathlib.Core.Logic.{◌⊎◌, inl, inr}
use borrow.Author.Tests.{ne_eqb, lt-ltb, ltb-true, ltb-false}
use lib.Dec.{ltb, eqb}
use lib.ListN.{length, take, drop, length-drop, drop_of_length-le}
use lib.Seq.{length-take-le}
use Rattle.units.specs.Places.{all_of, any_of}
use Rattle.units.proofs.TestLaws.{clash, and_both}
use Rattle.fields.specs.Fields.{gaps, fields_of, part}
use Rattle.fields.specs.Lines.{lines_of, line_at}
use Rattle.fields.specs.Readers.{after, bytes_due}
use Rattle.fields.proofs.LineLaws.{LineIs, line-is}
use Rattle.module_part.specs.ModulePart.{last_end, begun, no_part, widened, with_line, part_from, module_part}
use Rattle.module_part.specs.declared.Part.{Part}
use Rattle.module_part.proofs.PartLaws.{last-inside, last-behind, from_end}
use Rattle.text.specs.Describes.{field_lines}
use Rattle.late_changes.specs.Together.{Lines, of_module, Together, Ends}
use Rattle.late_changes.proofs.PartEnds.{part-ends}
use Rattle.late_changes.proofs.TextFields.{kept, text_fields, text-fields}
use Rattle.late_changes.proofs.LineParts.{rest-fields, part-fields, line-fields, begin-fields}

-- tests of all elements and of any

pub any_append : {A : Type 0} (p : A → Bool) (xs ys : List A) → any_of p xs ≡ false → any_of p ys ≡ false → any_of p (xs ++ ys) ≡ false
unfolding any_of
any_append p [] ys h k = k
any_append p (x ∷ xs) ys h k = go (λ e. any_append p xs ys e k) (p x) h
  where
    go : (any_of p xs ≡ false → any_of p (xs ++ ys) ≡ false) → (t : Bool) → (t || any_of p xs) ≡ false → (t || any_of p (xs ++ ys)) ≡ false
    go f true h = h
    go f false h = f h

any_first : {A : Type 0} (p : A → Bool) (x : A) (xs : List A) → any_of p (x ∷ xs) ≡ false → (p x ≡ false) × (any_of p xs ≡ false)
unfolding any_of
any_first p x xs h = go (p x) h
  where
    go : (t : Bool) → (t || any_of p xs) ≡ false → (t ≡ false) × (any_of p xs ≡ false)
    go true h = absurd (true≢false h)
    go false h = (refl, h)

all_first : {A : Type 0} (p : A → Bool) (x : A) (xs : List A) → all_of p (x ∷ xs) ≡ true → (p x ≡ true) × (all_of p xs ≡ true)
unfolding all_of
all_first p x xs h = and_both (p x) (all_of p xs) h

module _ (m : ℕ) (t : List ℕ) where
  -- the fields of the lines from a place on, and of a part
  abbrev left : ℕ → Lines
  left at = text_fields (drop at t)

  abbrev shown : Part → Lines
  shown p = text_fields (part t p.from p.to)

  none_left : (at : ℕ) → length t ≤ at → left at ≡ []
  unfolding lines_of
  none_left at h = ap text_fields (drop_of_length-le t h)

  -- a line is blank, and of no module, or it has fields
  record Blank (fs : List (List ℕ)) : Type 0 where
    none : kept fs ≡ []
    other : of_module m fs ≡ false

  abbrev Some : List (List ℕ) → Type 0
  Some fs = kept fs ≡ fs ∷ []

  blank_or_some : (fs : List (List ℕ)) → Blank fs ⊎ Some fs
  unfolding begun after bytes_due
  blank_or_some [] = inl (record { none = refl; other = refl })
  blank_or_some (f ∷ fs) = inr refl

  with_of : (s : Part) (at : ℕ) (l : List ℕ) → of_module m (fields_of l) ≡ true → with_line m s at l ≡ widened s (at + gaps l) (at + last_end l)
  unfolding with_line
  with_of s at l e = rw e

  with_other : (s : Part) (at : ℕ) (l : List ℕ) → of_module m (fields_of l) ≡ false → with_line m s at l ≡ s
  unfolding with_line
  with_other s at l e = rw e

  -- a line that there is, and the walk over it
  module _ (at : ℕ) (inside : at < length t) where
    abbrev line : List ℕ
    line = part t at (line_at t at).to

    abbrev fields : List (List ℕ)
    fields = fields_of (part t at (line_at t at).to)

    abbrev next : ℕ
    next = (line_at t at).next

    is : LineIs t at (line_at t at).to (line_at t at).next
    is = line-is t at (line_at t at) inside refl

    left-blank : Blank fields → left at ≡ left next
    left-blank b = rest-fields t at inside ∙ ap (λ r. r ++ left next) b.none

    left-some : Some fields → left at ≡ fields ∷ left next
    left-some e = rest-fields t at inside ∙ ap (λ r. r ++ left next) e

    line-some : Some fields → gaps line < last_end line
    line-some e = last-behind line (λ z. clash (none (rw z at e)))
      where
        none : ◌≡◌ {A = Lines} [] ([] ∷ []) → ◌≡◌ {A = ℕ} 0 1
        none k = cc

    line-to : at + last_end line ≤ (line_at t at).to
    line-to =
        let k : (line_at t at).to - at ≤ length (drop at t) = omega (arith, length-drop at t, is.end, is.inside) in
        omega (arith, length-take-le ((line_at t at).to - at) (drop at t) k, last-inside line, is.begin)

    step : (n : ℕ) (s : Part) → part_from (suc n) m t at s ≡ part_from n m t next (with_line m s at line)
    unfolding part_from
    step n s = rw (lt-ltb at (length t) inside)

    pass : (n : ℕ) (s : Part) → of_module m fields ≡ false → part_from (suc n) m t at s ≡ part_from n m t next s
    pass n s e = step n s ∙ ap (part_from n m t next) (with_other s at line e)

    none-line : any_of (of_module m) (left at) ≡ false → (of_module m fields ≡ false) × (any_of (of_module m) (left next) ≡ false)
    none-line h = go (blank_or_some fields)
      where
        go : Blank fields ⊎ Some fields → (of_module m fields ≡ false) × (any_of (of_module m) (left next) ≡ false)
        go (inl b) = (b.other, ap (any_of (of_module m)) (sym (left-blank b)) ∙ h)
        go (inr e) = any_first (of_module m) fields (left next) (ap (any_of (of_module m)) (sym (left-some e)) ∙ h)

    -- where x and more are left, the line is blank or has the fields x
    abbrev First : List (List ℕ) → Lines → Type 0
    First x more = (Blank fields × (left next ≡ x ∷ more)) ⊎ (Some fields × (fields ≡ x) × (left next ≡ more))

    first : (x : List (List ℕ)) (more : Lines) → left at ≡ x ∷ more → First x more
    first x more e = go (blank_or_some fields)
      where
        go : Blank fields ⊎ Some fields → First x more
        go (inl b) = inl (b, sym (left-blank b) ∙ e)
        go (inr k) =
            let q : fields ∷ left next ≡ x ∷ more = sym (left-some k) ∙ e in
            let a : fields ≡ x = cc in
            let c : left next ≡ more = cc in
            inr (k, a, c)

  -- where lines are left there is one
  some-inside : (at : ℕ) (x : List (List ℕ)) (more : Lines) → left at ≡ x ∷ more → at < length t
  some-inside at x more e = go (ltb at (length t)) refl
    where
      go : (u : Bool) → ltb at (length t) ≡ u → at < length t
      go true h = ltb-true at (length t) h
      go false h = let z : x ∷ more ≡ [] = sym e ∙ none_left at (ltb-false at (length t) h) in clash cc

  -- where no line of the module comes any more the part stays
  from-none : (n at : ℕ) (s : Part) → any_of (of_module m) (left at) ≡ false → part_from n m t at s ≡ s
  unfolding part_from
  from-none zero at s h = refl
  from-none (suc n) at s h = go (λ k. from-none n (line_at t at).next s k) (ltb at (length t)) refl
    where
      go : (any_of (of_module m) (left (line_at t at).next) ≡ false → part_from n m t (line_at t at).next s ≡ s) → (u : Bool)
          → ltb at (length t) ≡ u
          → part_from (suc n) m t at s ≡ s
      go f false e = from_end m t at s (ltb-false at (length t) e) (suc n)
      go f true e =
          let i = ltb-true at (length t) e in
          let k = none-line at i h in
          pass at i n s k.0 ∙ f k.1

  -- the part has the lines mid, and a line begins behind it at a place: what stands from there on comes behind them
  record Within (at : ℕ) (s : Part) (mid : Lines) : Type 0 where
    some : 0 < s.to
    has : shown s ≡ mid
    joins : (e : ℕ) → at ≤ e → e ≤ length t → text_fields (part t s.from e) ≡ mid ++ text_fields (part t at e)

  module _ (at : ℕ) (inside : at < length t) (s : Part) (mid : Lines) (w : Within at s mid) where
    abbrev behind : ℕ → Lines
    behind e = text_fields (part t (line_at t at).next e)

    next_joins : (e : ℕ) → (line_at t at).next ≤ e → e ≤ length t
        → text_fields (part t s.from e) ≡ (mid ++ kept (fields at inside)) ++ behind e
    next_joins e h k =
        w.joins e (omega (arith, h, (is at inside).more)) k
        ∙ ap (λ r. mid ++ r) (part-fields t at inside e h k)
        ∙ sym (append_assoc mid (kept (fields at inside)) (behind e))

    blank-within : Blank (fields at inside) → Within (line_at t at).next s mid
    blank-within b =
        let q : mid ++ kept (fields at inside) ≡ mid = ap (λ r. mid ++ r) b.none ∙ append-nil mid in
        record { some = w.some; has = w.has; joins = λ e h k. next_joins e h k ∙ ap (λ r. r ++ behind e) q }

    of_within : of_module m (fields at inside) ≡ true → Some (fields at inside)
        → Within (line_at t at).next (with_line m s at (line at inside)) (mid ++ fields at inside ∷ [])
    of_within o e =
        let l = line at inside in
        let n : eqb s.to 0 ≡ false = ne_eqb s.to 0 (λ z. omega (arith, z, w.some)) in
        let q : with_line m s at l ≡ record { from = s.from; to = at + last_end l } =
        with_of s at l o ∙ ap (λ c. record { from = cond c (at + gaps l) s.from; to = at + last_end l }) n in
        let k : at + last_end l ≤ length t = omega (arith, line-to at inside, (is at inside).end, (is at inside).inside) in
        let j : mid ++ kept (fields at inside) ≡ mid ++ fields at inside ∷ [] = ap (λ r. mid ++ r) e in
        rw q (record {
          some = omega (arith, line-some at inside e);
          has = w.joins (at + last_end l) (omega arith) k ∙ ap (λ r. mid ++ r) (line-fields t at inside ∙ e);
          joins = λ k h i. next_joins k h i ∙ ap (λ r. r ++ behind k) j;
        })

  -- the first line of the module begins the part
  first-within : (at : ℕ) (inside : at < length t) → of_module m (fields at inside) ≡ true → Some (fields at inside)
      → Within (line_at t at).next (with_line m no_part at (line at inside)) (fields at inside ∷ [])
  first-within at inside o e =
      let l = line at inside in
      let g = line-some at inside e in
      let b : at + gaps l ≤ (line_at t at).next = omega (arith, g, line-to at inside, (is at inside).end) in
      rw (with_of no_part at l o) (record {
        some = omega (arith, g);
        has = begin-fields t at inside (at + last_end l) (omega (arith, g)) ∙ line-fields t at inside ∙ e;
        joins = λ k h j.
            begin-fields t at inside k (omega (arith, b, h))
            ∙ part-fields t at inside k h j
            ∙ ap (λ r. r ++ text_fields (part t (line_at t at).next k)) e;
      })

  none_within : (n at : ℕ) (s : Part) (mid : Lines) → Within at s mid → any_of (of_module m) (left at) ≡ false
      → shown (part_from n m t at s) ≡ mid ++ []
  none_within n at s mid w h = ap shown (from-none n at s h) ∙ w.has ∙ sym (append-nil mid)

  -- the lines of the module that come now are put behind those that the part has
  from-within : (n at : ℕ) (s : Part) (mid more behind : Lines) → length t ≤ n + at → Within at s mid → left at ≡ more ++ behind
      → all_of (of_module m) more ≡ true → any_of (of_module m) behind ≡ false → shown (part_from n m t at s) ≡ mid ++ more
  from-within zero at s mid [] behind h w e a b = none_within zero at s mid w (ap (any_of (of_module m)) e ∙ b)
  from-within zero at s mid (x ∷ more) behind h w e a b = let i = some-inside at x (more ++ behind) e in absurd (omega (arith, h, i))
  from-within (suc n) at s mid [] behind h w e a b = none_within (suc n) at s mid w (ap (any_of (of_module m)) e ∙ b)
  from-within (suc n) at s mid (x ∷ more) behind h w e a b =
      let i = some-inside at x (more ++ behind) e in
      let k : length t ≤ n + (line_at t at).next = omega (arith, h, (is at i).more) in
      go i (λ s mid more v d c. from-within n (line_at t at).next s mid more behind k v d c b) (first at i x (more ++ behind) e)
    where
      go : (i : at < length t)
          → ((s : Part) (mid more : Lines) → Within (line_at t at).next s mid → left (line_at t at).next ≡ more ++ behind
          → all_of (of_module m) more ≡ true
          → shown (part_from n m t (line_at t at).next s) ≡ mid ++ more)
          → First at i x (more ++ behind) → shown (part_from (suc n) m t at s) ≡ mid ++ x ∷ more
      go i f (inl (k, l)) = ap shown (pass at i n s k.other) ∙ f s mid (x ∷ more) (blank-within at i s mid w k) l a
      go i f (inr (k, q, l)) =
          let c = all_first (of_module m) x more a in
          let o : of_module m (fields at i) ≡ true = ap (of_module m) q ∙ c.0 in
          ap shown (step at i n s)
          ∙ f (with_line m s at (line at i)) (mid ++ fields at i ∷ []) more (of_within at i s mid w o k) l c.1
          ∙ append_assoc mid (fields at i ∷ []) more
          ∙ ap (λ y. mid ++ y ∷ more) q

  -- the lines before those of the module are passed
  from-before : (n at : ℕ) (before : Lines) (y : List (List ℕ)) (mid behind : Lines) → length t ≤ n + at
      → left at ≡ before ++ (y ∷ mid ++ behind)
      → any_of (of_module m) before ≡ false → all_of (of_module m) (y ∷ mid) ≡ true → any_of (of_module m) behind ≡ false
      → shown (part_from n m t at no_part) ≡ y ∷ mid
  from-before zero at [] y mid behind h e b a c = let i = some-inside at y (mid ++ behind) e in absurd (omega (arith, h, i))
  from-before zero at (x ∷ before) y mid behind h e b a c =
      let i = some-inside at x (before ++ (y ∷ mid ++ behind)) e in absurd (omega (arith, h, i))
  from-before (suc n) at [] y mid behind h e b a c =
      let i = some-inside at y (mid ++ behind) e in
      let k : length t ≤ n + (line_at t at).next = omega (arith, h, (is at i).more) in
      go i k (λ l. from-before n (line_at t at).next [] y mid behind k l b a c) (first at i y (mid ++ behind) e)
    where
      go : (i : at < length t) → length t ≤ n + (line_at t at).next
          → (left (line_at t at).next ≡ y ∷ mid ++ behind → shown (part_from n m t (line_at t at).next no_part) ≡ y ∷ mid)
          → First at i y (mid ++ behind) → shown (part_from (suc n) m t at no_part) ≡ y ∷ mid
      go i j f (inl (k, l)) = ap shown (pass at i n no_part k.other) ∙ f l
      go i j f (inr (k, q, l)) =
          let d = all_first (of_module m) y mid a in
          let o : of_module m (fields at i) ≡ true = ap (of_module m) q ∙ d.0 in
          let s = with_line m no_part at (line at i) in
          ap shown (step at i n no_part)
          ∙ from-within n (line_at t at).next s (fields at i ∷ []) mid behind j (first-within at i o k) l d.1 c
          ∙ ap (λ v. v ∷ mid) q
  from-before (suc n) at (x ∷ before) y mid behind h e b a c =
      let i = some-inside at x (before ++ (y ∷ mid ++ behind)) e in
      let k : length t ≤ n + (line_at t at).next = omega (arith, h, (is at i).more) in
      let d = any_first (of_module m) x before b in
      go i d.0 (λ l. from-before n (line_at t at).next (x ∷ before) y mid behind k l b a c)
      (λ l. from-before n (line_at t at).next before y mid behind k l d.1 a c) (first at i x (before ++ (y ∷ mid ++ behind)) e)
    where
      go : (i : at < length t) → of_module m x ≡ false
          → (left (line_at t at).next ≡ x ∷ before ++ (y ∷ mid ++ behind) → shown (part_from n m t (line_at t at).next no_part) ≡ y ∷ mid)
          → (left (line_at t at).next ≡ before ++ (y ∷ mid ++ behind) → shown (part_from n m t (line_at t at).next no_part) ≡ y ∷ mid)
          → First at i x (before ++ (y ∷ mid ++ behind)) → shown (part_from (suc n) m t at no_part) ≡ y ∷ mid
      go i o f g (inl (k, l)) = ap shown (pass at i n no_part k.other) ∙ f l
      go i o f g (inr (k, q, l)) = ap shown (pass at i n no_part (ap (of_module m) q ∙ o)) ∙ g l

module _ (m : ℕ) (t : List ℕ) where
  -- the part has the fields of the module's lines, line by line
  pub part-lines : (middle : Lines) → Together m (field_lines t) middle
      → field_lines (part t (module_part m t).from (module_part m t).to) ≡ middle
  unfolding module_part
  part-lines [] h = absurd (h.some refl)
  part-lines (y ∷ mid) h =
      text-fields (part t (module_part m t).from (module_part m t).to)
      ∙ from-before m t (length t) 0 h.before y mid h.behind (omega arith) (sym (text-fields t) ∙ h.lines_are)
      h.none_before h.all h.none_behind

  -- and begins and ends with a byte of a field
  pub together-ends : (middle : Lines) → Together m (field_lines t) middle → Ends t (module_part m t)
  unfolding lines_of
  together-ends middle h = go (part-ends m t)
    where
      go : ((module_part m t).to ≡ 0) ⊎ Ends t (module_part m t) → Ends t (module_part m t)
      go (inr e) = e
      go (inl z) =
          let k : (module_part m t).to - (module_part m t).from ≡ 0 = omega (arith, z) in
          absurd (h.some (sym (part-lines middle h) ∙ ap (λ n. field_lines (take n (drop (module_part m t).from t))) k ∙ text-fields []))
