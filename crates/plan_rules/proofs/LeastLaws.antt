-- `first_least` and `first_of` give the first element of least time, for any time and any list of plans. Assumes nothing.
use Prim.Native.Nat.{ℕ, ◌≤◌, ◌<◌}
use mathlib.Core.Path.{◌≡◌, refl, sym, ap, ◌∙◌}
use mathlib.Core.Bool.{Bool, true, false, cond}
use mathlib.Core.Logic.{◌⊎◌, inl, inr, ⊎_elim}
use mathlib.Core.List.Memᴰ
use mathlib.Core.List.{List, [], ◌∷◌, Memᴰ}
use native.Mathlib.Omega.{arith}
use lib.Dec.{ltb}
use borrow.Author.Tests.{ltb-true, ltb-false}
use Rattle.plan_rules.specs.Plans.{Plan}
use Rattle.plan_rules.specs.Listed.{first_least, first_of}
use Rattle.plan_rules.proofs.ListLaws.{Sorted, more}

-- x stands in the list, and y at a later place
pub data Later {A : Type 0} (x y : A) : List A → Type 0 where
  here : {z : A} {zs : List A} → x ≡ z → Memᴰ y zs → Later x y (z ∷ zs)
  behind : {z : A} {zs : List A} → Later x y zs → Later x y (z ∷ zs)

pub sorted_later : {A : Type 0} (R : A → A → Type 0) (x y : A) (zs : List A) → Sorted R zs → Later x y zs → R x y
sorted_later R x y [] s l = elim l [ ]
sorted_later R x y (z ∷ zs) (more h s) (here e m) = rw e (h y m)
sorted_later R x y (z ∷ zs) (more h s) (behind l) = sorted_later R x y zs s l

later_more : {A : Type 0} {x y p q : A} {zs : List A} → Later x y (p ∷ zs) → Later x y (p ∷ q ∷ zs)
later_more (here e m) = here e (Memᴰ.tail m)
later_more (behind l) = behind (behind l)

-- r is an element of the list, no element takes less time, and every element of the same time is r or stands later
pub record Least (time : Plan → ℕ) (ps : List Plan) (r : Plan) : Type 0 where
  pub listed : Memᴰ r ps
  pub least : (q : Plan) → Memᴰ q ps → time r ≤ time q
  pub first : (q : Plan) → Memᴰ q ps → time q ≡ time r → (q ≡ r) ⊎ Later r q ps

module _ (time : Plan → ℕ) where
  least-one : (p : Plan) → Least time (p ∷ []) p
  least-one p = record {
    listed = Memᴰ.head refl;
    least = λ q m. ⊎_elim (λ e. rw e (omega arith)) (λ n. absurd (Memᴰ.not-nil n)) (Memᴰ.cases_cons m);
    first = λ q m e. ⊎_elim inl (λ n. absurd (Memᴰ.not-nil n)) (Memᴰ.cases_cons m);
  }

  -- a better one stands behind p
  least-better : (p q r : Plan) (qs : List Plan) → time q < time p → Least time (q ∷ qs) r → Least time (p ∷ q ∷ qs) r
  least-better p q r qs h l =
      let k = l.least q (Memᴰ.head refl) in
      record {
        listed = Memᴰ.tail l.listed;
        least = λ s m. ⊎_elim (λ e. rw e (omega arith)) (l.least s) (Memᴰ.cases_cons m);
        first = λ s m e. ⊎_elim (λ f. absurd (omega (arith, ap time f))) (λ n. ⊎_elim inl (λ f. inr (behind f)) (l.first s n e)) (Memᴰ.cases_cons m);
      }

  -- q is no better than p
  least-no-better : (p q r : Plan) (qs : List Plan) → time p ≤ time q → (time p ≤ time r → r ≡ p) → Least time (p ∷ qs) r
      → Least time (p ∷ q ∷ qs) r
  least-no-better p q r qs h s l =
      let k = l.least p (Memᴰ.head refl) in
      record {
        listed = ⊎_elim Memᴰ.head (λ m. Memᴰ.tail (Memᴰ.tail m)) (Memᴰ.cases_cons l.listed);
        least = λ t m. ⊎_elim (λ e. rw e k) (λ n. ⊎_elim (λ e. rw e (omega arith)) (λ o. l.least t (Memᴰ.tail o)) (Memᴰ.cases_cons n)) (Memᴰ.cases_cons m);
        first = λ t m e. ⊎_elim
            (λ f. inl (f ∙ sym (s (omega (arith, e, ap time f)))))
            (λ n. ⊎_elim
            (λ f. inr (here (s (omega (arith, e, ap time f))) (Memᴰ.head f)))
            (λ o. ⊎_elim inl (λ a. inr (later_more a)) (l.first t (Memᴰ.tail o) e))
            (Memᴰ.cases_cons n))
            (Memᴰ.cases_cons m);
      }

  pub least_le : (p : Plan) (qs : List Plan) → time (first_least time p qs) ≤ time p
  unfolding first_least
  least_le p [] = omega arith
  least_le p (q ∷ qs) = pick (least_le q qs) (least_le p qs) (ltb (time q) (time p)) refl
    where
      pick : time (first_least time q qs) ≤ time q → time (first_least time p qs) ≤ time p → (t : Bool) → ltb (time q) (time p) ≡ t
          → time (cond t (first_least time q qs) (first_least time p qs)) ≤ time p
      pick a b true e = omega (arith, ltb-true (time q) (time p) e)
      pick a b false e = b

  -- where nothing is better than p, it is p
  pub least-same : (p : Plan) (qs : List Plan) → time p ≤ time (first_least time p qs) → first_least time p qs ≡ p
  unfolding first_least
  least-same p [] h = refl
  least-same p (q ∷ qs) h = pick (least-same p qs) (ltb (time q) (time p)) refl h
    where
      pick : (time p ≤ time (first_least time p qs) → first_least time p qs ≡ p) → (t : Bool) → ltb (time q) (time p) ≡ t
          → time p ≤ time (cond t (first_least time q qs) (first_least time p qs))
          → cond t (first_least time q qs) (first_least time p qs) ≡ p
      pick ih true e k = absurd (omega (arith, ltb-true (time q) (time p) e, least_le q qs))
      pick ih false e k = ih k

  pub least-is : (p : Plan) (qs : List Plan) → Least time (p ∷ qs) (first_least time p qs)
  unfolding first_least
  least-is p [] = least-one p
  least-is p (q ∷ qs) = pick (least-is q qs) (least-is p qs) (ltb (time q) (time p)) refl
    where
      pick : Least time (q ∷ qs) (first_least time q qs) → Least time (p ∷ qs) (first_least time p qs) → (t : Bool)
          → ltb (time q) (time p) ≡ t
          → Least time (p ∷ q ∷ qs) (cond t (first_least time q qs) (first_least time p qs))
      pick a b true e = least-better p q (first_least time q qs) qs (ltb-true (time q) (time p) e) a
      pick a b false e = least-no-better p q (first_least time p qs) qs (ltb-false (time q) (time p) e) (least-same p qs) b

  -- of a list with an element
  pub first-is : (ps : List Plan) (p : Plan) → Memᴰ p ps → Least time ps (first_of time ps)
  unfolding first_of
  first-is [] p m = absurd (Memᴰ.not-nil m)
  first-is (q ∷ qs) p m = least-is q qs
