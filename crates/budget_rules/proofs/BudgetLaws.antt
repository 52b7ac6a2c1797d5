-- Laws of the budget (document 02, item 7): a search is finished exactly when it needs no more tries than the budget, and reports as many
-- as it needs; else it reports the budget. "A larger budget never gives a slower plan." Assumes nothing.
use Prim.Native.Nat.{ℕ, suc, ◌+◌, ◌≤◌, ◌<◌, min}
use mathlib.Core.Path.{◌≡◌, refl, sym, ap, ◌∙◌}
use mathlib.Core.Bool.{true, false, false≢true}
use mathlib.Core.Logic.{◌⊎◌, inl, inr}
use native.Mathlib.Omega.{arith}
use native.Mathlib.Nat.{le_trans, eq-or-lt_of_le}
use Rattle.plan_rules.specs.Plans.{Plan}
use Rattle.budget_rules.specs.Tries.{Sought, keep, counted, halted, tried, begin, searched}
use Rattle.budget_rules.specs.Needed.{Trying, free, searched_by, needed}
use Rattle.budget_rules.specs.NoSlower.{NoSlower}
use Rattle.budget_rules.proofs.TryLaws.{Tried, tried_comes, free_comes, tried-lower, no_slower_same, no_slower_trans}
use Rattle.budget_rules.proofs.TryLaws.{keep-tries, keep-stopped, keep_mono, Onward, onward_trans, keep_onward, tried_onward}
use Rattle.budget_rules.proofs.WalkLaws.{Pairs, searched_by_lem, counts_pairs}

-- ---- a search with budget m beside one with more, or with no limit: they are at the same place within m tries, or the first was halted
-- and the other has spent more than m and is no slower
data Beside (m : ℕ) : Sought → Sought → Type 0 where
  same : {s : Sought} → s.stopped ≡ false → s.tries ≤ m → Beside m s s
  past : {s r : Sought} → s.stopped ≡ true → s.tries ≡ m → m < r.tries → NoSlower r.best s.best → Beside m s r

-- the other one goes on
past_onward : {m : ℕ} {s r q : Sought} → s.stopped ≡ true → s.tries ≡ m → m < r.tries → NoSlower r.best s.best → Onward r q
    → Beside m s q
past_onward c h k p o = Beside.past c h (le_trans k o.more) (no_slower_trans o.better p)

module _ (busy : ℕ) {m : ℕ} {due : Type 0} {on on' : Sought → Sought} (both : (s r : Sought) → Beside m s r → Beside m (on s) (on' r))
    (onward : (q : Sought) → Onward q (on' q)) where
  -- from the same place: where the other one is halted, so would the first be before
  same-tried : {s q r : Sought} → s.stopped ≡ false → s.tries ≤ m → Tried m busy (s.tries < m) on s q
      → Tried (suc m) busy due on' s r → Beside m q r
  same-tried c w (Tried.halts h) (Tried.halts k) = let z : ⊥ = omega arith in absurd z
  same-tried {s} c w (Tried.halts h) (Tried.drops k e) =
      let g : m < s.tries + 1 = omega arith in
      let n : s.tries ≡ m = omega arith in
      Beside.past refl n g (no_slower_same s.best)
  same-tried {s} c w (Tried.halts h) (Tried.goes_on k e) =
      let g : m < s.tries + 1 = omega arith in
      let n : s.tries ≡ m = omega arith in
      past_onward {s = halted s} refl n g (no_slower_same s.best) (onward (counted s))
  same-tried c w (Tried.drops h d) (Tried.halts k) = let z : ⊥ = omega arith in absurd z
  same-tried {s} c w (Tried.drops h d) (Tried.drops k e) = let g : s.tries + 1 ≤ m = omega arith in Beside.same c g
  same-tried c w (Tried.drops h d) (Tried.goes_on k e) = absurd (false≢true (sym e ∙ d))
  same-tried c w (Tried.goes_on h d) (Tried.halts k) = let z : ⊥ = omega arith in absurd z
  same-tried c w (Tried.goes_on h d) (Tried.drops k e) = absurd (false≢true (sym d ∙ e))
  same-tried {s} c w (Tried.goes_on h d) (Tried.goes_on k e) =
      let g : s.tries + 1 ≤ m = omega arith in
      both (counted s) (counted s) (Beside.same c g)

  past-tried : {s q r p : Sought} → s.tries ≡ m → m < r.tries → NoSlower r.best s.best → Tried m busy (s.tries < m) on s q
      → Tried (suc m) busy due on' r p → Beside m q p
  past-tried {s} h k n (Tried.halts w) t = past_onward {s = halted s} refl h k n (tried_onward onward t)
  past-tried h k n (Tried.drops w d) t = let z : ⊥ = omega arith in absurd z
  past-tried h k n (Tried.goes_on w d) t = let z : ⊥ = omega arith in absurd z

keep_beside : {m : ℕ} (t : ℕ) (p : Plan) {s r : Sought} → Beside m s r → Beside m (keep s t p) (keep r t p)
keep_beside t p {s} (Beside.same c w) = Beside.same {s = keep s t p} (keep-stopped s t p ∙ c) (rw (keep-tries s t p) w)
keep_beside t p {s} {r} (Beside.past c h k n) =
    Beside.past {s = keep s t p} {r = keep r t p} (keep-stopped s t p ∙ c) (keep-tries s t p ∙ h) (rw (keep-tries r t p) k)
    (keep_mono t p s r n)

-- what is shown of the steps of both
record Steps (m : ℕ) (f g : Sought → Sought) : Type 0 where
  both : (s r : Sought) → Beside m s r → Beside m (f s) (g r)
  onward : (q : Sought) → Onward q (g q)

steps_goes : {m : ℕ} (f f' g g' : Sought → Sought) → Steps m f f' → Steps m g g' → Steps m (λ s. g (f s)) (λ s. g' (f' s))
steps_goes f f' g g' a b = record {
  both = λ s r p. b.both (f s) (f' r) (a.both s r p);
  onward = λ q. onward_trans (a.onward q) (b.onward (f' q));
}

module _ (m : ℕ) (other : Trying) (due : Sought → Type 0)
    (comes : (busy : ℕ) (on : Sought → Sought) (s : Sought) → Tried (suc m) busy (due s) on s (other busy on s)) where
  tries_beside : (busy : ℕ) (on on' : Sought → Sought) → Steps m on on' → (s r : Sought) → Beside m s r
      → Beside m (tried m busy on s) (other busy on' r)
  tries_beside busy on on' a s r (Beside.same c w) = same-tried busy a.both a.onward c w (tried_comes m busy on s) (comes busy on' s)
  tries_beside busy on on' a s r (Beside.past c h k n) =
      past-tried busy a.both a.onward h k n (tried_comes m busy on s) (comes busy on' r)

  steps : Pairs (Steps m) (tried m) other
  steps = record {
    stays = record { both = λ s r p. p; onward = λ q. record { more = omega arith; better = no_slower_same q.best } };
    goes = steps_goes;
    keeps = λ t p. record { both = λ s r. keep_beside t p; onward = keep_onward t p };
    tries = λ busy on on' a. record {
      both = tries_beside busy on on' a;
      onward = λ q. tried_onward a.onward (comes busy on' q);
    };
  }

  search_beside : (time : ℕ → ℕ → ℕ) (W B n : ℕ) → Beside m (searched time W B n m) (searched_by other time W B n)
  search_beside time W B n =
      let z : 0 ≤ m = omega arith in
      rw (searched_by_lem time m W B n)
      ((counts_pairs (Steps m) (tried m) other steps time W n (min B W) 1).both begin begin (Beside.same refl z))

beside_upto : {m : ℕ} {s r : Sought} → Beside m s r → s.tries ≤ m
beside_upto (Beside.same c w) = w
beside_upto (Beside.past c h k n) = omega arith

beside_no_slower : {m : ℕ} {s r : Sought} → Beside m s r → NoSlower r.best s.best
beside_no_slower {s = s} (Beside.same c w) = no_slower_same s.best
beside_no_slower (Beside.past c h k n) = n

beside_same : {m : ℕ} {s r : Sought} → Beside m s r → s.stopped ≡ false → r ≡ s
beside_same (Beside.same c w) f = refl
beside_same (Beside.past c h k n) f = absurd (false≢true (sym f ∙ c))

beside_past : {m : ℕ} {s r : Sought} → Beside m s r → s.stopped ≡ true → (s.tries ≡ m) × (m < r.tries)
beside_past (Beside.same c w) f = absurd (false≢true (sym c ∙ f))
beside_past (Beside.past c h k n) f = (h, k)

beside_within : {m : ℕ} {s r : Sought} → Beside m s r → r.tries ≤ m → s.stopped ≡ false
beside_within (Beside.same c w) g = c
beside_within (Beside.past c h k n) g = let z : ⊥ = omega arith in absurd z

beside_tries : {m : ℕ} {s r : Sought} → Beside m s r → s.tries ≡ min m r.tries
beside_tries (Beside.same c w) = omega arith
beside_tries (Beside.past c h k n) = omega arith

-- ---- the whole search
module _ (time : ℕ → ℕ → ℕ) (W B n budget : ℕ) where
  beside_free : Beside budget (searched time W B n budget) (searched_by free time W B n)
  beside_free = search_beside budget free (λ s. s ≡ s) (λ busy on s. free_comes (suc budget) busy on s) time W B n

  beside_more : (larger : ℕ) → budget < larger → Beside budget (searched time W B n budget) (searched time W B n larger)
  beside_more larger h =
      rw (searched_by_lem time larger W B n)
      (search_beside budget (tried larger) (λ s. s.tries < larger) (λ busy on s. tried-lower h (tried_comes larger busy on s)) time W B n)

  pub tries-within : (searched time W B n budget).tries ≤ budget
  tries-within = beside_upto beside_free

  -- "The reported count equals the tries of this definition": those that are needed, or the budget where that is less
  pub tries-least : (searched time W B n budget).tries ≡ min budget (needed time W B n)
  tries-least = beside_tries beside_free

  -- "unfinished, with the budget as its count"
  pub stopped-tries : (searched time W B n budget).stopped ≡ true → (searched time W B n budget).tries ≡ budget
  stopped-tries e = (beside_past beside_free e).0

  -- "finished [..] exactly when the search needs no more tries than the budget"
  pub finished_needed : (searched time W B n budget).stopped ≡ false → needed time W B n ≤ budget
  finished_needed e = omega (arith, tries-within, ap (λ (s : Sought). s.tries) (beside_same beside_free e))

  pub needed_finished : needed time W B n ≤ budget → (searched time W B n budget).stopped ≡ false
  needed_finished h = beside_within beside_free h

  -- a search that was not stopped is the one with no limit
  pub finished_free : (searched time W B n budget).stopped ≡ false → searched time W B n budget ≡ searched_by free time W B n
  finished_free e = sym (beside_same beside_free e)

  pub finished_tries : (searched time W B n budget).stopped ≡ false → (searched time W B n budget).tries ≡ needed time W B n
  finished_tries e = ap (λ (s : Sought). s.tries) (finished_free e)

  -- "A larger budget never gives a slower plan."
  pub more-no_slower : (larger : ℕ) → budget ≤ larger → NoSlower (searched time W B n larger).best (searched time W B n budget).best
  more-no_slower larger h = pick (eq-or-lt_of_le h)
    where
      pick : (budget ≡ larger) ⊎ (budget < larger) → NoSlower (searched time W B n larger).best (searched time W B n budget).best
      pick (inl e) = rw e (no_slower_same (searched time W B n larger).best)
      pick (inr l) = beside_no_slower (beside_more larger l)

  -- a finished answer is that of every larger budget
  pub finished_same : (larger : ℕ) → budget ≤ larger → (searched time W B n budget).stopped ≡ false
      → searched time W B n larger ≡ searched time W B n budget
  finished_same larger h e = pick (eq-or-lt_of_le h)
    where
      pick : (budget ≡ larger) ⊎ (budget < larger) → searched time W B n larger ≡ searched time W B n budget
      pick (inl f) = ap (λ b. searched time W B n b) (sym f)
      pick (inr l) = beside_same (beside_more larger l) e
