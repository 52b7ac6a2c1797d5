-- Laws of one step of the search: what a try comes to, what a completed placement leaves, and that the best plan is never slower than it
-- was. Assumes nothing.
use Prim.Native.Nat.{ℕ, ◌≤◌, ◌<◌}
use mathlib.Core.Path.{◌≡◌, refl, ap}
use mathlib.Core.Bool.{Bool, true, false, cond, false≢true}
use native.Mathlib.Omega.{arith}
use native.Mathlib.Nat.{le_trans}
use lib.Dec.{ltb}
use borrow.Author.Tests.{ltb-true, ltb-false, leb-true, leb-false}
use Rattle.plan_rules.specs.Plans.{Plan}
use Rattle.budget_rules.specs.Tries.{Best, Sought, reached, keep, counted, halted, tried}
use Rattle.budget_rules.specs.Needed.{free}
use Rattle.budget_rules.specs.NoSlower.{NoSlower}

-- ---- one try: halted with m tries or more spent, dropped, or gone on; `due` is what is known where it is not halted
pub data Tried (m busy : ℕ) (due : Type 0) (on : Sought → Sought) (s : Sought) : Sought → Type 0 where
  halts : m ≤ s.tries → Tried m busy due on s (halted s)
  drops : due → reached s.best busy ≡ true → Tried m busy due on s (counted s)
  goes_on : due → reached s.best busy ≡ false → Tried m busy due on s (on (counted s))

module _ (m busy : ℕ) (on : Sought → Sought) (s : Sought) where
  tried-due : (due : Type 0) → due → (t : Bool) → reached s.best busy ≡ t → Tried m busy due on s (cond t (counted s) (on (counted s)))
  tried-due due d true e = Tried.drops d e
  tried-due due d false e = Tried.goes_on d e

  tried-at : (t : Bool) → ltb s.tries m ≡ t
      → Tried m busy (s.tries < m) on s (cond t (cond (reached s.best busy) (counted s) (on (counted s))) (halted s))
  tried-at true e = tried-due (s.tries < m) (ltb-true s.tries m e) (reached s.best busy) refl
  tried-at false e = Tried.halts (ltb-false s.tries m e)

  pub tried_comes : Tried m busy (s.tries < m) on s (tried m busy on s)
  tried_comes = tried-at (ltb s.tries m) refl

  -- it is never halted, so m may be any number and nothing is known
  pub free_comes : Tried m busy (s ≡ s) on s (free busy on s)
  free_comes = tried-due (s ≡ s) refl (reached s.best busy) refl

-- ---- no slower, and known
pub unknown_not : {t : ℕ} {p : Plan} → Best.unknown ≡ Best.known t p → ⊥
unknown_not e = false≢true (ap is_known e)
  where
    is_known : Best → Bool
    is_known Best.unknown = false
    is_known (Best.known t p) = true

pub no_slower_same : (b : Best) → NoSlower b b
no_slower_same Best.unknown = NoSlower.to_unknown
no_slower_same (Best.known t p) = let h : t ≤ t = omega arith in NoSlower.times h

pub no_slower_trans : {a b c : Best} → NoSlower a b → NoSlower b c → NoSlower a c
no_slower_trans p NoSlower.to_unknown = NoSlower.to_unknown
no_slower_trans (NoSlower.times h) (NoSlower.times k) = NoSlower.times (le_trans h k)

-- ---- a completed placement
module _ (s : Sought) (t : ℕ) (p : Plan) where
  abbrev kept_as : Bool → Sought
  kept_as r = cond r s (record { best = Best.known t p; stopped = s.stopped; tries = s.tries })

  keep-tries-at : (r : Bool) → (kept_as r).tries ≡ s.tries
  keep-tries-at true = refl
  keep-tries-at false = refl

  keep-stopped-at : (r : Bool) → (kept_as r).stopped ≡ s.stopped
  keep-stopped-at true = refl
  keep-stopped-at false = refl

  pub keep-tries : (keep s t p).tries ≡ s.tries
  keep-tries = keep-tries-at (reached s.best t)

  pub keep-stopped : (keep s t p).stopped ≡ s.stopped
  keep-stopped = keep-stopped-at (reached s.best t)

  keep-best-at : (r : Bool) → (kept_as r).best ≡ cond r s.best (Best.known t p)
  keep-best-at true = refl
  keep-best-at false = refl

  pub keep-best : (keep s t p).best ≡ cond (reached s.best t) s.best (Best.known t p)
  keep-best = keep-best-at (reached s.best t)

-- what is kept is no slower than what was known, nor than the placement
module _ (t : ℕ) (p : Plan) where
  kept_both : (b : Best) (r : Bool) → reached b t ≡ r
      → NoSlower (cond r b (Best.known t p)) b × NoSlower (cond r b (Best.known t p)) (Best.known t p)
  unfolding reached
  kept_both Best.unknown true e = absurd (false≢true e)
  kept_both (Best.known u q) true e = (no_slower_same (Best.known u q), NoSlower.times (leb-true u t e))
  kept_both Best.unknown false e = (NoSlower.to_unknown, no_slower_same (Best.known t p))
  kept_both (Best.known u q) false e =
      let g = leb-false u t e in
      let h : t ≤ u = omega arith in
      (NoSlower.times h, no_slower_same (Best.known t p))

  kept-least : {a : Best} (b : Best) (r : Bool) → NoSlower a b → NoSlower a (Best.known t p) → NoSlower a (cond r b (Best.known t p))
  kept-least b true k l = k
  kept-least b false k l = l

  pub keep-better : (s : Sought) → NoSlower (keep s t p).best s.best
  keep-better s = rw (keep-best s t p) (kept_both s.best (reached s.best t) refl).0

  pub keep_mono : (s r : Sought) → NoSlower r.best s.best → NoSlower (keep r t p).best (keep s t p).best
  keep_mono s r k =
      let u = kept_both r.best (reached r.best t) refl in
      rw (keep-best s t p, keep-best r t p) (kept-least s.best (reached s.best t) (no_slower_trans u.0 k) u.1)

-- ---- what a step leaves: no fewer tries, and a best plan that is no slower
pub record Onward (s r : Sought) : Type 0 where
  pub more : s.tries ≤ r.tries
  pub better : NoSlower r.best s.best

pub onward_trans : {s r q : Sought} → Onward s r → Onward r q → Onward s q
onward_trans a b = record { more = le_trans a.more b.more; better = no_slower_trans b.better a.better }

pub keep_onward : (t : ℕ) (p : Plan) (s : Sought) → Onward s (keep s t p)
keep_onward t p s = record { more = omega (arith, keep-tries s t p); better = keep-better t p s }

pub tried_onward : {m busy : ℕ} {due : Type 0} {on : Sought → Sought} {s r : Sought} → ((q : Sought) → Onward q (on q))
    → Tried m busy due on s r → Onward s r
tried_onward {s = s} h (Tried.halts k) = record { more = omega arith; better = no_slower_same s.best }
tried_onward {s = s} h (Tried.drops k e) = record { more = omega arith; better = no_slower_same s.best }
tried_onward {s = s} h (Tried.goes_on k e) = onward_trans (record { more = omega arith; better = no_slower_same s.best }) (h (counted s))

-- halted with m' tries or more spent, or with fewer
pub tried-lower : {m m' busy : ℕ} {due : Type 0} {on : Sought → Sought} {s r : Sought} → m ≤ m' → Tried m' busy due on s r
    → Tried m busy due on s r
tried-lower h (Tried.halts k) = Tried.halts (le_trans h k)
tried-lower h (Tried.drops k e) = Tried.drops k e
tried-lower h (Tried.goes_on k e) = Tried.goes_on k e
