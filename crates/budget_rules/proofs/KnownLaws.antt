-- "the best plan met, which exists exactly when the budget is at least the number of planned modules" (document 02, item 7). Assumes
-- nothing.
use Prim.Native.Nat.{ℕ, zero, suc, ◌+◌, ◌-◌, ◌≤◌, ◌<◌, min}
use mathlib.Core.Path.{◌≡◌, refl, sym, ◌∙◌}
use mathlib.Core.Bool.{Bool, true, false, false≢true}
use mathlib.Core.List.{List, [], ◌∷◌, ◌++◌}
use native.Mathlib.Omega.{arith}
use lib.ListN.{length, set, replicate}
use lib.Dec.{ltb}
use borrow.Author.Tests.{ltb-true, ltb-false, lt-ltb}
use Rattle.plan_rules.specs.Plans.{Plan, largest}
use Rattle.plan_rules.specs.Listed.{plan, width_lists}
use Rattle.plan_rules.proofs.ListedLaws.{width_lists-one}
use Rattle.budget_rules.specs.Tries.{Best, Sought, reached, counted, each, busy_with, tried, begin, searched}
use Rattle.budget_rules.specs.Needed.{placed_by, lists_by, counts_by}
use Rattle.budget_rules.specs.NoSlower.{NoSlower}
use Rattle.budget_rules.proofs.TryLaws.{Tried, tried_comes, unknown_not, no_slower_same}
use Rattle.budget_rules.proofs.TryLaws.{Onward, onward_trans, keep_onward, tried_onward}
use Rattle.budget_rules.proofs.WalkLaws.{on_from, try_of, Pairs, searched_by_lem, counts_pairs}

-- something is known
Known : Best → Type 0
Known b = (t : ℕ) × (p : Plan) × (b ≡ Best.known t p)

known_onward : {a b : Best} → NoSlower a b → Known b → Known a
unfolding Known
known_onward NoSlower.to_unknown k = absurd (unknown_not k.2)
known_onward (NoSlower.times {t} {p = p} h) k = (t, p, refl)

module _ (time : ℕ → ℕ → ℕ) (budget : ℕ) where
  -- ---- enough tries: on one bus every module has its try, and while no plan is known none is dropped
  placed_one : (w k i : ℕ) (l bs : List ℕ) (s : Sought) → s.best ≡ Best.unknown → s.tries + k ≤ budget
      → Known (placed_by (tried budget) time (w ∷ []) k i l bs s).best
  unfolding placed_by each reached Known
  placed_one w zero i l bs s e h = rw e (largest l, plan (w ∷ []) bs, refl)
  placed_one w (suc k) i l bs s e h =
      let d : s.tries < budget = omega arith in
      let f : reached s.best (busy_with time (w ∷ []) i l 0) ≡ false = rw e refl in
      rw (lt-ltb s.tries budget d, f)
      (placed_one w k (i + 1) (set l 0 (busy_with time (w ∷ []) i l 0)) (bs ++ 1 ∷ []) (counted s) e (omega arith))

  abbrev GoesOn : (Sought → Sought) → (Sought → Sought) → Type 0
  GoesOn f g = (q : Sought) → Onward q (g q)

  goes_on : Pairs GoesOn (tried budget) (tried budget)
  goes_on = record {
    stays = λ q. record { more = omega arith; better = no_slower_same q.best };
    goes = λ f f' g g' a b q. onward_trans (a q) (b (f' q));
    keeps = keep_onward;
    tries = λ busy on on' a q. tried_onward a (tried_comes budget busy on' q);
  }

  -- ---- too few: with k modules to place, the budget is spent before the last of them has its try
  record Short (k : ℕ) (s : Sought) : Type 0 where
    none : s.best ≡ Best.unknown
    within : s.tries ≤ budget
    short : budget < s.tries + k

  each-short : (k : ℕ) (f : ℕ → Sought → Sought) → ((b : ℕ) (s : Sought) → Short k s → Short k (f b s)) → (j b : ℕ) (s : Sought) → Short k s
      → Short k (each j b f s)
  unfolding each
  each-short k f h zero b s r = r
  each-short k f h (suc j) b s r = each-short k f h j (b + 1) (f b s) (h b s r)

  tried-short : {k busy : ℕ} {on : Sought → Sought} {s q : Sought} → ((r : Sought) → Short k r → Short k (on r)) → Short (suc k) s
      → Tried budget busy (s.tries < budget) on s q → Short (suc k) q
  unfolding reached
  tried-short h r (Tried.halts d) = record { none = r.none; within = r.within; short = r.short }
  tried-short h r (Tried.drops d e) = absurd (false≢true (rw r.none at e))
  tried-short {s = s} h r (Tried.goes_on d e) =
      let a = h (counted s) (record { none = r.none; within = omega arith; short = omega (arith, r.short) }) in
      record { none = a.none; within = a.within; short = omega (arith, a.short) }

  placed-short : (ws : List ℕ) (k i : ℕ) (l bs : List ℕ) (s : Sought) → Short k s → Short k (placed_by (tried budget) time ws k i l bs s)
  unfolding placed_by
  placed-short ws zero i l bs s r = let z : ⊥ = omega (arith, r.within, r.short) in absurd z
  placed-short ws (suc k) i l bs s r =
      each-short (suc k) (try_of (tried budget) time ws k i l bs)
      (λ b q a.
      tried-short (placed-short ws k (i + 1) (set l b (busy_with time ws i l b)) (bs ++ (b + 1) ∷ [])) a
      (tried_comes budget (busy_with time ws i l b) (on_from (tried budget) time ws k i l bs b) q))
      (length ws) 0 s r

  lists_short : (n : ℕ) (wss : List (List ℕ)) (s : Sought) → Short n s → Short n (lists_by (tried budget) time n wss s)
  unfolding lists_by
  lists_short n [] s r = r
  lists_short n (ws ∷ wss) s r =
      lists_short n wss (placed_by (tried budget) time ws n 0 (replicate (length ws) 0) [] s)
      (placed-short ws n 0 (replicate (length ws) 0) [] s r)

  counts-short : (W n k c : ℕ) (s : Sought) → Short n s → Short n (counts_by (tried budget) time W n k c s)
  unfolding counts_by
  counts-short W n zero c s r = r
  counts-short W n (suc k) c s r =
      counts-short W n k (suc c) (lists_by (tried budget) time n (width_lists c 1 W) s) (lists_short n (width_lists c 1 W) s r)

  -- ---- the whole search
  module _ (W B n : ℕ) where
    -- the first list of widths has one bus
    first-known : (m : ℕ) (wss : List (List ℕ)) → wss ≡ (W ∷ []) ∷ [] → n ≤ budget
        → Known (counts_by (tried budget) time W n m 2 (lists_by (tried budget) time n wss begin)).best
    unfolding lists_by
    first-known m wss e k =
        let s = placed_by (tried budget) time (W ∷ []) n 0 (replicate 1 0) [] begin in
        rw e
        (known_onward (counts_pairs GoesOn (tried budget) (tried budget) goes_on time W n m 2 s).better
        (placed_one W n 0 (replicate 1 0) [] begin refl (omega arith)))

    counts-known : (m : ℕ) → 1 ≤ W → n ≤ budget → Known (counts_by (tried budget) time W n (suc m) 1 begin).best
    unfolding counts_by
    counts-known m h k = first-known m (width_lists 1 1 W) (width_lists-one W h) k

    pub enough_known : 1 ≤ W → 1 ≤ B → n ≤ budget → (t : ℕ) × (p : Plan) × ((searched time W B n budget).best ≡ Best.known t p)
    unfolding Known
    enough_known h j k =
        let e : min B W ≡ suc (min B W - 1) = omega arith in
        rw (searched_by_lem time budget W B n, e) (counts-known (min B W - 1) h k)

    pub known_enough : (t : ℕ) (p : Plan) → (searched time W B n budget).best ≡ Best.known t p → n ≤ budget
    known_enough t p e = pick (ltb budget n) refl
      where
        pick : (b : Bool) → ltb budget n ≡ b → n ≤ budget
        pick true f =
            let r : Short n begin = record { none = refl; within = omega arith; short = omega (arith, ltb-true budget n f) } in
            let u = rw (← searched_by_lem time budget W B n) at (counts-short W n (min B W) 1 begin r).none in
            absurd (unknown_not (sym u ∙ e))
        pick false f = ltb-false budget n f
