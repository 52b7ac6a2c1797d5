-- What the search finds (document 02, item 7): a finished one answers "with demand 3 in full", and what any one knows is a plan with its
-- time. Nothing is lost by the tries that are dropped. Assumes nothing.
use Prim.Native.Nat.{ℕ, ◌-◌, ◌≤◌, ◌<◌, min}
use mathlib.Core.Path.{◌≡◌, refl, sym, ap, ◌∙◌}
use mathlib.Core.Bool.{Bool, true, false, cond, false≢true}
use mathlib.Core.Logic.{◌⊎◌, inl, inr}
use mathlib.Core.List.Memᴰ
use mathlib.Core.List.{List, [], ◌∷◌, ◌++◌, Memᴰ}
use native.Mathlib.Omega.{arith}
use lib.ListN.{replicate}
use lib.Dec.{leb, ltb}
use borrow.Author.Tests.{ltb-true, ltb-false, leb-true, le-leb, lt-leb}
use Rattle.plan_rules.specs.Plans.{Plan, IsPlan, time_of}
use Rattle.plan_rules.specs.Listed.{upward, width_lists, plan, plans_on, plans, first_least, first_of, best_of, best_plan}
use Rattle.plan_rules.specs.First.{IsFirst}
use Rattle.plan_rules.proofs.ListedLaws.{sound, some}
use Rattle.plan_rules.proofs.Demand.{best-first}
use Rattle.budget_rules.specs.Tries.{Best, Sought, reached, keep, counted, tried, begin, searched}
use Rattle.budget_rules.specs.Needed.{free, searched_by}
use Rattle.budget_rules.proofs.TryLaws.{Tried, tried_comes, keep-best, unknown_not}
use Rattle.budget_rules.proofs.WalkLaws.{Walks, searched_by_lem, plans_walks}
use Rattle.budget_rules.proofs.BudgetLaws.{finished_free}

-- ---- plans met one behind the other, none dropped
module _ (time : Plan → ℕ) where
  met_after : Best → List Plan → Best
  met_after b [] = b
  met_after b (p ∷ ps) = met_after (cond (reached b (time p)) b (Best.known (time p) p)) ps

  met_append : (b : Best) (ps qs : List Plan) → met_after b (ps ++ qs) ≡ met_after (met_after b ps) qs
  unfolding met_after
  met_append b [] qs = refl
  met_append b (p ∷ ps) qs = met_append (cond (reached b (time p)) b (Best.known (time p) p)) ps qs

  -- plans that are no better than the best may be left out
  met_none : (b : Best) (ps : List Plan) → ((p : Plan) → Memᴰ p ps → reached b (time p) ≡ true) → met_after b ps ≡ b
  unfolding met_after
  met_none b [] h = refl
  met_none b (p ∷ ps) h = rw (h p (Memᴰ.head refl)) (met_none b ps (λ q m. h q (Memᴰ.tail m)))

  -- behind a plan they leave the first of least time
  met_first : (p : Plan) (qs : List Plan)
      → met_after (Best.known (time p) p) qs ≡ Best.known (time (first_least time p qs)) (first_least time p qs)
  unfolding met_after reached first_least
  met_first p [] = refl
  met_first p (q ∷ qs) = pick (met_first p qs) (met_first q qs) (ltb (time q) (time p)) refl
    where
      pick : met_after (Best.known (time p) p) qs ≡ Best.known (time (first_least time p qs)) (first_least time p qs)
          → met_after (Best.known (time q) q) qs ≡ Best.known (time (first_least time q qs)) (first_least time q qs)
          → (t : Bool) → ltb (time q) (time p) ≡ t
          → met_after (cond (leb (time p) (time q)) (Best.known (time p) p) (Best.known (time q) q)) qs
          ≡ Best.known (time (cond t (first_least time q qs) (first_least time p qs))) (cond t (first_least time q qs) (first_least time p qs))
      pick a b true e = rw (lt-leb (time p) (time q) (ltb-true (time q) (time p) e)) b
      pick a b false e = rw (le-leb (time p) (time q) (ltb-false (time q) (time p) e)) a

-- a best time that is no higher than a busy figure is no higher than what takes longer
reached-more : (b : Best) (t u : ℕ) → reached b t ≡ true → t ≤ u → reached b u ≡ true
unfolding reached
reached-more Best.unknown t u e h = absurd (false≢true e)
reached-more (Best.known best p) t u e h = le-leb best u (omega (arith, leb-true best t e))

-- ---- with no limit: the search leaves what the plans leave
module _ (time : Plan → ℕ) where
  -- a step leaves what its plans leave
  Meets : (Sought → Sought) → List Plan → Type 0
  Meets f ps = (s : Sought) → (f s).best ≡ met_after time s.best ps

  free_walks : Walks Meets free time
  unfolding Meets met_after
  free_walks = record {
    stays = λ s. refl;
    goes = λ f g ps qs a b s. b (f s) ∙ rw (a s) (sym (met_append time s.best ps qs));
    keeps = λ p s. keep-best s (time p) p;
    tries = λ busy on ps h a s. pick busy on ps h a s (reached s.best busy) refl;
  }
    where
      pick : (busy : ℕ) (on : Sought → Sought) (ps : List Plan) → ((p : Plan) → Memᴰ p ps → busy ≤ time p)
          → ((s : Sought) → (on s).best ≡ met_after time s.best ps) → (s : Sought) (t : Bool) → reached s.best busy ≡ t
          → (cond t (counted s) (on (counted s))).best ≡ met_after time s.best ps
      pick busy on ps h a s true e = sym (met_none time s.best ps (λ p m. reached-more s.best busy (time p) e (h p m)))
      pick busy on ps h a s false e = a (counted s)

-- ---- with a budget: what is known was known before, or is one of the plans with its time
module _ (time : Plan → ℕ) where
  Finds : (Sought → Sought) → List Plan → Type 0
  Finds f ps = (s : Sought) → ((f s).best ≡ s.best) ⊎ ((p : Plan) × Memᴰ p ps × ((f s).best ≡ Best.known (time p) p))

  finds_goes : (f g : Sought → Sought) (ps qs : List Plan) → Finds f ps → Finds g qs → Finds (λ s. g (f s)) (ps ++ qs)
  unfolding Finds
  finds_goes f g ps qs a b s = pick (a s) (b (f s))
    where
      pick : ((f s).best ≡ s.best) ⊎ ((p : Plan) × Memᴰ p ps × ((f s).best ≡ Best.known (time p) p))
          → ((g (f s)).best ≡ (f s).best) ⊎ ((p : Plan) × Memᴰ p qs × ((g (f s)).best ≡ Best.known (time p) p))
          → ((g (f s)).best ≡ s.best) ⊎ ((p : Plan) × Memᴰ p (ps ++ qs) × ((g (f s)).best ≡ Best.known (time p) p))
      pick (inl u) (inl v) = inl (v ∙ u)
      pick (inr u) (inl v) = inr (u.0, Memᴰ.append_left qs u.1, v ∙ u.2)
      pick u (inr v) = inr (v.0, Memᴰ.append_right ps v.1, v.2)

  finds_keeps : (p : Plan) → Finds (λ s. keep s (time p) p) (p ∷ [])
  unfolding Finds
  finds_keeps p s = pick (reached s.best (time p)) (keep-best s (time p) p)
    where
      pick : (t : Bool) → (keep s (time p) p).best ≡ cond t s.best (Best.known (time p) p)
          → ((keep s (time p) p).best ≡ s.best) ⊎ ((q : Plan) × Memᴰ q (p ∷ []) × ((keep s (time p) p).best ≡ Best.known (time q) q))
      pick true e = inl e
      pick false e = inr (p, Memᴰ.head refl, e)

  finds_tries : {budget busy : ℕ} {on : Sought → Sought} {ps : List Plan} {s r : Sought} → Finds on ps
      → Tried budget busy (s.tries < budget) on s r
      → (r.best ≡ s.best) ⊎ ((p : Plan) × Memᴰ p ps × (r.best ≡ Best.known (time p) p))
  unfolding Finds
  finds_tries a (Tried.halts h) = inl refl
  finds_tries a (Tried.drops h e) = inl refl
  finds_tries {s = s} a (Tried.goes_on h e) = a (counted s)

  tried_walks : (budget : ℕ) → Walks Finds (tried budget) time
  unfolding Finds
  tried_walks budget = record {
    stays = λ s. inl refl;
    goes = finds_goes;
    keeps = finds_keeps;
    tries = λ busy on ps h a s. finds_tries a (tried_comes budget busy on s);
  }

-- ---- the whole search
-- what is known, where something is
time_in : Best → ℕ
time_in Best.unknown = 0
time_in (Best.known t p) = t

plan_in : Best → Plan
plan_in Best.unknown = plan [] []
plan_in (Best.known t p) = p

module _ (time : ℕ → ℕ → ℕ) (W B n : ℕ) where
  first_met : (ps : List Plan) (p : Plan) (qs : List Plan) → ps ≡ p ∷ qs
      → met_after (time_of time) Best.unknown ps ≡ Best.known (time_of time (first_of (time_of time) ps)) (first_of (time_of time) ps)
  unfolding met_after reached first_of
  first_met ps p qs e = rw e (met_first (time_of time) p qs)

  pub free-best : 1 ≤ W → 1 ≤ B
      → (searched_by free time W B n).best ≡ Best.known (time_of time (best_plan time W B n)) (best_plan time W B n)
  unfolding Meets best_of
  free-best h k =
      plans_walks (Meets (time_of time)) free time (free_walks (time_of time)) W B n begin
      ∙ first_met (plans W B n) (plan (W ∷ []) (replicate n 1)) (upward (min B W - 1) 2 (λ c. plans_on n c (width_lists c 1 W)))
      (some W B n h k)

  -- finished, "with demand 3 in full": the first plan of least time is known
  pub finished_best : (budget : ℕ) → 1 ≤ W → 1 ≤ B → (searched time W B n budget).stopped ≡ false
      → (searched time W B n budget).best ≡ Best.known (time_of time (best_plan time W B n)) (best_plan time W B n)
  finished_best budget h k e = ap (λ (s : Sought). s.best) (finished_free time W B n budget e) ∙ free-best h k

  pub finished_first : (budget t : ℕ) (p : Plan) → 1 ≤ W → 1 ≤ B → (searched time W B n budget).stopped ≡ false
      → (searched time W B n budget).best ≡ Best.known t p → IsFirst (time_of time) W B n p
  unfolding plan_in
  finished_first budget t p h k e f =
      let g : p ≡ best_plan time W B n = ap plan_in (sym f ∙ finished_best budget h k e) in
      rw g (best-first (time_of time) W B n h k)

  -- what is known is a plan, and its time
  pub known-plan : (budget t : ℕ) (p : Plan) → (searched time W B n budget).best ≡ Best.known t p → IsPlan W B n p × (t ≡ time_of time p)
  unfolding Finds time_in plan_in
  known-plan budget t p e =
      let f = plans_walks (Finds (time_of time)) (tried budget) time (tried_walks (time_of time) budget) W B n begin in
      pick (rw (← searched_by_lem time budget W B n) at f)
    where
      pick : ((searched time W B n budget).best ≡ Best.unknown)
          ⊎ ((q : Plan) × Memᴰ q (plans W B n) × ((searched time W B n budget).best ≡ Best.known (time_of time q) q))
          → IsPlan W B n p × (t ≡ time_of time p)
      pick (inl u) = absurd (unknown_not (sym u ∙ e))
      pick (inr u) =
          let f = sym e ∙ u.2 in
          let g : p ≡ u.0 = ap plan_in f in
          rw g (sound W B n u.0 u.1, ap time_in f)
