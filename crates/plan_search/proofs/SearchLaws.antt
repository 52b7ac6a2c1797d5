-- Laws of the search: `keep_all` over lists that are joined, and the placements with one more module. Assumes nothing.
use Prim.Native.Nat.{ℕ, suc, ◌+◌, ◌-◌, ◌≤◌, ◌<◌}
use mathlib.Core.Path.{◌≡◌, refl}
use mathlib.Core.Bool.{Bool, true, false, cond}
use mathlib.Core.List.{List, [], ◌∷◌, ◌++◌, map, Memᴰ}
use native.Mathlib.Omega.{arith}
use native.Mathlib.Numerals.{add-one}
use lib.ListN.{get_or}
use lib.Dec.{ltb}
use borrow.Author.Tests.{lt-ltb, le-ltb}
use Rattle.plan_rules.specs.Listed.{upward, placements}
use Rattle.plan_rules.specs.Least.{keep_all}
use Rattle.plan_rules.proofs.FromLaws.{map-upward}

module _ (time : List ℕ → ℕ) where
  keep-append-at : (b x : List ℕ) (xs ys : List (List ℕ)) (t : Bool)
      → keep_all time (time x ∷ x) (xs ++ ys) ≡ keep_all time (keep_all time (time x ∷ x) xs) ys
      → keep_all time b (xs ++ ys) ≡ keep_all time (keep_all time b xs) ys
      → cond t (keep_all time (time x ∷ x) (xs ++ ys)) (keep_all time b (xs ++ ys)) ≡ keep_all time (cond t (keep_all time (time x ∷ x) xs) (keep_all time b xs)) ys
  keep-append-at b x xs ys true p q = p
  keep-append-at b x xs ys false p q = q

  pub keep_append : (b : List ℕ) (xs ys : List (List ℕ)) → keep_all time b (xs ++ ys) ≡ keep_all time (keep_all time b xs) ys
  unfolding keep_all
  keep_append b [] ys = refl
  keep_append b (x ∷ xs) ys = keep-append-at b x xs ys (ltb (time x) (get_or b 0 0)) (keep_append (time x ∷ x) xs ys) (keep_append b xs ys)

  -- nothing that takes less than the best is to come
  pub keep-none : (b : List ℕ) (xs : List (List ℕ)) → ((x : List ℕ) → Memᴰ x xs → get_or b 0 0 ≤ time x) → keep_all time b xs ≡ b
  unfolding keep_all
  keep-none b [] h = refl
  keep-none b (x ∷ xs) h =
      let e : ltb (time x) (get_or b 0 0) ≡ false = le-ltb (time x) (get_or b 0 0) (h x (Memᴰ.head refl)) in
      rw e (keep-none b xs (λ y m. h y (Memᴰ.tail m)))

  pub keep_one : (b x : List ℕ) → time x < get_or b 0 0 → keep_all time b (x ∷ []) ≡ time x ∷ x
  unfolding keep_all
  keep_one b x h = rw (lt-ltb (time x) (get_or b 0 0) h)

pub upward_step : {A : Type 0} (c b : ℕ) (f : ℕ → List A) → b < c → upward (c - b) (b + 1) f ≡ f (b + 1) ++ upward (c - (b + 1)) (b + 1 + 1) f
unfolding upward
upward_step c b f h = let e : c - b ≡ suc (c - (b + 1)) = omega arith in rw (e, add-one (b + 1))

pub upward-end : {A : Type 0} (c b : ℕ) (f : ℕ → List A) → c ≤ b → upward (c - b) (b + 1) f ≡ []
unfolding upward
upward-end c b f h = let e : c - b ≡ 0 = omega arith in rw e

-- the placements of which the modules before have the buses pre, the next one the bus x, and k modules behind it one of c buses
unfoldable pub tries : List ℕ → ℕ → ℕ → ℕ → List (List ℕ)
tries pre k c x = map (λ bs. (pre ++ x ∷ []) ++ bs) (placements k c)

pub placements-more : (pre : List ℕ) (n i c : ℕ) → i < n → map (λ bs. pre ++ bs) (placements (n - i) c) ≡ upward (c - 0) 1 (tries pre (n - (i + 1)) c)
unfolding placements tries
placements-more pre n i c h = let e : n - i ≡ suc (n - (i + 1)) = omega arith in let z : c - 0 ≡ c = omega arith in rw (e, z) (map-upward pre (placements (n - (i + 1)) c) c 1)
