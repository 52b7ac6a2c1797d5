-- Laws of the lengths of chains: that threaded chains are as long as elements of these lengths make them, and how code holds the lengths
-- with their sum. Assumes nothing.
use Prim.Native.Nat.{ℕ, suc, ◌+◌, ◌*◌, ◌≤◌, ◌<◌}
use mathlib.Core.Path.{◌≡◌, refl, ap, ◌∙◌}
use mathlib.Core.List.{List, [], ◌∷◌, ◌++◌, map-append}
use native.Mathlib.Omega.{arith}
use native.Mathlib.Nat.{suc-mul}
use native.Mathlib.Numerals.{add-one}
use lib.ListN.{length, get_or, take, set, length-map}
use lib.Seq.{take-suc, length-take-le}
use Rattle.soc.specs.Limits.{chains_max}
use Rattle.units.specs.Places.{padded}
use Rattle.units.proofs.PlaceLaws.{padded-set, padded-take}
use Rattle.wrapper_fit.specs.Fit.{total}
use Rattle.wrapper_fit.specs.Elements.{with_chains}
use Rattle.wrapper_scans.specs.Chains.{no_chain, Threaded, thread}
use Rattle.wrapper_scans.specs.Held.{lengths_of, chain_lengths, front_lengths}
use Rattle.wrapper_scans.specs.declared.chains.Chain.{Chain}
use Rattle.wrapper_scans.proofs.ChainLaws.{with_one}

-- the lengths of threaded chains
pub thread-lengths : (cs : List Chain) (t : Threaded) → (thread cs t).lengths ≡ with_chains (lengths_of cs) t.lengths
unfolding thread with_chains
thread-lengths [] t = refl
thread-lengths (c ∷ cs) t = thread-lengths cs (with_one c t)

-- lengths as they are held with their sum
pub front-lengths : (cs : List Chain) → front_lengths (chain_lengths cs) ≡ lengths_of cs
front-lengths cs = rw (length-map cs (λ c. c.length)) at (padded-take chains_max 0 (lengths_of cs))

total-more : (l : List ℕ) (x : ℕ) → total (l ++ x ∷ []) ≡ total l + x
unfolding total
total-more [] x = omega arith
total-more (y ∷ l) x = omega (arith, total-more l x)

-- those of the first i chains
module _ (cs : List Chain) (i : ℕ) (h : i < length cs) where
  one_more : lengths_of (take (i + 1) cs) ≡ lengths_of (take i cs) ++ (get_or cs i no_chain).length ∷ []
  one_more = rw (add-one, take-suc cs i no_chain h, map-append)

  pub lengths-total : total (lengths_of (take (i + 1) cs)) ≡ total (lengths_of (take i cs)) + (get_or cs i no_chain).length
  lengths-total = ap total one_more ∙ total-more (lengths_of (take i cs)) (get_or cs i no_chain).length

  pub lengths-set : i < chains_max
      → set (padded chains_max 0 (lengths_of (take i cs))) i (get_or cs i no_chain).length ≡ padded chains_max 0 (lengths_of (take (i + 1) cs))
  lengths-set k =
      let n : length (lengths_of (take i cs)) ≡ i = length-map (take i cs) (λ c. c.length) ∙ length-take-le i cs (omega arith) in
      rw one_more (rw n at (padded-set chains_max 0 (get_or cs i no_chain).length (lengths_of (take i cs)) (rw n k)))

-- at most b for each chain
pub lengths-most : (b : ℕ) (cs : List Chain) → ((i : ℕ) → i < length cs → (get_or cs i no_chain).length ≤ b)
    → total (lengths_of cs) ≤ length cs * b
unfolding total
lengths-most b [] h = omega arith
lengths-most b (c ∷ cs) h = omega (arith, h 0 (omega arith), lengths-most b cs (λ i k. h (suc i) (omega arith)), suc-mul (length cs) b)
