-- One more wire, one more bus (document 02, item 10: "W + 1 wires never give a larger least time; .. nor does B + 1"), for any number of
-- buses and modules, of plans of least time by whichever search. More buses need nothing of the times; more wires need that these do not
-- rise with the width. Assumes nothing.
use Prim.Native.Nat.{ℕ, zero, suc, ◌+◌, ◌-◌, ◌≤◌, ◌<◌}
use mathlib.Core.Path.{◌≡◌, refl, ap}
use mathlib.Core.List.{List, [], ◌∷◌}
use native.Mathlib.Omega.{arith}
use lib.ListN.{length, get_or}
use Rattle.plan_rules.specs.Plans.{Plan, IsPlan, sum, time_of}
use Rattle.plan_rules.specs.Listed.{plan}
use Rattle.plan_rules.specs.First.{IsFirst}
use Rattle.plan_rules.specs.Widths.{Wider, nothing, wider}
use Rattle.plan_rules.proofs.WiderLaws.{wider-plan}

-- a plan for a limit is a plan for every larger one
limit-more : {W B C n : ℕ} {p : Plan} → B ≤ C → IsPlan W B n p → IsPlan W C n p
limit-more h r = record {
  some = r.some;
  limit = omega (arith, r.limit);
  wide = r.wide;
  rising = r.rising;
  wires = r.wires;
  placed = r.placed;
  low = r.low;
  high = r.high;
}

-- the last bus has d wires more
last_more : ℕ → List ℕ → List ℕ
last_more d [] = []
last_more d (w ∷ []) = (w + d) ∷ []
last_more d (w ∷ v ∷ ws) = w ∷ last_more d (v ∷ ws)

more-length : (d : ℕ) (ws : List ℕ) → length (last_more d ws) ≡ length ws
unfolding last_more
more-length d [] = refl
more-length d (w ∷ []) = refl
more-length d (w ∷ v ∷ ws) = ap suc (more-length d (v ∷ ws))

more-sum : (d : ℕ) (ws : List ℕ) → 1 ≤ length ws → sum (last_more d ws) ≡ sum ws + d
unfolding last_more sum
more-sum d [] h = absurd (omega arith)
more-sum d (w ∷ []) h = omega arith
more-sum d (w ∷ v ∷ ws) h = omega (arith, more-sum d (v ∷ ws) (omega arith))

more-before : (d : ℕ) (ws : List ℕ) (j : ℕ) → suc j < length ws → get_or (last_more d ws) j 0 ≡ get_or ws j 0
unfolding last_more
more-before d [] j h = refl
more-before d (w ∷ []) j h = absurd (omega arith)
more-before d (w ∷ v ∷ ws) zero h = refl
more-before d (w ∷ v ∷ ws) (suc j) h = more-before d (v ∷ ws) j (omega arith)

more_ge : (d : ℕ) (ws : List ℕ) (j : ℕ) → get_or ws j 0 ≤ get_or (last_more d ws) j 0
unfolding last_more
more_ge d [] j = omega arith
more_ge d (w ∷ []) zero = omega arith
more_ge d (w ∷ []) (suc j) = omega arith
more_ge d (w ∷ v ∷ ws) zero = omega arith
more_ge d (w ∷ v ∷ ws) (suc j) = more_ge d (v ∷ ws) j

more-wider : (d top : ℕ) (ws : List ℕ) → ((j : ℕ) → j < length ws → 1 ≤ get_or ws j 0) → sum ws + d ≤ top → Wider top ws (last_more d ws)
unfolding last_more sum
more-wider d top [] low h = nothing
more-wider d top (w ∷ []) low h = let k : w ≤ w + d = omega arith in wider (low 0 (omega arith)) k (omega arith) nothing
more-wider d top (w ∷ v ∷ ws) low h =
    let k : w ≤ w = omega arith in
    wider (low 0 (omega arith)) k (omega arith) (more-wider d top (v ∷ ws) (λ j l. low (suc j) (omega arith)) (omega arith))

-- with more wires on the last bus a plan is a plan for more wires
more-plan : {W B n : ℕ} {p : Plan} (d : ℕ) → IsPlan W B n p → IsPlan (W + d) B n (plan (last_more d p.widths) p.buses)
more-plan {p = p} d r =
    let ws = p.widths in
    let e : length (last_more d ws) ≡ length ws = more-length d ws in
    record {
      some = omega (arith, r.some);
      limit = omega (arith, r.limit);
      wide = λ i h. omega (arith, r.wide i (omega arith), more_ge d ws i);
      rising = λ i h. omega (arith, r.rising i (omega arith), more-before d ws i (omega arith), more_ge d ws (suc i));
      wires = omega (arith, more-sum d ws r.some, r.wires);
      placed = r.placed;
      low = r.low;
      high = λ i h. omega (arith, r.high i h);
    }

module _ (time : ℕ → ℕ → ℕ) {W B n : ℕ} {p : Plan} (f : IsFirst (time_of time) W B n p) where
  -- with more buses the least time is no larger
  pub more-buses : {C : ℕ} {q : Plan} → B ≤ C → IsFirst (time_of time) W C n q → time_of time q ≤ time_of time p
  more-buses h g = g.least p (limit-more h f.is_plan)

  -- nor is it with more wires
  pub more-wires : {U : ℕ} {q : Plan} → W ≤ U → ((i v w : ℕ) → i < n → 1 ≤ v → v ≤ w → w ≤ U → time i w ≤ time i v)
      → IsFirst (time_of time) U B n q → time_of time q ≤ time_of time p
  more-wires {U} h falls g =
      let d = U - W in
      let ws = p.widths in
      let e : W + d ≡ U = omega arith in
      let r = f.is_plan in
      let a = g.least (plan (last_more d ws) p.buses) (rw e at (more-plan d r)) in
      let b = wider-plan time n U falls (more-wider d U ws r.wide (omega (arith, r.wires))) p.buses r.placed in
      omega (arith, a, b)
