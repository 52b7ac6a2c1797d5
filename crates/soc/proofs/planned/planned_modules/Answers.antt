-- `soc::planned::planned_modules` meets its contract: what its invariant (Invariants.antt) leaves to show. Assumes nothing.
use Rattle.std.proofs.Common.{◌≡◌, ℕ, suc, ◌+◌, ◌<◌, refl, sym, ◌∙◌, Bool, true, false, cond, List, [], ◌∷◌, ◌++◌, length, get_or, take, set, arith, add-one, length-append}
use mathlib.Core.List.{append-nil}
use native.Mathlib.Nat.{zero-add}
use lib.ListN.{length-take}
use lib.Seq.{length-take-le, take-suc, get_or-take}
use Rattle.soc.specs.Limits.{modules_max}
use Rattle.soc.specs.Planned.{is_planned, planned_from}
use Rattle.soc.specs.declared.record.Module.{Module}
use Rattle.units.proofs.PlaceLaws.{padded-none, padded-set}
use Rattle.soc.proofs.planned.planned_modules.Invariants.{found, Holds}
use Rattle.soc.proofs.planned.planned_modules.Goals as goal
use Rattle.soc.proofs.planned.planned_modules.Goals.{then-is_planned, else-is_planned}

-- one module more at the end
planned-end : (m : ℕ) (ds : List Module) (d : Module) → planned_from m (ds ++ d ∷ []) ≡ planned_from m ds ++ cond (is_planned d) ((m + length ds) ∷ []) []
unfolding planned_from
planned-end m [] d = let e : m + 0 ≡ m = omega arith in rw e
planned-end m (a ∷ ds) d =
    let e : m + suc (length ds) ≡ suc m + length ds = omega arith in
    rw (e, planned-end (suc m) ds d) (put (is_planned a) (planned_from (suc m) ds) (cond (is_planned d) ((suc m + length ds) ∷ []) []))
  where
    put : (t : Bool) (xs ys : List ℕ) → cond t (m ∷ (xs ++ ys)) (xs ++ ys) ≡ cond t (m ∷ xs) xs ++ ys
    put true xs ys = refl
    put false xs ys = refl

-- a turn, where d is module i of the first n
module _ (ms : List Module) (n i : ℕ) (d : Module) (h : i < length (take n ms)) where
  step : found ms (i + 1) ≡ found ms i ++ cond (is_planned (get_or (take n ms) i d)) (i ∷ []) []
  step =
      let l : i < n = omega (arith, length-take n ms) in
      let k : i < length ms = omega (arith, length-take n ms) in
      let e : length (take i ms) ≡ i = length-take-le i ms (omega arith) in
      rw (get_or-take n ms i d l, add-one, take-suc ms i d k) (rw (e, zero-add) at (planned-end 0 (take i ms) (get_or ms i d)))

  turn_more : (xs : List ℕ) (k : ℕ) → is_planned (get_or (take n ms) i d) ≡ true → k < modules_max → Holds xs k (found ms i) → Holds (set xs k i) (k + 1) (found ms (i + 1))
  turn_more xs k e l w = rw (step, e) (simp length-append (omega (arith, w.0)), rw (w.1, w.0) (padded-set modules_max 0 i (found ms i) (rw w.0 at l)))

  turn_same : (xs : List ℕ) (k : ℕ) → is_planned (get_or (take n ms) i d) ≡ false → Holds xs k (found ms i) → Holds xs k (found ms (i + 1))
  turn_same xs k e w = rw (step, e, append-nil) w

found_none : (ms : List Module) → found ms 0 ≡ []
unfolding planned_from
found_none ms = refl

pub loop-i-init : goal.loop-i-init
loop-i-init c = (omega arith, rw (found_none c.args.s.modules) (refl, sym (padded-none modules_max 0)))

pub loop-i-preserved : goal.loop-i-preserved
loop-i-preserved c =
    elim c.if-is_planned.branch [
      | then-is_planned w ↦ (
        omega arith,
        rw (w.numbers-is, w.count-is)
            (turn_more c.args.s.modules _ c.loop-i.i _ c.loop-i-test.true c.loop-i.numbers c.loop-i.count (sym c.is_planned.ensures ∙ w.if-is_planned.true) (omega arith) c.loop-i.invariant.1),
      )
      | else-is_planned w ↦ (
        omega arith,
        rw (w.numbers-is, w.count-is)
            (turn_same c.args.s.modules _ c.loop-i.i _ c.loop-i-test.true c.loop-i.numbers c.loop-i.count (sym c.is_planned.ensures ∙ w.if-is_planned.false) c.loop-i.invariant.1),
      )
    ]
