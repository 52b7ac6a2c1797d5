-- `wrapper_fit::fit::longest_with` meets its contract: what its invariant (Invariants.antt) leaves to show. Assumes nothing.
use native.Mathlib.Omega.{arith}
use Prim.Native.Nat.{ℕ, ◌+◌, ◌<◌, max}
use mathlib.Core.Path.{◌≡◌, refl, sym, ap, ◌∙◌}
use mathlib.Core.List.{List}
use lib.ListN.{length, get_or, take, drop, set, replicate, length-set}
use lib.Seq.{get_or-take, length-take-le, take-set-lt}
use Rattle.wrapper_fit.specs.Fit.{longest, total, goes, placed}
use Rattle.wrapper_fit.specs.Elements.{with_chains}
use Rattle.wrapper_fit.proofs.FitLaws.{zeros-longest, goes-below, longest-total, total-at, total-placed}
use Rattle.wrapper_fit.proofs.ElementLaws.{zeros-take, zeros-total, chains_step, chains-end, longest-placed-is, few-longest}
use Rattle.wrapper_fit.proofs.ElementLaws.{total_step}
use Rattle.wrapper_fit.proofs.fit.longest_with.Goals as goal
use Rattle.wrapper_fit.proofs.fit.longest_with.Goals.{After-goes_to-at, At-loop-n, In-loop-n}

-- one element more, put into the first k lengths
module _ (n k at : ℕ) (ls : List ℕ) (pos : 0 < k) (long : length (take k ls) ≡ k) (e : at ≡ goes n (take k ls)) where
  below : at < k
  below = omega (arith, e, long, goes-below n (take k ls) (omega arith))

  here : get_or ls at 0 ≡ get_or (take k ls) (goes n (take k ls)) 0
  here = sym (get_or-take k ls at 0 below) ∙ ap (λ j. get_or (take k ls) j 0) e

  put_is : take k (set ls at (get_or ls at 0 + n)) ≡ placed n (take k ls)
  unfolding placed
  put_is =
      take-set-lt k ls at (get_or ls at 0 + n) below
      ∙ ap (λ v. set (take k ls) at (v + n)) here
      ∙ ap (λ j. set (take k ls) j (get_or (take k ls) (goes n (take k ls)) 0 + n)) e

  put-longest : longest (take k (set ls at (get_or ls at 0 + n))) ≡ max (longest (take k ls)) (get_or ls at 0 + n)
  put-longest = rw (put_is, here) (longest-placed-is n (take k ls) (omega arith))

part : (c : At-loop-n)
    → length (take c.args.k c.loop-n.lengths) ≡ c.args.k
part c = length-take-le c.args.k c.loop-n.lengths (omega (arith, c.requires.1, c.loop-n.invariant.0))

at-below : (c : After-goes_to-at) → c.goes_to-at.result < 64
at-below c = omega (arith, c.requires.1, below _ c.args.k c.goes_to-at.result c.loop-n.lengths c.requires.0 (part (goal.at.After-goes_to-at c).At-loop-n) c.goes_to-at.ensures)

-- the sum of what is placed and of the element at hand is no more than that of all
fits : (c : In-loop-n) →
    total (take c.args.k c.loop-n.lengths) + get_or c.args.chains.now c.loop-n.n-index 0 < 18446744073709551616
fits c = omega (arith, c.requires.2, c.loop-n.invariant.2, total_step c.args.chains.now c.loop-n.n-index c.loop-n-test.true)

pub returns-then-chains-k : goal.returns-then-chains-k
returns-then-chains-k c = c.longest_of.ensures ∙ sym (few-longest c.args.chains.now c.args.k c.if-chains-k.true)

pub loop-n-init : goal.loop-n-init
loop-n-init c = let z : take {A = ℕ} c.args.k (replicate 64 0) ≡ replicate c.args.k 0 = zeros-take {A = ℕ} c.args.k 64 0 c.requires.1 in (
  refl,
  sym (ap longest z ∙ zeros-longest c.args.k),
  omega (arith, ap total z, zeros-total c.args.k),
  ap (with_chains c.args.chains.now) (sym z),
)

pub goes_to-at-requires : goal.goes_to-at-requires
goes_to-at-requires c = let k = c.args.k in
    (c.loop-n.invariant.1, omega (arith, fits (goal.at.goes_to-at-requires c).In-loop-n, longest-total (take k c.loop-n.lengths)))

pub offset_bounds-lengths-at : goal.offset_bounds-lengths-at
offset_bounds-lengths-at c = omega (arith, at-below c)

pub bounds-lengths-at : goal.bounds-lengths-at
bounds-lengths-at c = at-below c

pub overflow_add-x : goal.overflow_add-x
overflow_add-x c = let ls = c.loop-n.lengths in
    let n = get_or c.args.chains.now c.loop-n.n-index 0 in
    let h = here n c.args.k c.goes_to-at.result ls c.requires.0 (part (goal.at.overflow_add-x c).At-loop-n) c.goes_to-at.ensures in
    omega (arith, h, fits (goal.at.overflow_add-x c).In-loop-n, total-at (take c.args.k ls) (goes n (take c.args.k ls)))

pub offset_bounds-lengths-at-in-loop-n : goal.offset_bounds-lengths-at-in-loop-n
offset_bounds-lengths-at-in-loop-n c = omega (arith, at-below c)

pub bounds-lengths-at-in-loop-n : goal.bounds-lengths-at-in-loop-n
bounds-lengths-at-in-loop-n c = at-below c

pub loop-n-preserved : goal.loop-n-preserved
loop-n-preserved c = let k = c.args.k in
    let ls = c.loop-n.lengths in
    let i = c.loop-n.n-index in
    let chains = c.args.chains.now in
    let n = get_or chains i 0 in
    let at = c.goes_to-at.result in
    let h : i < length chains = c.loop-n-test.true in
    let p = put_is n k at ls c.requires.0 (part (goal.at.loop-n-preserved c).At-loop-n) c.goes_to-at.ensures in
    let t = put-longest n k at ls c.requires.0 (part (goal.at.loop-n-preserved c).At-loop-n) c.goes_to-at.ensures in (
      length-set ls at (get_or ls at 0 + n) ∙ c.loop-n.invariant.0,
      omega (arith, t, c.loop-n.invariant.1, c.max-m.ensures),
      rw p (omega (arith, total-placed n (take k ls) (omega (arith, c.requires.0, part (goal.at.loop-n-preserved c).At-loop-n)), total_step chains i h, c.loop-n.invariant.2)),
      c.loop-n.invariant.3 ∙ chains_step chains (take k ls) i h ∙ ap (with_chains (drop (i + 1) chains)) (sym p),
    )

pub returns : goal.returns
returns c = let e = chains-end c.args.chains.now (take c.args.k c.loop-n.lengths) c.loop-n.n-index c.loop-n-test.false in
    c.loop-n.invariant.1 ∙ ap longest (sym (c.loop-n.invariant.3 ∙ e))
