-- `wrapper_fit::fit::goes_to` meets its contract: what its invariant (Invariants.antt) leaves to show. Assumes nothing.
use borrow.Author.Rules.{rules}
use borrow.Author.Tests.{tests, lt-ltb, le-ltb}
use native.Mathlib.Omega.{arith}
use native.Mathlib.Numerals.{add-one}
use Prim.Native.Nat.{ℕ, ◌+◌, ◌≤◌, ◌<◌}
use mathlib.Core.Path.{◌≡◌, refl, sym, ap, ◌∙◌}
use mathlib.Core.Bool.{Bool, true, false}
use mathlib.Core.List.{List, [], ◌∷◌}
use lib.Dec.{ltb}
use lib.ListN.{length, get_or, drop, drop_of_length-le}
use lib.Seq.{drop-cons}
use Rattle.wrapper_fit.specs.Fit.{longest, better, best_from, goes}
use Rattle.wrapper_fit.specs.Elements.{rank}
use Rattle.wrapper_fit.proofs.FitLaws.{longest-at}
use Rattle.wrapper_fit.proofs.ElementLaws.{better-rank}
use Rattle.wrapper_fit.proofs.fit.goes_to.Goals as goal
use Rattle.wrapper_fit.proofs.fit.goes_to.Goals.{then-r-least, else-r-least}

goes-start : (n : ℕ) (l : List ℕ) → goes n l ≡ best_from (better n (longest l)) 0 (get_or l 0 0) 1 (drop 1 l)
unfolding goes best_from
goes-start n [] = refl
goes-start n (x ∷ l) = refl

module _ (b : ℕ → ℕ → Bool) (i x j : ℕ) (l : List ℕ) where
  best-found : j < length l → b x (get_or l j 0) ≡ true → best_from b i x j (drop j l) ≡ best_from b j (get_or l j 0) (j + 1) (drop (j + 1) l)
  unfolding best_from
  best-found h e = rw (add-one, drop-cons l j 0 h) (simp e)

  best_stays : j < length l → b x (get_or l j 0) ≡ false → best_from b i x j (drop j l) ≡ best_from b i x (j + 1) (drop (j + 1) l)
  unfolding best_from
  best_stays h e = rw (add-one, drop-cons l j 0 h) (simp e)

  best-end : length l ≤ j → best_from b i x j (drop j l) ≡ i
  unfolding best_from
  best-end h = rw (drop_of_length-le l h)

goes_none : (n : ℕ) (l : List ℕ) → length l ≡ 0 → goes n l ≡ 0
unfolding goes
goes_none n [] e = refl
goes_none n (x ∷ l) e = let z : ⊥ = omega arith in absurd z

-- the test of two ranks is that of the two places
ranked : (n m k x y r least : ℕ) → m ≡ k → r ≡ rank n m y → least ≡ rank n k x → ltb r least ≡ better n k x y
ranked n m k x y r least e f g = rw (f, g, e) (sym (better-rank n k x y))

pub returns-then-is_empty : goal.returns-then-is_empty
returns-then-is_empty c = let e : length c.args.l.now ≡ 0 = search (rules, tests) in sym (goes_none c.args.n c.args.l.now e)

pub rank-least-requires : goal.rank-least-requires
rank-least-requires c = omega (arith, c.requires.1, longest-at c.args.l.now 0)

pub loop-j-init : goal.loop-j-init
loop-j-init c = let xs = c.args.l.now in (
  omega arith,
  c.rank-least.ensures ∙ ap (λ k. rank c.args.n k (get_or xs 0 0)) c.requires.0,
  goes-start c.args.n xs,
)

pub rank-r-requires : goal.rank-r-requires
rank-r-requires c = omega (arith, c.requires.1, longest-at c.args.l.now c.loop-j.j)

pub loop-j-preserved : goal.loop-j-preserved
loop-j-preserved c = let xs = c.args.l.now in
    let n = c.args.n in
    let m = longest xs in
    let i = c.loop-j.best in
    let j = c.loop-j.j in
    let b = better n m in
    let r = c.rank-r.result in
    let e = ranked n c.args.m m (get_or xs i 0) (get_or xs j 0) r c.loop-j.least c.requires.0 c.rank-r.ensures c.loop-j.invariant.1 in
    let k = c.loop-j.invariant.2 in
    let h = c.loop-j-test.true in
    (elim c.if-r-least.branch [
      | then-r-least w ↦ let t = sym e ∙ lt-ltb r c.loop-j.least (omega (arith, w.if-r-least.true)) in
          rw (w.best-is, w.least-is) (omega arith, c.rank-r.ensures ∙ ap (λ k. rank n k (get_or xs j 0)) c.requires.0, k ∙ best-found b i (get_or xs i 0) j xs h t)
      | else-r-least w ↦ let t = sym e ∙ le-ltb r c.loop-j.least (omega (arith, w.if-r-least.false)) in
          rw (w.best-is, w.least-is) (omega arith, c.loop-j.invariant.1, k ∙ best_stays b i (get_or xs i 0) j xs h t)
    ])

pub returns : goal.returns
returns c = let xs = c.args.l.now in
    sym (c.loop-j.invariant.2 ∙ best-end (better c.args.n (longest xs)) c.loop-j.best (get_or xs c.loop-j.best 0) c.loop-j.j xs c.loop-j-test.false)
