-- `plan::tables::with_times` meets its contract: what its invariant (Invariants.antt) leaves to show. Assumes nothing.
use borrow.Author.Count.{below_more}
use Prim.Native.Nat.{ℕ, ◌+◌, ◌*◌, ◌<◌}
use mathlib.Core.Path.{◌≡◌, refl, ◌∙◌}
use mathlib.Core.List.{List}
use native.Mathlib.Omega.{arith}
use lib.Seq.{get_or-set_same, get_or-set_other}
use lib.ListN.{length, length-set, get_or, set}
use Rattle.plan_search.specs.Search.{row_places}
use Rattle.plan.specs.Tables.{table_places}
use Rattle.plan.proofs.tables.with_times.Invariants.{Stands}
use Rattle.plan.proofs.tables.with_times.Goals as goal

module _ {A : Type 0} {f : A → ℕ} {z : A} {at : ℕ} {xs : List A} {old : List ℕ} where
  stands-none : length old ≡ table_places → Stands f z at 0 xs old old
  stands-none l = record { long = l; here = λ w h. absurd (omega arith); front = λ i h. refl; behind = λ i h. refl }

  stands_more : {j : ℕ} {new : List ℕ} → at + j < table_places → Stands f z at j xs old new → Stands f z at (j + 1) xs old (set new (at + j) (f (get_or xs j z)))
  stands_more {j} {new} l s =
      let v = f (get_or xs j z) in
      record {
        long = simp length-set s.long;
        here =
            below_more _ _
            (λ w h. get_or-set_other new (at + j) (at + w) v 0 (λ e. omega arith) ∙ s.here w h)
            (get_or-set_same new (at + j) v 0 (omega arith));
        front = λ i h. get_or-set_other new (at + j) i v 0 (λ e. omega arith) ∙ s.front i h;
        behind = λ i h. get_or-set_other new (at + j) i v 0 (λ e. omega arith) ∙ s.behind i (omega arith);
      }

pub loop-j-preserved : goal.loop-j-preserved
loop-j-preserved c = let i = c.loop-j.invariant in
    let at = c.args.k * row_places + c.loop-j.j in
    let m : at < table_places = omega arith in
    (stands_more m i.0, stands_more m i.1)
