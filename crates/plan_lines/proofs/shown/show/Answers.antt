-- `plan_lines::shown::show` meets its contract: the lines of a good record are few and short, so that they fit the form's buffer. Assumes nothing.
use native.Mathlib.Omega.{arith}
use Prim.Native.Nat.{ℕ, ◌≤◌}
use mathlib.Core.Path.{◌≡◌, sym, ◌∙◌}
use mathlib.Core.Bool.{true, false}
use lib.ListN.{length, replicate, length-replicate}
use lib.Seq.{length-take-le}
use Rattle.buffer.proofs.PutLaws.{front-within, front-text}
use Rattle.plan_record.specs.Good.{good_plan}
use Rattle.plan_record.proofs.GoodPlanLaws.{good-figures}
use Rattle.listing.specs.Listing.{listing_max, show_answer, show_leaves}
use Rattle.listing.specs.Room.{plan_room}
use Rattle.plan_lines.proofs.shown.show.Goals as goal
use Rattle.plan_lines.proofs.shown.show.Goals.{Else-not-is_good_plan}

-- the form's buffer is long enough
long : (z : ℕ) → plan_room ≤ length (replicate listing_max z)
long z = rw length-replicate (omega arith)

good : (c : Else-not-is_good_plan) → good_plan c.args.p ≡ true
good c = sym c.is_good_plan.ensures ∙ c.if-not-is_good_plan.false

pub returns-then-not-is_good_plan : goal.returns-then-not-is_good_plan
unfolding show_answer show_leaves
returns-then-not-is_good_plan c = let e : good_plan c.args.p ≡ false = sym c.is_good_plan.ensures ∙ c.if-not-is_good_plan.true in
    (rw c.at.ensures (simp e), simp e)

pub put_shown-n-requires : goal.put_shown-n-requires
put_shown-n-requires c = let f = good-figures _ (good (goal.at.put_shown-n-requires c).Else-not-is_good_plan) in
    (f.buses_high, f.modules_high, long 0)

pub slice_bounds-form-end : goal.slice_bounds-form-end
slice_bounds-form-end c = front-within c.put_shown-n.ensures.0

pub slice_bounds-write-end : goal.slice_bounds-write-end
slice_bounds-write-end c = sym (length-take-le _ _ (front-within c.put_shown-n.ensures.0))

pub returns : goal.returns
unfolding show_answer show_leaves
returns c = let p = c.put_shown-n.ensures in
    let e = good (goal.at.returns c).Else-not-is_good_plan in
    ((rw (front-text p.0) at c.write.ensures.0) ∙ simp e, (rw (front-text p.0) at c.write.ensures.1) ∙ simp e)
