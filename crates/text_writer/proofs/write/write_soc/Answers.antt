-- `text_writer::write::write_soc` meets its contract. The written form of a good record fits the form's buffer, so that what `put_soc`
-- puts there is all of it; the tests are those of the definitions. Assumes nothing.
use Prim.Native.Nat.{ℕ, ◌≤◌}
use mathlib.Core.Path.{◌≡◌, sym, ◌∙◌}
use mathlib.Core.Bool.{true, false}
use mathlib.Core.List.{List}
use lib.ListN.{length, replicate, length-replicate}
use lib.Seq.{length-take-le}
use Rattle.soc.specs.Limits.{text_max}
use Rattle.soc.specs.Rules.{good_soc}
use Rattle.text_writer.specs.WrittenSoc.{written_soc, write_answer, write_leaves}
use Rattle.buffer.proofs.PutLaws.{front-within, front-text}
use Rattle.text_writer.proofs.SizeLaws.{written-short}
use Rattle.text_writer.proofs.write.write_soc.Goals as goal
use Rattle.text_writer.proofs.write.write_soc.Goals.{Else-not-is_good}

fits : (k z : ℕ) (w : List ℕ) → length w ≤ k → length w ≤ length (replicate k z)
fits k z w h = rw length-replicate h

good : (c : Else-not-is_good) → good_soc c.args.s ≡ true
good c = sym c.is_good.ensures ∙ c.if-not-is_good.false

pub returns-then-not-is_good : goal.returns-then-not-is_good
unfolding write_answer write_leaves
returns-then-not-is_good c = let e : good_soc c.args.s ≡ false = sym c.is_good.ensures ∙ c.if-not-is_good.true in
    (rw (c.at.ensures, e), simp e)

pub put_soc-n-requires : goal.put_soc-n-requires
put_soc-n-requires c = (good (goal.at.put_soc-n-requires c).Else-not-is_good, fits text_max 0 (written_soc c.args.s) (written-short c.args.s (good (goal.at.put_soc-n-requires c).Else-not-is_good)))

pub slice_bounds-form-end : goal.slice_bounds-form-end
slice_bounds-form-end c = front-within c.put_soc-n.ensures

pub slice_bounds-write-end : goal.slice_bounds-write-end
slice_bounds-write-end c = sym (length-take-le _ _ (front-within c.put_soc-n.ensures))

pub returns : goal.returns
unfolding write_answer write_leaves
returns c = let p = c.put_soc-n.ensures in
    let e = good (goal.at.returns c).Else-not-is_good in
    ((rw (front-text p) at c.write.ensures.0) ∙ simp e, (rw (front-text p) at c.write.ensures.1) ∙ simp e)
