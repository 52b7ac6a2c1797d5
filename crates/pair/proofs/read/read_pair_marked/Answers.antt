-- `pair::read::read_pair_marked` meets its contract: the base is read first, then the overlay, and then the two are joined. Assumes
-- nothing.
use mathlib.Core.Path.{◌∙◌}
use Rattle.std.specs.Prelude.{Ok}
use Rattle.std.proofs.lemmas.Result.{err_from_is_err_and}
use Rattle.text_reader.specs.Marks.{TextMarked}
use Rattle.overlay.specs.OverlayMarks as overlay
use Rattle.pair.specs.Pair.{read_pair}
use Rattle.pair.proofs.PairMarkLaws.{base_no, over_no, both_got, joined_is}
use Rattle.pair.proofs.read.read_pair_marked.Goals as goal
use Rattle.pair.proofs.read.read_pair_marked.Goals.{In-Ok, In-Ok-of_overlay}

-- what the base says, and the overlay
base_read : (c : In-Ok) → TextMarked c.args.m c.args.base.now (Ok c.in-Ok.b)
base_read c = rw c.in-Ok.is at c.read_soc_marked-of_base.ensures

over_read : (c : In-Ok-of_overlay) → overlay.TextMarked c.args.m c.args.overlay.now (Ok c.in-Ok-of_overlay.o)
over_read c = rw c.in-Ok-of_overlay.is at c.read_overlay_marked-of_overlay.ensures

pub returns-in-Err : goal.returns-in-Err
unfolding read_pair
returns-in-Err c = let e = rw c.in-Err.is at c.read_soc_marked-of_base.ensures.read in
    rw c.about.ensures (record { pair = base_no _ _ _ e; in_base = tt; in_overlay = tt })

pub returns-in-Err-of_overlay : goal.returns-in-Err-of_overlay
unfolding read_pair
returns-in-Err-of_overlay c = let b = base_read (goal.at.returns-in-Err-of_overlay c).In-Ok in
    let e = rw c.in-Err-of_overlay.is at c.read_overlay_marked-of_overlay.ensures.read in
    rw c.about-in-Err-of_overlay.ensures (record { pair = over_no _ _ _ _ b.read e; in_base = tt; in_overlay = tt })

pub returns-in_err-pair : goal.returns-in_err-pair
unfolding read_pair
returns-in_err-pair c = let p = err_from_is_err_and c.from_residual.result c.from_residual.ensures.1 in
    let b = base_read (goal.at.returns-in_err-pair c).In-Ok in
    let o = over_read (goal.at.returns-in_err-pair c).In-Ok-of_overlay in
    rw (p.1, p.2) (record { pair = c.in_err-pair.ensures ∙ both_got _ _ _ _ b.read o.read; in_base = tt; in_overlay = tt })

pub returns : goal.returns
unfolding read_pair
returns c = let b = base_read (goal.at.returns c).In-Ok in
    let o = over_read (goal.at.returns c).In-Ok-of_overlay in
    let j = joined_is c.in-Ok.b.soc c.in-Ok-of_overlay.o.overlay c.in_ok-pair.ensures in
    record {
      pair = c.in_ok-pair.ensures ∙ both_got _ _ _ _ b.read o.read;
      in_base = λ k. b.marks (rw j.0 at k);
      in_overlay = λ k. o.marks (rw j.1 at k);
    }
