-- `plan_lines::shown::put_shown` meets its contract: the other lines are put behind the first. Assumes nothing.
use native.Mathlib.Omega.{arith}
use lib.ListN.{length-append}
use Rattle.buffer.proofs.PutLaws.{put_then}
use Rattle.listing.specs.Listing.{shown}
use Rattle.listing.proofs.LineLaws.{lines-text}
use Rattle.plan_lines.proofs.shown.put_shown.Goals as goal

pub put_rest-requires : goal.put_rest-requires
put_rest-requires c = (c.requires.0, c.requires.1, omega (arith, c.put_counts-a.ensures.0.behind, c.put_counts-a.ensures.1, c.put_counts-a.auto.buf, c.requires.2))

pub returns : goal.returns
unfolding shown
returns c = (
  rw lines-text (put_then (omega (arith, c.requires.2)) c.put_counts-a.ensures.0 c.put_rest.ensures.0),
  rw (lines-text, length-append) (omega (arith, c.put_counts-a.ensures.1, c.put_rest.ensures.1)),
)
