-- `listing::put_lines::put_plan` meets its contract: the other lines are put behind the first. Assumes nothing.
use native.Mathlib.Omega.{arith}
use lib.ListN.{length-append}
use Rattle.buffer.proofs.PutLaws.{put_then}
use Rattle.listing.proofs.LineLaws.{lines-text}
use Rattle.listing.proofs.put_lines.put_plan.Goals as goal

pub returns : goal.returns
returns c = (
  rw lines-text (put_then (omega (arith, c.requires.3)) c.put_soc_line-a.ensures.0 c.put_rest.ensures.0),
  rw (lines-text, length-append) (omega (arith, c.put_soc_line-a.ensures.1, c.put_rest.ensures.1)),
)
