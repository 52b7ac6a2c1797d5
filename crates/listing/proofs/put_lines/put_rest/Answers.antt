-- `listing::put_lines::put_rest` meets its contract: the modules are put behind the buses. Assumes nothing.
use native.Mathlib.Omega.{arith}
use lib.ListN.{length-append}
use Rattle.buffer.proofs.PutLaws.{put_then}
use Rattle.listing.proofs.put_lines.put_rest.Goals as goal

pub returns : goal.returns
returns c = (put_then (omega (arith, c.requires.2)) c.put_buses-a.ensures.0 c.put_modules.ensures.0, rw length-append (omega (arith, c.put_buses-a.ensures.1, c.put_modules.ensures.1)))
