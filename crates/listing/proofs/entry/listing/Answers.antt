-- `listing::entry::listing` meets its contract: what is printed fits the form's buffer, so that what `put_listed` puts there is all of it. Assumes
-- nothing.
use native.Mathlib.Omega.{arith}
use Prim.Native.Nat.{ℕ, ◌≤◌}
use lib.ListN.{length, replicate, length-replicate}
use Rattle.buffer.proofs.PutLaws.{front-text}
use Rattle.listing.specs.Listing.{listing_max, listing_answer, listing_leaves}
use Rattle.listing.proofs.entry.listing.Goals as goal

-- the form's buffer is long enough
long : (z : ℕ) → listing_max ≤ length (replicate listing_max z)
long z = rw length-replicate (omega arith)

pub returns : goal.returns
unfolding listing_answer listing_leaves
returns c = let p = c.put_listed-n.ensures in
    (rw (front-text p.0) at c.write.ensures.0, rw (front-text p.0) at c.write.ensures.1, p.1)
