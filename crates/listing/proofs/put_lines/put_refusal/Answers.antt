-- `listing::put_lines::put_refusal` meets its contract: the form with its figures is the line, and the figures bound its
-- length. Assumes nothing.
use native.Mathlib.Omega.{arith}
use Prim.Native.Nat.{◌≤◌}
use mathlib.Core.Path.{◌≡◌, ◌∙◌}
use mathlib.Core.List.{[], ◌∷◌}
use lib.ListN.{length}
use Rattle.units.specs.Refusals.{number_of}
use Rattle.fields.specs.WrittenLines.{written_lines}
use Rattle.listing.specs.Listing.{refusal_fields}
use Rattle.listing.specs.Room.{refusal_room}
use Rattle.listing.specs.Forms.{marks}
use Rattle.listing.proofs.LineLaws.{refusal_formed, refusal_size}
use Rattle.listing.proofs.put_lines.put_refusal.Goals as goal
use Rattle.listing.proofs.put_lines.put_refusal.Goals.{After-from-2}

-- the figures are the fault's number and the line
number_is : (c : After-from-2) → c.from-2.result ≡ number_of c.args.r.fault
number_is c = c.from-2.ensures ∙ c.from.ensures

-- how long the line is
short : (c : After-from-2) → length (written_lines (refusal_fields c.args.r ∷ [])) ≤ refusal_room
short c = refusal_size c.args.r (omega (arith, number_is c)) (omega arith)

pub put_form-requires : goal.put_form-requires
unfolding marks
put_form-requires c = let f = (goal.at.put_form-requires c).After-from-2 in
    (omega arith, rw (number_is f, ← refusal_formed c.args.r) (omega (arith, short f, c.requires)))

pub returns : goal.returns
returns c = let f = (goal.at.returns c).After-from-2 in
    (rw (refusal_formed c.args.r, ← number_is f) c.put_form.ensures, short f)
