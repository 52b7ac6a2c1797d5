-- `listing::put_lines::put_form` meets its contract. The loop's invariant, `Formed`: what stands before the place in the form is put, and
-- the rest is due. A turn is `formed-figure` or `formed-next`. Assumes nothing.
use Rattle.listing.proofs.FormLaws.{Formed}
use Rattle.listing.proofs.put_lines.put_form.Given as goal

abbrev pub invariant-loop-b : goal.invariant-loop-b
invariant-loop-b l = Formed l.form l.figures l.at l.initial.buf l.buf l.e l.k l.b-index
