-- `listing::entry::put_text` meets its contract: what is refused is put, else what is printed for the record. Assumes nothing.
use native.Mathlib.Omega.{arith}
use mathlib.Core.Path.{sym, ap}
use Rattle.fields.specs.WrittenLines.{written_lines}
use Rattle.listing.specs.Listing.{listing_max, text_printed}
use Rattle.listing.proofs.ListingLaws.{put_as}
use Rattle.listing.proofs.entry.put_text.Goals as goal

pub returns-in-Ok : goal.returns-in-Ok
unfolding text_printed
returns-in-Ok c = put_as listing_max (ap (λ a. written_lines (text_printed c.args.k a)) (sym c.in-Ok.ensures)) (omega arith) c.put_answer.ensures
