-- `listing::entry::put_listed` meets its contract. The first line decides as in the definition, and the text is what stands behind it. Assumes nothing.
use native.Mathlib.Omega.{arith}
use Prim.Native.Nat.{ℕ, ◌≤◌}
use mathlib.Core.Path.{◌≡◌, sym, ap, ◌∙◌}
use mathlib.Core.List.{List, [], ◌∷◌}
use lib.ListN.{length, drop}
use Rattle.units.specs.Refusals.{refused}
use Rattle.units.specs.declared.Refusal.{Refusal}
use Rattle.fields.specs.declared.line.OneLine.{OneLine}
use Rattle.buffer.proofs.PutLaws.{part_from, part-rest}
use Rattle.text_reader.specs.Reading.{read_soc}
use Rattle.fields.specs.WrittenLines.{written_lines}
use Rattle.listing.specs.Asked.{text_behind}
use Rattle.listing.specs.Listing.{refusal_fields, text_printed, listing_max}
use Rattle.listing.specs.Room.{refusal_room}
use Rattle.listing.proofs.AskedLaws.{first-line}
use Rattle.listing.proofs.ListingLaws.{put_as, listed-no, listed-says}
use Rattle.listing.proofs.entry.put_listed.Goals as goal
use Rattle.listing.proofs.entry.put_listed.Goals.{After-line_at-line}

-- the first line ends within the input
inside : (c : After-line_at-line) → let o = c.line_at-line.result in (o.to ≤ o.next) × (o.next ≤ length c.args.input.now)
inside c = let f = first-line c.args.input.now in rw c.line_at-line.ensures (f.end, f.inside)

-- and is the part behind the first line
behind : (c : After-line_at-line) → let t = c.args.input.now in part_from c.line_at-line.result.next t ≡ text_behind t
behind c = let t = c.args.input.now in
    part-rest c.line_at-line.result.next t ∙ ap (λ (o : OneLine). drop o.next t) c.line_at-line.ensures

pub slice_bounds-put_text-count : goal.slice_bounds-put_text-count
slice_bounds-put_text-count c = omega (arith, inside (goal.at.slice_bounds-put_text-count c).After-line_at-line)

pub slice_bounds-put_text-start : goal.slice_bounds-put_text-start
slice_bounds-put_text-start c = omega (arith, inside (goal.at.slice_bounds-put_text-start c).After-line_at-line)

pub returns-in-Ok : goal.returns-in-Ok
returns-in-Ok c = let t = c.args.input.now in
    let k = c.in-Ok.k in
    put_as listing_max (listed-says t k (sym c.in-Ok.ensures) ∙ ap (λ (x : List ℕ). written_lines (text_printed k (read_soc x))) (sym (behind (goal.at.returns-in-Ok c).After-line_at-line))) (omega arith) c.put_text.ensures

pub returns-in-Err : goal.returns-in-Err
returns-in-Err c = let l : c.at.result ≡ refused c.in-Err.fault 0 = c.at.ensures in
    put_as refusal_room (listed-no c.args.input.now c.in-Err.fault (sym c.in-Err.ensures) ∙ ap (λ (r : Refusal). written_lines (refusal_fields r ∷ [])) (sym l)) (omega arith) c.put_refusal.ensures
