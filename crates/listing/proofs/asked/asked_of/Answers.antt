-- `listing::asked::asked_of` meets its contract. The line that it is given is the input's first, which lies in the input; the tests are those of the
-- definition. Assumes nothing.
use native.Mathlib.Omega.{arith}
use Prim.Native.Nat.{◌≤◌}
use mathlib.Core.Path.{sym, ap, ◌∙◌}
use lib.ListN.{length, take}
use lib.Seq.{length-take-le}
use Rattle.fields.specs.Fields.{fields_of}
use Rattle.fields.specs.declared.line.OneLine.{OneLine}
use Rattle.text_lines.specs.Parts.{whole}
use Rattle.listing.specs.Asked.{plan_line}
use Rattle.listing.proofs.AskedLaws.{first-line, asked-long, asked-short}
use Rattle.listing.proofs.asked.asked_of.Goals as goal
use Rattle.listing.proofs.asked.asked_of.Goals.{Start}

-- the line lies in the input
inside : (s : Start) → s.args.line.to ≤ length s.args.input.now
inside c = let f = first-line c.args.input.now in rw c.requires (omega arith)

pub returns-then-line-gt-PLAN_LINE_MAX : goal.returns-then-line-gt-PLAN_LINE_MAX
returns-then-line-gt-PLAN_LINE_MAX c = sym (asked-long c.args.input.now (omega (arith, rw c.requires at c.if-line-gt-PLAN_LINE_MAX.true)))

pub slice_bounds-plan_line-end : goal.slice_bounds-plan_line-end
slice_bounds-plan_line-end c = sym (length-take-le _ _ (inside (goal.at.slice_bounds-plan_line-end c).Start))

pub returns : goal.returns
returns c = let t = c.args.input.now in
    c.plan_line.ensures ∙ ap (λ (o : OneLine). whole plan_line (fields_of (take o.to t))) c.requires ∙ sym (asked-short t (omega (arith, rw c.requires at c.if-line-gt-PLAN_LINE_MAX.false)))
