-- `overlay::read::read_overlay_marked` meets its contract: the text is too long, or has a byte that is not allowed, or is read line by line.
-- Assumes nothing.
use borrow.Author.Tests.{le-leb, lt-leb}
use native.Mathlib.Omega.{arith}
use Prim.Native.Nat.{◌≤◌}
use mathlib.Core.Path.{sym, ap, ◌∙◌}
use lib.ListN.{length}
use Rattle.std.specs.Prelude.{Err}
use Rattle.soc.specs.Limits.{text_max}
use Rattle.overlay.specs.Overlay.{unless_bad, read_overlay}
use Rattle.overlay.proofs.BlockMarks.{refused_marked}
use Rattle.overlay.proofs.read.read_overlay_marked.Goals as goal

pub returns-then-text-gt-TEXT_MAX : goal.returns-then-text-gt-TEXT_MAX
unfolding read_overlay
returns-then-text-gt-TEXT_MAX c = let t = c.args.text.now in
    rw (lt-leb (length t) text_max c.if-text-gt-TEXT_MAX.true) (refused_marked _ _ _ _ _ (ap Err c.at.ensures))

pub returns-in-Some : goal.returns-in-Some
unfolding read_overlay unless_bad
returns-in-Some c = let t = c.args.text.now in
    let short : length t ≤ text_max = omega arith in
    rw (le-leb (length t) text_max short, sym c.bad_byte.ensures ∙ c.in-Some.is) (refused_marked _ _ _ _ _ (ap Err c.at-in-Some.ensures))

pub returns : goal.returns
unfolding read_overlay unless_bad
returns c = let t = c.args.text.now in
    let short : length t ≤ text_max = omega arith in
    rw (le-leb (length t) text_max short, sym c.bad_byte.ensures ∙ c.in_default.is) c.read_lines.ensures
