-- `listing::put_lines::put_modules` meets its contract: what its invariant (Invariants.antt) leaves to show. Assumes nothing.
use native.Mathlib.Omega.{arith}
use Prim.Native.Nat.{◌+◌, ◌*◌, ◌≤◌}
use mathlib.Core.Path.{◌≡◌, refl, ◌∙◌}
use mathlib.Core.List.{[], ◌∷◌, ◌++◌}
use lib.ListN.{length, get_or, take, length-append, length-take}
use lib.Seq.{take_all}
use Rattle.buffer.proofs.PutLaws.{put-none, put_then}
use Rattle.plan_record.specs.Record.{module_places, no_placed, modules_of}
use Rattle.listing.specs.Room.{module_room}
use Rattle.fields.specs.WrittenLines.{written_lines}
use Rattle.listing.specs.Listing.{module_fields, module_lines}
use Rattle.listing.proofs.LineLaws.{modules_text, modules-more}
use Rattle.listing.proofs.put_lines.put_modules.Goals as goal
use Rattle.listing.proofs.put_lines.put_modules.Goals.{In-loop-m}

-- the text of one more
more : (c : In-loop-m) →
    let p = c.args.p in
    modules_text (take (c.loop-m.m-index + 1) (modules_of p)) ≡ modules_text (take c.loop-m.m-index (modules_of p)) ++ written_lines (module_fields (get_or (modules_of p) c.loop-m.m-index no_placed) ∷ [])
more c = modules-more c.loop-m.m-index (modules_of c.args.p) no_placed c.loop-m-test.true

pub loop-m-init : goal.loop-m-init
unfolding module_lines written_lines
loop-m-init c = (refl, put-none _ _, omega arith)

pub loop-m-preserved : goal.loop-m-preserved
loop-m-preserved c = let m = more (goal.at.loop-m-preserved c).In-loop-m in (
  c.put_module_line-e.auto.buf ∙ c.loop-m.invariant.0,
  rw m (put_then (omega (arith, c.requires.1)) c.loop-m.invariant.1 c.put_module_line-e.ensures.0),
  rw (m, length-append) (omega (arith, c.loop-m.invariant.2, c.put_module_line-e.ensures.1)),
)

pub returns : goal.returns
returns c = let all = take_all c.loop-m.m-index (modules_of c.args.p) c.loop-m-test.false in
    let l = length-take c.args.p.module_count c.args.p.modules in
    let long : length (modules_text (take c.loop-m.m-index (modules_of c.args.p))) ≤ module_places * module_room = omega (arith, c.loop-m.invariant.2, c.loop-m.auto.m-index-end, c.requires.0) in
    (rw all at c.loop-m.invariant.1, rw all at long)
