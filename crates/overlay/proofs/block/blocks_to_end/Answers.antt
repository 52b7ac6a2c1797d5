-- `overlay::block::blocks_to_end` meets its contract: what its invariant (Invariants.antt) leaves to show. Assumes nothing.
use native.Mathlib.Omega.{arith}
use Prim.Native.Nat.{◌+◌, ◌-◌, ◌≤◌}
use mathlib.Core.Path.{◌≡◌, refl, sym, ◌∙◌}
use mathlib.Core.Bool.{true, false}
use lib.ListN.{length-set, get_or, set}
use lib.Seq.{get_or-set_other}
use Rattle.std.proofs.lemmas.Result.{err_from_is_err_and}
use Rattle.text_line_reader.specs.Due.{lines_at}
use Rattle.text_reader.proofs.MarkLaws.{Marking, marking_start, marking_next}
use Rattle.text_reader.proofs.StepLaws.{step_no, step_got}
use Rattle.overlay.specs.Overlay.{blocks, to_end, places, put}
use Rattle.overlay.proofs.BlockLaws.{block_within, filled_by, blocks-no, blocks_more, blocks_on, blocks_end, line_none, line_some}
use Rattle.overlay.proofs.BlockMarks.{block-lines, none_there}
use Rattle.overlay.proofs.block.blocks_to_end.Goals as goal
use Rattle.overlay.proofs.block.blocks_to_end.Goals.{In_ok-block}

-- the number of the block that was read
bound : (c : In_ok-block) → (c.loop.low ≤ c.in_ok-block.block.number) × (c.in_ok-block.block.number ≤ 39)
bound c = block_within _ _ _ _ _ (step_got c.in_ok-block.ensures)

-- the places that are filled with it, and behind it
behind : (c : In_ok-block) → let b = c.in_ok-block.block in
    places c.args.o (lines_at c.args.text.now c.args.p)
    ≡ filled_by (put (record { has = c.loop.has; modules = c.loop.modules }) b) (to_end (blocks c.args.o (41 - (c.loop.counter + 1)) (b.number + 1)) (lines_at c.args.text.now c.in_ok-block.next))
behind c = c.loop.invariant.5 ∙ blocks_more _ 41 c.loop.counter c.loop.low _ _ (omega arith) _ _ (step_got c.in_ok-block.ensures)

pub loop-init : goal.loop-init
unfolding places
loop-init c = (omega arith, omega arith, refl, refl, c.requires, rw c.no_module-modules.ensures, marking_start c.args.m _ _ _ _ (none_there 40 c.args.m))

pub one_block-requires : goal.one_block-requires
one_block-requires c = c.loop.invariant.4

pub returns-in_err-block : goal.returns-in_err-block
returns-in_err-block c = let p = err_from_is_err_and c.from_residual.result c.from_residual.ensures.1 in
    rw (p.1, p.2) (sym (c.loop.invariant.5 ∙ blocks-no _ 41 c.loop.counter c.loop.low _ _ (omega arith) _ (step_no c.in_err-block.ensures)))

pub bounds-has-block : goal.bounds-has-block
bounds-has-block c = let b = bound (goal.at.bounds-has-block c).In_ok-block in omega (arith, c.loop.invariant.2)

pub bounds-modules-block : goal.bounds-modules-block
bounds-modules-block c = let b = bound (goal.at.bounds-modules-block c).In_ok-block in omega (arith, c.loop.invariant.3)

pub overflow_add-low : goal.overflow_add-low
overflow_add-low c = let b = bound (goal.at.overflow_add-low c).In_ok-block in omega arith

pub loop-preserved : goal.loop-preserved
loop-preserved c = let l = c.loop in
    let k = (goal.at.loop-preserved c).In_ok-block in
    let b = bound k in (
      omega arith,
      omega arith,
      simp length-set l.invariant.2,
      simp length-set l.invariant.3,
      c.in_ok-block.ensures.inside,
      behind k ∙ blocks_on (put (record { has = l.has; modules = l.modules }) c.in_ok-block.block) (blocks c.args.o (41 - (l.counter + 1)) (c.in_ok-block.block.number + 1)) _
          (line_some c.args.text.now c.in_ok-block.next c.due_line.result c.due_line.ensures c.is_none.ensures c.if-is_none.false),
      marking_next c.args.m l.low c.in_ok-block.block.number _ _ _ _ _ _ _ _ l.invariant.6 b.0
          (block-lines _ _ _ _ _ (step_got c.in_ok-block.ensures)) (λ n. get_or-set_other l.has _ c.args.m true false (λ q. n (sym q)))
          c.marked-marks.ensures,
    )

pub returns-after-loop : goal.returns-after-loop
returns-after-loop c = let z : ⊥ = omega arith in absurd z

pub returns-then-is_none : goal.returns-then-is_none
returns-then-is_none c = let l = c.loop in
    let k = (goal.at.returns-then-is_none c).In_ok-block in
    let z = line_none c.args.text.now c.in_ok-block.next c.due_line.result c.due_line.ensures c.is_none.ensures c.if-is_none.true in
    let b = bound k in (
      sym (behind k ∙ blocks_end _ (blocks c.args.o (41 - (l.counter + 1)) (c.in_ok-block.block.number + 1)) _ z),
      λ h.
          rw z at
          (Marking.marks
          (marking_next c.args.m l.low c.in_ok-block.block.number (get_or (set l.has c.in_ok-block.block.number true) c.args.m false) _ _ _ _ _ _ _
          l.invariant.6 b.0 (block-lines _ _ _ _ _ (step_got c.in_ok-block.ensures))
          (λ n. get_or-set_other l.has _ c.args.m true false (λ q. n (sym q))) c.marked-marks.ensures)
          h),
    )
