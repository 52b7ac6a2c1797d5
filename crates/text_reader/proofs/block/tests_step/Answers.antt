-- `text_reader::block::tests_step` meets its contract: what its invariant (Invariants.antt) leaves to show. Assumes nothing.
use native.Mathlib.Omega.{arith}
use native.Mathlib.Numerals.{add-one}
use Prim.Native.Nat.{◌+◌, ◌-◌, ◌<◌}
use mathlib.Core.Path.{◌≡◌, refl, sym, ap, ◌∙◌}
use lib.ListN.{length, take, replicate, length-set}
use lib.Seq.{take-suc-set}
use Rattle.std.proofs.lemmas.Result.{err_from_is_err_and}
use Rattle.fields.proofs.ReaderLaws.{prepend_none, each-no, each_more, each-end}
use Rattle.soc.specs.Record.{no_test}
use Rattle.text_lines.proofs.LevelLaws.{spare-set, spare-padded}
use Rattle.fields.specs.Readers.{got}
use Rattle.text_lines.specs.Kinds.{test_line}
use Rattle.text_reader.specs.Lines.{line}
use Rattle.text_line_reader.specs.Due.{lines_at}
use Rattle.text_reader.proofs.StepLaws.{step_no, step_got}
use Rattle.text_reader.proofs.block.tests_step.Goals as goal
use Rattle.text_reader.proofs.block.tests_step.Goals.{In_ok-test}

-- the test that was read
tested : (c : In_ok-test) → let t = c.args.text.now in
    line (test_line c.args.m (1 + c.loop-i.i) c.args.power) (lines_at t c.loop-i.place) ≡ got c.in_ok-test.test (lines_at t c.in_ok-test.next)
tested c = let e : 1 + c.loop-i.i ≡ c.loop-i.i + 1 = omega arith in rw e (step_got c.in_ok-test.ensures)

pub loop-i-init : goal.loop-i-init
loop-i-init c = let e : c.args.n - 0 ≡ c.args.n = omega arith in
    (refl, c.requires.0, ap (replicate 8) c.no_test-list.ensures, rw e (sym (prepend_none _)))

pub test_step-requires : goal.test_step-requires
test_step-requires c = c.loop-i.invariant.1

pub returns-in_err-test : goal.returns-in_err-test
returns-in_err-test c =
    let p = err_from_is_err_and c.from_residual.result c.from_residual.ensures.1 in
    let e : 1 + c.loop-i.i ≡ c.loop-i.i + 1 = omega arith in
    rw (p.1, p.2) (sym (c.loop-i.invariant.3 ∙ each-no _ 1 c.args.n c.loop-i.i _ _ _ (omega arith) (rw e (step_no c.in_err-test.ensures))))

pub loop-i-preserved : goal.loop-i-preserved
loop-i-preserved c = let v = c.in_ok-test.test in
    let h : c.loop-i.i < length c.loop-i.list = omega arith in (
      simp length-set c.loop-i.invariant.0,
      c.in_ok-test.ensures.inside,
      spare-set 8 no_test c.loop-i.list c.loop-i.i c.loop-i.invariant.2 v (omega arith),
      c.loop-i.invariant.3 ∙ each_more _ 1 c.args.n c.loop-i.i (take c.loop-i.i c.loop-i.list) _ v _ (omega arith) (tested (goal.at.loop-i-preserved c).In_ok-test) ∙ rw (add-one, take-suc-set c.loop-i.list c.loop-i.i v h),
    )

pub returns : goal.returns
returns c = let q : c.loop-i.i ≡ c.args.n = omega arith in (
  rw q at (sym (c.loop-i.invariant.3 ∙ each-end _ 1 c.args.n c.loop-i.i _ _ (omega arith))),
  c.loop-i.invariant.1,
  spare-padded 8 no_test c.loop-i.list c.args.n (rw q at c.loop-i.invariant.2) c.loop-i.invariant.0 (omega arith),
)
