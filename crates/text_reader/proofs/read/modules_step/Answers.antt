-- `text_reader::read::modules_step` meets its contract: what its invariant (Invariants.antt) leaves to show. Assumes nothing.
use native.Mathlib.Omega.{arith}
use native.Mathlib.Numerals.{add-one}
use borrow.Author.Tests.{le-ltb}
use Prim.Native.Nat.{◌-◌, ◌<◌}
use mathlib.Core.Path.{◌≡◌, refl, sym, ap, ◌∙◌}
use lib.Dec.{ltb}
use lib.ListN.{length, take, replicate, length-set}
use lib.Seq.{take-suc-set}
use Rattle.std.proofs.lemmas.Result.{err_from_is_err_and}
use Rattle.fields.proofs.ReaderLaws.{prepend_none}
use Rattle.soc.specs.Record.{no_module}
use Rattle.text_lines.proofs.LevelLaws.{spare-set, spare-padded}
use Rattle.text_reader.proofs.LinesOfLaws.{module_lines_lem}
use Rattle.text_reader.proofs.MarkLaws.{marking_start, marking_next, next-number}
use Rattle.text_reader.proofs.ModulesLaws.{modules-no, modules-more, modules-end}
use Rattle.text_reader.proofs.StepLaws.{step_no, step_got}
use Rattle.text_reader.proofs.read.modules_step.Goals as goal

pub loop-i-init : goal.loop-i-init
loop-i-init c = let e : c.args.n - 0 ≡ c.args.n = omega arith in (
  refl,
  c.requires.0,
  ap (replicate 40) c.no_module-modules.ensures,
  rw e (sym (prepend_none _)),
  marking_start c.args.m _ _ _ _ (le-ltb c.args.m 0 (omega arith)),
)

pub module_step-requires : goal.module_step-requires
module_step-requires c = c.loop-i.invariant.1

pub returns-in_err-module : goal.returns-in_err-module
returns-in_err-module c =
    let p = err_from_is_err_and c.from_residual.result c.from_residual.ensures.1 in
    rw (p.1, p.2) (sym (c.loop-i.invariant.3 ∙ modules-no _ c.args.n c.loop-i.i _ _ _ _ (omega arith) (step_no c.in_err-module.ensures)))

pub loop-i-preserved : goal.loop-i-preserved
loop-i-preserved c = let d = c.in_ok-module.«module» in
    let h : c.loop-i.i < length c.loop-i.modules = omega arith in
    let g = step_got c.in_ok-module.ensures in (
      simp length-set c.loop-i.invariant.0,
      c.in_ok-module.ensures.inside,
      spare-set 40 no_module c.loop-i.modules c.loop-i.i c.loop-i.invariant.2 d (omega arith),
      c.loop-i.invariant.3 ∙ modules-more _ c.args.n c.loop-i.i _ (take c.loop-i.i c.loop-i.modules) _ d _ (omega arith) g ∙ rw (add-one, take-suc-set c.loop-i.modules c.loop-i.i d h),
      marking_next c.args.m c.loop-i.i c.loop-i.i _ _ _ _ _ _ _ _ c.loop-i.invariant.4 (omega arith)
          (module_lines_lem _ _ _ _ _ _ g)
          (next-number c.args.m c.loop-i.i) c.marked-marks.ensures,
    )

pub returns : goal.returns
returns c = let q : c.loop-i.i ≡ c.args.n = omega arith in (
  rw q at (sym (c.loop-i.invariant.3 ∙ modules-end _ c.args.n c.loop-i.i _ _ _ (omega arith))),
  c.loop-i.invariant.1,
  spare-padded 40 no_module c.loop-i.modules c.args.n (rw q at c.loop-i.invariant.2) c.loop-i.invariant.0 (omega arith),
  λ h. c.loop-i.invariant.4.marks (ap (ltb c.args.m) q ∙ h),
)
