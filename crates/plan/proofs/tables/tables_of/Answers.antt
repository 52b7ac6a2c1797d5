-- `plan::tables::tables_of` meets its contract: the numbers in use are those of the planned modules (`numbers_are`), each is the number of a module, so
-- its times are answered, and they make the tables one row longer (`tables_more`). Assumes nothing.
use Prim.Native.Nat.{◌<◌}
use mathlib.Core.Path.{◌≡◌, sym, ◌∙◌}
use native.Mathlib.Omega.{arith}
use lib.ListN.{length, get_or, take}
use Rattle.std.specs.Prelude.{Ok}
use Rattle.soc.specs.Planned.{planned_of}
use Rattle.wrapper_scans.proofs.KeptLaws.{good-count}
use Rattle.wrapper_times.specs.TimeAnswers.{module_times_answer}
use Rattle.wrapper_times.proofs.PromisedTimes.{times-are}
use Rattle.plan.proofs.TableLaws.{planned-number, numbers_are, tables_none, tables_more}
use Rattle.plan.proofs.tables.tables_of.Goals as goal
use Rattle.plan.proofs.tables.tables_of.Goals.{In-loop-k}

module _ (c : In-loop-k) where
  abbrev numbers : take c.args.p.count c.args.p.numbers ≡ planned_of c.args.s
  numbers = numbers_are c.args.s c.requires.numbers

  -- the next one is one of them
  below : c.loop-k.k < length (planned_of c.args.s)
  below = rw numbers at c.loop-k-test.true

  there : get_or (planned_of c.args.s) c.loop-k.k 0 < c.args.s.module_count
  there = (planned-number c.args.s c.loop-k.k below).0

pub loop-k-init : goal.loop-k-init
loop-k-init c = tables_none c.args.capture.0 c.args.s c.args.w.0

pub overflow_cast-number : goal.overflow_cast-number
overflow_cast-number c = let i = (goal.at.overflow_cast-number c).In-loop-k in
    rw (numbers i) (omega (arith, there i, good-count c.args.s c.requires.good))

pub unwrap-times-requires : goal.unwrap-times-requires
unwrap-times-requires c = let i = (goal.at.unwrap-times-requires c).In-loop-k in
    let r = c.requires in
    let number = get_or (planned_of c.args.s) c.loop-k.k 0 in
    let e : c.module_times.result ≡ module_times_answer c.args.s number c.args.w.0 c.args.capture.0 = c.module_times.ensures ∙ rw (numbers i) in
    rw (e, times-are c.args.capture.0 r.captures r.capturing c.args.s number r.good (there i) c.args.w.0 r.low r.narrow)

pub loop-k-preserved : goal.loop-k-preserved
loop-k-preserved c = let i = (goal.at.loop-k-preserved c).In-loop-k in
    let r = c.requires in
    let number = get_or (planned_of c.args.s) c.loop-k.k 0 in
    let e : module_times_answer c.args.s number c.args.w.0 c.args.capture.0 ≡ Ok c.unwrap-times.result =
    sym (c.module_times.ensures ∙ rw (numbers i)) ∙ c.unwrap-times.ensures
    in
    tables_more c.args.capture.0 c.args.s c.args.w.0 c.loop-k.k r.captures r.capturing r.good (below i) r.low r.narrow e c.with_times-t.ensures c.loop-k.invariant

pub returns : goal.returns
returns c = let e : c.loop-k.k ≡ length (planned_of c.args.s) = rw (← numbers_are c.args.s c.requires.numbers) (omega arith) in
    rw e at c.loop-k.invariant
