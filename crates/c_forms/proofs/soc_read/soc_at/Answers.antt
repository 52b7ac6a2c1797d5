-- `c_forms::soc_read::soc_at` meets its contract: what its invariant (Invariants.antt) leaves to show, and its fields are those of `soc_at`,
-- in order. Assumes nothing.
use native.Mathlib.Omega.{arith}
use mathlib.Core.Path.{◌∙◌}
use Rattle.little_endian.proofs.RowLaws.{filled_none, filled_step, filled-end}
use Rattle.soc.specs.Limits.{modules_max}
use Rattle.soc.specs.Record.{no_module}
use Rattle.c_forms.specs.SocForm.{module_length, modules_from, module_at, soc_at}
use Rattle.c_forms.proofs.soc_read.soc_at.Goals as goal

pub loop-i-init : goal.loop-i-init
loop-i-init c = rw c.no_module-modules.ensures (filled_none modules_max no_module (module_at c.args.b.now) module_length modules_from)

pub loop-i-preserved : goal.loop-i-preserved
loop-i-preserved c =
    rw c.loop-i.invariant
    (filled_step modules_max no_module _ (module_at c.args.b.now) module_length c.loop-i.i modules_from c.loop-i-test.true c.read.ensures)

pub returns : goal.returns
unfolding soc_at
returns c =
    let e = c.loop-i.invariant ∙ filled-end modules_max no_module (module_at c.args.b.now) module_length c.loop-i.i modules_from (omega (arith, c.loop-i.auto.i-end, c.loop-i-test.false)) in
    rw (c.word_at.ensures, c.name_at.ensures, c.word_at-2.ensures, c.word_at-3.ensures, c.word_at-4.ensures, e)
