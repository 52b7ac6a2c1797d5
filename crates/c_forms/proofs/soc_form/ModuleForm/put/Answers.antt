-- `c_forms::soc_form::ModuleForm::put` meets its contract: each part is put behind the one before it. Assumes nothing.
use borrow.Author.Rules.{rules}
use native.Mathlib.Omega.{arith}
use Rattle.c_forms.specs.SocForm.{module_bytes}
use Rattle.c_forms.proofs.PutOfLaws.{then_put, sized-put}
use Rattle.c_forms.proofs.SignedLaws.{word-back}
use Rattle.c_forms.proofs.soc_form.ModuleForm.put.Goals as goal

pub returns : goal.returns
unfolding module_bytes
returns c = let d = c.args.self in
    let position = rw (
      c.cast_unsigned.ensures,
      word-back d.x (record { sfits = search rules }),
      c.cast_unsigned-2.ensures,
      word-back d.y (record { sfits = search rules }),
    ) at c.put_each-c.ensures in
    sized-put (omega arith)
    (then_put (omega arith) (then_put (omega arith) (then_put (omega arith) c.put_each-a.ensures c.put_each-b.ensures) position) c.put_each.ensures)
